-- `framing::past` meets its contract: the place behind so many records, by the row of their mark. Assumes nothing.
use Rattle.framing.proofs.Runs.{none_passed, some_passed, once_rank, own_rank}
use Rattle.framing.proofs.past.Goals as goal

pub returns-then-count-eq0 : goal.returns-then-count-eq0
returns-then-count-eq0 g c = none_passed _ _ _ _ c.if-count-eq0.true

pub returns-then-row : goal.returns-then-row
returns-then-row g c =
    let read = rw c.mark.ensures at c.row-row.ensures in some_passed _ _ _ _ read c.if-count-eq0.false (once_rank _ read c.if-row.true)

pub returns-else-row : goal.returns-else-row
returns-else-row g c =
    let read = rw c.mark.ensures at c.row-row.ensures in some_passed _ _ _ _ read c.if-count-eq0.false (own_rank _ read c.if-row.false)
