-- `records::idle_keeps` meets its contract: the end is compared by a difference, and nothing wraps. Assumes nothing.
use Rattle.records.proofs.OwnRules.{idle_empty, idle_behind, idle_ends}
use Rattle.records.proofs.idle_keeps.Goals as goal

pub returns-then-r-lt1 : goal.returns-then-r-lt1
returns-then-r-lt1 c =
    let a = c.args in
    idle_empty a.h a.r c.if-r-lt1.true

pub returns-then-h-r : goal.returns-then-h-r
returns-then-h-r c =
    let a = c.args in
    idle_behind a.h a.r c.if-r-lt1.false c.if-h-r.true

pub returns : goal.returns
returns c =
    let a = c.args in
    idle_ends a.h a.r c.if-r-lt1.false c.if-h-r.false
