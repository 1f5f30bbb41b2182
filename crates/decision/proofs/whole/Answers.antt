-- `decision::whole` meets its contract: whole where it stands and ends inside the image and at or before the last offset. Assumes nothing.
use Rattle.std.proofs.Common.{arith, ◌∙◌}
use Rattle.decision.proofs.WholeRecords.{past_readable, before_last}
use Rattle.decision.proofs.whole.Goals as goal
use Rattle.decision.proofs.whole.Goals.{then-to-size-via-then-to-size, then-to-size-via-else-to-size+then-to-size-2}

pub returns-then-to-size : goal.returns-then-to-size
returns-then-to-size c = past_readable _ _ _ (elim c.then-to-size.branch [ then-to-size-via-then-to-size w ↦ omega arith | then-to-size-via-else-to-size+then-to-size-2 w ↦ omega arith ])

pub returns : goal.returns
returns c = c.marked.ensures ∙ before_last _ _ _ (omega arith)
