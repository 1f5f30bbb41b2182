-- `timetables::lower_waits` meets its contract. Assumes nothing.
use Rattle.std.proofs.Common.{◌∙◌, arith}
use Rattle.timetables.proofs.Instants.{one_come, none_come}
use Rattle.timetables.proofs.lower_waits.Goals as goal

pub returns-then-r-start : goal.returns-then-r-start
returns-then-r-start c = one_come _ _ c.loop-r.r-index (omega arith) c.if-r-start.true ∙ grind arith

pub returns : goal.returns
returns c = none_come _ _ (λ k l. c.loop-r.invariant k (omega arith)) ∙ grind arith
