-- `timetables::some_earlier` meets its contract. Assumes nothing.
use Rattle.std.proofs.Common.{◌∙◌, arith}
use Rattle.timetables.proofs.Instants.{one_earlier, none_earlier}
use Rattle.timetables.proofs.some_earlier.Goals as goal

pub returns-then-r-start : goal.returns-then-r-start
returns-then-r-start c = one_earlier _ _ c.loop-r.r-index (omega arith) c.if-r-start.true ∙ grind arith

pub returns : goal.returns
returns c = none_earlier _ _ (omega arith) (λ k l. c.loop-r.invariant k (omega arith)) ∙ grind arith
