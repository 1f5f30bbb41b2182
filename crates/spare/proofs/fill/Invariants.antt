-- `spare::fill` meets its contract. The invariant: for every set that the rows are kept of, the capacities of the intervals passed are stored.
-- Assumes nothing.
use Rattle.rules.specs.Tasks.{Set}
use Rattle.spare.specs.Walking.{CanFill}
use Rattle.spare.proofs.Filling.{Filling}
use Rattle.spare.proofs.fill.Given as goal

abbrev pub invariant-loop-w : goal.invariant-loop-w
invariant-loop-w l = (ts : Set) → CanFill ts l.kept l.many l.initial.out → Filling ts l.kept l.many l.initial.out l.dues l.w l.next l.at l.out

abbrev pub decreases-loop-w : goal.decreases-loop-w
decreases-loop-w l = l.w.behind
