-- `spare::count` meets its contract. The invariant: for every set that the rows are kept of, what is counted and what is still to come are all intervals.
-- Assumes nothing.
use Rattle.rules.specs.Tasks.{Set}
use Rattle.sets.specs.Kept.{Keeps}
use Rattle.spare.proofs.Counting.{Counting}
use Rattle.spare.proofs.count.Given as goal

abbrev pub invariant-loop-w : goal.invariant-loop-w
invariant-loop-w l = (ts : Set) → Keeps ts l.kept → Counting ts l.kept l.dues l.w l.many

abbrev pub decreases-loop-w : goal.decreases-loop-w
decreases-loop-w l = l.w.behind
