-- `spare::last_deadlines` meets its contract. The invariant: the slots passed are filled. Assumes nothing.
use Rattle.spare.specs.Walking.{LastDeadlines}
use Rattle.spare.proofs.last_deadlines.Given as goal

abbrev pub invariant-loop-i : goal.invariant-loop-i
invariant-loop-i l = LastDeadlines l.kept l.i l.dues
