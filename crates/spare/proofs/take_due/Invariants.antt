-- `spare::take_due` meets its contract. The invariant: the jobs of the tasks passed are taken. Assumes nothing.
use Rattle.spare.specs.Walking.{Taken}
use Rattle.spare.proofs.take_due.Given as goal

abbrev pub invariant-loop-i : goal.invariant-loop-i
invariant-loop-i l = Taken l.kept l.initial.dues l.e l.i (record { work = l.work; longest = l.longest }) l.dues
