-- `figures::put_times` meets its contract. Assumes nothing.
use Rattle.figures.proofs.Putting.{PutTo}
use Rattle.figures.proofs.put_times.Given as goal

abbrev pub invariant-loop-i : goal.invariant-loop-i
invariant-loop-i l = PutTo l.kept l.t l.initial.out l.i l.out
