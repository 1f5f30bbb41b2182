-- `records::first_offsets` meets its contract. The invariant: the tasks of the records passed have their offsets. Assumes nothing.
use Rattle.records.proofs.OffsetsTold.{ToldBefore}
use Rattle.records.proofs.first_offsets.Given as goal

abbrev pub invariant-loop-j : goal.invariant-loop-j
invariant-loop-j l = ToldBefore l.image l.n l.idles l.inversions l.offsets l.filled l.j
