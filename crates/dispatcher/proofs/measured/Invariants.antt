-- `dispatcher::measured` meets its contract. The invariant: what was worked out of the first tasks. Assumes nothing.
use Rattle.dispatcher.proofs.Measuring.{SoFar}
use Rattle.dispatcher.proofs.measured.Given as goal

abbrev pub invariant-loop-k : goal.invariant-loop-k
invariant-loop-k l = SoFar l.numbers l.kept l.release l.k
