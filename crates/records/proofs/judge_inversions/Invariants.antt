-- `records::judge_inversions` meets its contract. The invariant: the first fault is that of the PV records from j on. Assumes nothing.
use Rattle.records.proofs.RecordsJudged.{InversionsFrom}
use Rattle.records.proofs.judge_inversions.Given as goal

abbrev pub invariant-loop-j : goal.invariant-loop-j
invariant-loop-j l = InversionsFrom l.image l.kept l.idles l.inversions l.task l.job l.at l.j
