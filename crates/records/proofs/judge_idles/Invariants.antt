-- `records::judge_idles` meets its contract. The invariant: the first fault is that of the ID records from j on. Assumes nothing.
use Rattle.sets.specs.Kept.{tasks_in, hyperperiod_in}
use Rattle.records.proofs.RecordsJudged.{IdlesFrom}
use Rattle.records.proofs.judge_idles.Given as goal

abbrev pub invariant-loop-j : goal.invariant-loop-j
invariant-loop-j l = IdlesFrom l.image (tasks_in l.kept) (hyperperiod_in l.kept) l.idles l.from l.at l.j
