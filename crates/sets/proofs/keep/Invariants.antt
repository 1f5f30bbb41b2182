-- `sets::keep` meets its contract. The invariant: from task i on the jobs are summed up and the rows are filled. Assumes nothing.
use Rattle.numbers.specs.Numbers.{set_from}
use Rattle.sets.proofs.Cycles.{JobsFrom}
use Rattle.sets.proofs.RowsKept.{RowsFrom}
use Rattle.sets.proofs.keep.Given as goal

abbrev pub invariant-loop-k : goal.invariant-loop-k
invariant-loop-k l = let s = set_from l.n l.numbers l.at in JobsFrom l.h s.tasks l.n l.k l.all l.after l.many × RowsFrom l.initial.kept s l.h l.k l.kept
