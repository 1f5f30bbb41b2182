-- `sets::all_jobs` meets its contract. The invariant: sum is the jobs of the tasks from i on, many those of a task with period after. Assumes nothing.
use Rattle.numbers.specs.Numbers.{set_from}
use Rattle.sets.proofs.Cycles.{JobsFrom}
use Rattle.sets.proofs.all_jobs.Given as goal

abbrev pub invariant-loop-i : goal.invariant-loop-i
invariant-loop-i l = JobsFrom l.h (set_from l.n l.numbers l.at).tasks l.n l.i l.sum l.after l.many
