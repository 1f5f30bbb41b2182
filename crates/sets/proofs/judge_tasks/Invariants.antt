-- `sets::judge_tasks` meets its contract. The invariant: the first fault is that of the tasks from i on. Assumes nothing.
use Rattle.numbers.specs.Numbers.{set_from}
use Rattle.sets.proofs.Faults.{FaultsFrom}
use Rattle.sets.proofs.judge_tasks.Given as goal

abbrev pub invariant-loop-i : goal.invariant-loop-i
invariant-loop-i l = FaultsFrom (set_from l.n l.numbers l.at).tasks l.n l.i l.before
