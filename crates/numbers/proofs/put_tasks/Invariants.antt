-- `numbers::put_tasks` meets its contract. The loop's invariant: the numbers of as many tasks as turns were made are stored. Assumes nothing.
use mathlib.Core.Path.{◌≡◌}
use lib.ListN.{take}
use lib.Seq.{sets}
use Rattle.rules.specs.Dispatcher.{task_numbers}
use Rattle.numbers.proofs.put_tasks.Given as goal

abbrev pub invariant-loop-k : goal.invariant-loop-k
invariant-loop-k l = l.numbers ≡ sets l.initial.numbers l.at (task_numbers (take l.k l.t-items))
