-- `numbers::set_from` meets its contract. The loop's invariant: as many slots as turns were made hold their tasks. Assumes nothing.
use mathlib.Core.Path.{◌≡◌}
use Prim.Native.Nat.{ℕ, ◌+◌, ◌*◌, ◌<◌}
use lib.ListN.{length, get_or}
use Rattle.rules.specs.Dispatcher.{numbers_a_task, zero_task}
use Rattle.numbers.specs.Numbers.{task_from}
use Rattle.numbers.proofs.set_from.Given as goal

abbrev pub invariant-loop-i : goal.invariant-loop-i
invariant-loop-i l = record {
  long : length l.task-items ≡ 16;
  filled : (k : ℕ) → k < l.i → get_or l.task-items k zero_task ≡ task_from l.numbers (l.at + numbers_a_task * k);
}
