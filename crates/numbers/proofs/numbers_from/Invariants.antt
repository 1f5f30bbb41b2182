-- `numbers::numbers_from` meets its contract. The loop's invariant: as many slots as turns were made hold their numbers. Assumes nothing.
use mathlib.Core.Path.{◌≡◌}
use Prim.Native.Nat.{ℕ, ◌+◌, ◌<◌}
use lib.ListN.{get_or}
use Rattle.numbers.specs.Numbers.{number_at}
use Rattle.numbers.proofs.numbers_from.Given as goal

abbrev pub invariant-loop-k : goal.invariant-loop-k
invariant-loop-k l = (i : ℕ) → i < l.k → get_or l.slot-items i 0 ≡ number_at l.numbers (l.at + i)
