-- `derivation::first_offsets` meets its contract. The loop's invariant: each task passed has its offset, and `at` is the next one's. Assumes nothing.
use mathlib.Core.Path.{◌≡◌}
use Prim.Native.Nat.{ℕ, ◌*◌, ◌≤◌, ◌<◌}
use lib.ListN.{length, get_or}
use Rattle.derivation.specs.Parts.{sum_first}
use Rattle.derivation.specs.Putting.{begins}
use Rattle.derivation.proofs.first_offsets.Given as goal

abbrev pub invariant-loop-i : goal.invariant-loop-i
invariant-loop-i l = (l.at ≡ begins l.n l.c l.i) × (sum_first l.i l.c.each ≤ l.i * 65535) × (length l.offsets ≡ 16) × ((k : ℕ) → k < l.i → get_or l.offsets k 0 ≡ begins l.n l.c k)
