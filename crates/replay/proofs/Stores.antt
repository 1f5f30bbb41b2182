-- Numbers stored in an array: what the rule book does to its slots. Assumes nothing.
use mathlib.Core.Path.{◌≡◌, refl, ap}
use mathlib.Core.List.{List, [], ◌∷◌}
use Prim.Native.Nat.{ℕ, zero, suc, ◌+◌, ◌<◌}
use native.Mathlib.Omega.{arith}
use native.Mathlib.Numerals.{add-one}
use lib.ListN.{length, get_or, set}
use Rattle.rules.specs.Priority.{start_job}
use Rattle.rules.specs.Offsets.{put_slot}

-- a start stores one more in its task's slot
pub start_stores : (x : List ℕ) (i : ℕ) → i < length x → set x i (get_or x i 0 + 1) ≡ start_job x i
start_stores [] i l = absurd (omega arith)
start_stores (a ∷ x) zero l = rw (add-one a)
start_stores (a ∷ x) (suc i) l = ap (λ (y : List ℕ). a ∷ y) (start_stores x i (omega arith))

-- a store puts a number in its slot
pub put_stores : (x : List ℕ) (i v : ℕ) → i < length x → set x i v ≡ put_slot x i v
put_stores [] i v l = absurd (omega arith)
put_stores (a ∷ x) zero v l = refl
put_stores (a ∷ x) (suc i) v l = ap (λ (y : List ℕ). a ∷ y) (put_stores x i v (omega arith))
