-- Numbers that are all 0, tested one by one; and tests that are joined. Assumes nothing.
use mathlib.Core.Path.{◌≡◌, refl, sym, ◌∙◌, ap}
use mathlib.Core.Bool.{Bool, true, false}
use mathlib.Core.List.{List, [], ◌∷◌}
use native.Mathlib.Omega.{arith}
use Prim.Native.Nat.{ℕ, zero, suc, ◌<◌}
use Rattle.std.specs.Prelude.{eqb}
use lib.ListN.{length, get_or}
use borrow.Author.Tests.{ne_eqb}
use Rattle.rules.specs.Tasks.{both}
use Rattle.rules.specs.Dispatcher.{number_count, all_zero, is_stopped}
use Rattle.numbers.specs.Numbers.{state_from}
use Rattle.numbers.proofs.StateNumbers.{numbers_of_state}

-- a joined test whose first part fails
pub fails_first : (a b : Bool) → a ≡ false → both a b ≡ false
fails_first a b e = rw e

-- or whose later part does
pub fails_later : (a b : Bool) → b ≡ false → both a b ≡ false
fails_later true b e = e
fails_later false b e = refl

-- numbers of which each is 0
all_are_zero : (x : List ℕ) → ((k : ℕ) → k < length x → get_or x k 0 ≡ 0) → all_zero x ≡ true
all_are_zero [] h = refl
all_are_zero (k ∷ x) h = rw (h 0 (omega arith), all_are_zero x (λ i l. h (suc i) (omega (arith, l))))

-- or one is not
one_is_not : (x : List ℕ) (k : ℕ) → k < length x → (get_or x k 0 ≡ 0 → ⊥) → all_zero x ≡ false
one_is_not [] k l n = absurd (omega (arith, l))
one_is_not (y ∷ x) zero l n = rw (ne_eqb y 0 n)
one_is_not (y ∷ x) (suc k) l n = fails_later (eqb y 0) (all_zero x) (one_is_not x k (omega (arith, l)) n)

-- a state is stopped where its numbers are so
module _ (lent : List ℕ) (long : length lent ≡ number_count) where
  its_numbers : all_zero lent ≡ is_stopped (state_from lent)
  its_numbers = sym (ap all_zero (numbers_of_state lent long))

  pub stopped_by : ((k : ℕ) → k < length lent → get_or lent k 0 ≡ 0) → true ≡ is_stopped (state_from lent)
  stopped_by all = sym (all_are_zero lent all) ∙ its_numbers

  pub not_stopped_by : (k : ℕ) → k < length lent → (get_or lent k 0 ≡ 0 → ⊥) → false ≡ is_stopped (state_from lent)
  not_stopped_by k l n = sym (one_is_not lent k l n) ∙ its_numbers
