-- Signed numbers: their order, and the difference of two naturals. Assumes nothing.
use mathlib.Core.Path.{◌≡◌, refl, sym, ◌∙◌, ap}
use mathlib.Core.Bool.{Bool, true, false}
use Prim.Native.Nat.{ℕ, zero, suc, ◌+◌, ◌-◌, ◌≤◌, ◌<◌}
use native.Mathlib.Omega.{arith}
use lib.Dec.{T, ltb→lt, lt→ltb, le→leb}
use lib.IntN.{ℤ, pos, negsuc, ◌-ℤ◌}
use lib.Signed.{lt_z, ◌≤ℤ◌, ◌<ℤ◌, lt_z_yes, <ℤ-≤ℤ_trans}
use borrow.Author.Tests.{lt-ltb, le-ltb}
use Rattle.rules.proofs.Cases.{by_bool, by_eq, by_le, differ}

-- a test that holds says true, and back
holds_true : (b : Bool) → T b → b ≡ true
holds_true true t = refl
holds_true false t = absurd t

true_holds : (b : Bool) → b ≡ true → T b
true_holds true e = tt
true_holds false e = differ (sym e)

-- one number is below another exactly where the test says so
pub by_below : {A : Type 0} (a b : ℤ) → (lt_z a b ≡ true → a <ℤ b → A) → (lt_z a b ≡ false → (a <ℤ b → ⊥) → A) → A
by_below a b p q = by_bool (lt_z a b) (λ e. p e (lt_z_yes (true_holds (lt_z a b) e))) (λ e. q e (λ l. differ (sym (holds_true (lt_z a b) l.lt) ∙ e)))

below_le : (a b : ℤ) → a <ℤ b → a ≤ℤ b
below_le (pos a) (pos b) l = record { le = le→leb a b (omega (arith, ltb→lt a b l.lt)) }
below_le (pos a) (negsuc b) l = absurd l.lt
below_le (negsuc a) (pos b) l = record { le = tt }
below_le (negsuc a) (negsuc b) l = record { le = le→leb b a (omega (arith, ltb→lt b a l.lt)) }

pub below_trans : {a b c : ℤ} → a <ℤ b → b <ℤ c → a <ℤ c
below_trans {b} {c} l m = <ℤ-≤ℤ_trans l (below_le b c m)

-- two numbers of which neither is below the other are one
pub one_number : (a b : ℤ) → (a <ℤ b → ⊥) → (b <ℤ a → ⊥) → a ≡ b
one_number (pos a) (pos b) p q =
    by_eq a b (λ e. ap pos e) (λ n. by_le a b (λ l. absurd (p (lt_z_yes (lt→ltb a b (omega arith))))) (λ l. absurd (q (lt_z_yes (lt→ltb b a l)))))
one_number (pos a) (negsuc b) p q = absurd (q (lt_z_yes tt))
one_number (negsuc a) (pos b) p q = absurd (p (lt_z_yes tt))
one_number (negsuc a) (negsuc b) p q =
    by_eq a b (λ e. ap negsuc e) (λ n. by_le a b (λ l. absurd (q (lt_z_yes (lt→ltb a b (omega arith))))) (λ l. absurd (p (lt_z_yes (lt→ltb b a l)))))

-- the difference of two naturals, by their order
pub minus_above : (a b : ℕ) → b ≤ a → pos a -ℤ pos b ≡ pos (a - b)
minus_above a zero l = ap pos (omega arith)
minus_above a (suc b) l = rw (le-ltb a (suc b) l)

pub minus_below : (a b : ℕ) → a < b → pos a -ℤ pos b ≡ negsuc (b - suc a)
minus_below a zero l = absurd (omega arith)
minus_below a (suc b) l = rw (lt-ltb a (suc b) l)

-- it is not positive where the first is not the larger, and not below a bound that the second exceeds the first by at most
pub minus_not_positive : (a b : ℕ) → a ≤ b → pos 0 <ℤ (pos a -ℤ pos b) → ⊥
minus_not_positive a b l p =
    by_le b a
    (λ m. let q : pos 0 <ℤ pos (a - b) = rw (minus_above a b m) at p in omega (arith, ltb→lt 0 (a - b) q.lt))
    (λ m. let q : pos 0 <ℤ negsuc (b - suc a) = rw (minus_below a b m) at p in absurd q.lt)

pub minus_not_below : (a b n : ℕ) → b ≤ a + suc n → (pos a -ℤ pos b) <ℤ negsuc n → ⊥
minus_not_below a b n l p =
    by_le b a
    (λ m. let q : pos (a - b) <ℤ negsuc n = rw (minus_above a b m) at p in absurd q.lt)
    (λ m. let q : negsuc (b - suc a) <ℤ negsuc n = rw (minus_below a b m) at p in omega (arith, ltb→lt n (b - suc a) q.lt))
