-- The least common multiple of two numbers by their greatest common divisor, and that by remainders; a number of ticks up to the limit. Assumes nothing.
use mathlib.Core.Path.{◌≡◌, sym, ◌∙◌}
use Prim.Native.Nat.{ℕ, ◌*◌, ◌/◌, ◌%◌, ◌≤◌, ◌<◌, ◌∣◌}
use native.Mathlib.Omega.{arith}
use native.Mathlib.Nat.{dvd_refl, dvd-zero, dvd_trans, dvd-mul_left, dvd-mul_right, dvd-mod_iff, mul-dvd-mul_left, mul-dvd-mul_right, dvd_of_mul-dvd-mul_left, dvd_of_mul-dvd-mul_right, pos_of_dvd_of_pos, div-mul_cancel, mul-div_cancel', mul_assoc, mul_comm, div-le_self, mul-le-mul}
use borrow.Author.Tests.{le-leb, lt-leb}
use Rattle.rules.specs.Tasks.{limits, IsLeastMultiple}
use Rattle.std.specs.Prelude.{Some, None}
use Rattle.rules.proofs.Cases.{by_le, clash}
use Rattle.rules.proofs.Hyperperiod.{have_multiple, of_multiple}
use Rattle.sets.specs.Sets.{capped, IsGreatestDivisor, MultipleTold}

-- a number up to the limit is told
pub capped_within : (h : ℕ) → h ≤ limits.ticks → Some h ≡ capped h
capped_within h l = simp (le-leb h limits.ticks l)

-- a number above the limit is not
pub capped_above : (h : ℕ) → limits.ticks < h → None ≡ capped h
capped_above h l = simp (lt-leb h limits.ticks l)

-- what is told is the number, up to the limit
pub told_within : (h r : ℕ) → Some r ≡ capped h → (r ≡ h) × (h ≤ limits.ticks)
told_within h r e = by_le h limits.ticks (λ l. (cc (capped_within h l), l)) (λ a. clash (cc (capped_above h a)))

-- where nothing is told it is above the limit
pub told_long : (h : ℕ) → None ≡ capped h → limits.ticks < h
told_long h e = by_le h limits.ticks (λ l. clash (cc (capped_within h l))) (λ a. a)

-- of a number and a multiple of it up to the limit, that multiple is told
pub multiple_told : {a b : ℕ} → a ∣ b → b ≤ limits.ticks → MultipleTold a b (Some b)
multiple_told {a} {b} d l = record { multiple = b; is = of_multiple d; told = capped_within b l }

-- a quotient of a number up to the limit times another fits 32 bits
pub product_fits : (t g h : ℕ) → t ≤ limits.ticks → h ≤ limits.ticks → t / g * h < 4294967296
product_fits t g h a b = omega (arith, mul-le-mul {n₁ = t / g} {m₁ = h} {n₂ = 65535} {m₂ = 65535} (omega (arith, div-le_self t g)) b)

-- a number and 0 have it for their greatest common divisor
pub with_zero : (a : ℕ) → IsGreatestDivisor a 0 a
with_zero a = record { left = dvd_refl a; right = dvd-zero a; greatest = λ e p q. p }

-- two numbers have the greatest common divisor of the second and the remainder by it
pub by_remainder : {a b d : ℕ} → IsGreatestDivisor b (a % b) d → IsGreatestDivisor a b d
by_remainder {a} {b} {d} g = record {
  left = (dvd-mod_iff d g.left).0 g.right;
  right = g.left;
  greatest = λ e p q. g.greatest e q ((dvd-mod_iff e q).1 p);
}

-- one of two numbers, divided by their greatest common divisor, times the other is their least common multiple
module _ (t h g : ℕ) (p : 0 < t) (q : 0 < h) (is : IsGreatestDivisor h t g) where
  -- that times the divisor is the product of both
  product : t / g * h * g ≡ t * h
  product = rw (mul_assoc (t / g) h g, mul_comm h g, ← mul_assoc (t / g) g h, div-mul_cancel g {m = t} is.right)

  -- the least common multiple leaves of that product a common divisor, so that it is no smaller
  no_smaller : {l : ℕ} → IsLeastMultiple t h l → t / g * h ∣ l
  no_smaller {l} least =
      let e : ℕ = t * h / l in
      let whole : l * e ≡ t * h = mul-div_cancel' l (least.least (t * h) (dvd-mul_right t h) (dvd-mul_left h t)) in
      let of-h : e ∣ h = dvd_of_mul-dvd-mul_left {k = t} e p (rw whole at (mul-dvd-mul_right t least.left e)) in
      let of-t : e ∣ t = dvd_of_mul-dvd-mul_right {k = h} e q (rw (whole, mul_comm h e) at (mul-dvd-mul_right h least.right e)) in
      let inside : t / g * h * e ∣ l * e = rw (product ∙ sym whole) at (mul-dvd-mul_left e (t / g * h) (is.greatest e of-h of-t)) in
      dvd_of_mul-dvd-mul_right {k = e} (t / g * h) (pos_of_dvd_of_pos of-t p) inside

  pub by_divisor : IsLeastMultiple t h (t / g * h)
  by_divisor =
      let l = (have_multiple t h p q).1 in
      record {
        left = dvd_of_mul-dvd-mul_right {k = g} t (pos_of_dvd_of_pos is.right p) (rw product (mul-dvd-mul_left g t is.left));
        right = dvd-mul_left h (t / g);
        least = λ k d e. dvd_trans (t / g * h) (no_smaller l) (l.least k d e);
      }
