-- Signed numbers below zero and not, and a test of their bits. Assumes nothing.
use mathlib.Core.Path.{◌≡◌, refl, ◌∙◌}
use mathlib.Core.Bool.{true, false}
use Prim.Native.Nat.{ℕ}
use native.Mathlib.Omega.{arith}
use lib.Dec.{ltb→lt}
use lib.IntN.{ℤ, pos, negsuc}
use lib.Signed.{◌<ℤ◌, ◌≤ℤ◌, lt_z, lt_z_no}
use mir.Syntax.{w64}
use mir.Val.{SFits, to_z, of_z}
use mir.Facts.{to_z-of_z}

-- a number below zero, and one that is not
pub by_negative : {A : Type 0} (z : ℤ) → z <ℤ pos 0 → ((n : ℕ) → z ≡ negsuc n → A) → A
by_negative (pos n) l go = absurd (omega (arith, ltb→lt n 0 l.lt))
by_negative (negsuc n) l go = go n refl

pub by_not_negative : {A : Type 0} (z : ℤ) → pos 0 ≤ℤ z → ((n : ℕ) → z ≡ pos n → A) → A
by_not_negative (pos n) l go = go n refl
by_not_negative (negsuc n) l go = absurd l.le

-- a number of 64 bits is read back from them as it was
module _ (z : ℤ) (f : SFits w64 z) where
  kept : to_z w64 (of_z w64 z) ≡ z
  kept = to_z-of_z f

  -- so a test of its bits is a test of it
  pub below_of : lt_z (to_z w64 (of_z w64 z)) (pos 0) ≡ true → z <ℤ pos 0
  below_of e = let k : lt_z z (pos 0) ≡ true = rw kept at e in record { lt = rw k tt }

  pub above_of : lt_z (to_z w64 (of_z w64 z)) (pos 0) ≡ false → pos 0 ≤ℤ z
  above_of e = let k : lt_z z (pos 0) ≡ false = rw kept at e in lt_z_no (rw k tt)

  -- below zero, and not
  pub kept_neg : (n : ℕ) → z ≡ negsuc n → to_z w64 (of_z w64 z) ≡ negsuc n
  kept_neg n e = kept ∙ e

  pub kept_pos : (n : ℕ) → z ≡ pos n → to_z w64 (of_z w64 z) ≡ pos n
  kept_pos n e = kept ∙ e
