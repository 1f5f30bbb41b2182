-- Differences of naturals in signed numbers of 64 bits. Assumes nothing.
use mathlib.Core.Path.{◌≡◌, ap}
use Prim.Native.Nat.{ℕ, ◌+◌}
use native.Mathlib.Omega.{arith}
use lib.IntN.{pos, negsuc, ◌-ℤ◌}
use Rattle.rules.proofs.Cases.{by_le}
use Rattle.rules.proofs.Signed.{minus_above, minus_below}

-- the difference of two naturals is the same where both have grown by a number
pub minus_both : (a b c : ℕ) → pos (a + c) -ℤ pos (b + c) ≡ pos a -ℤ pos b
minus_both a b c =
    by_le b a (λ l. rw (minus_above a b l, minus_above (a + c) (b + c) (omega arith)) (ap pos (omega arith)))
    (λ l. rw (minus_below a b l, minus_below (a + c) (b + c) (omega arith)) (ap negsuc (omega arith)))
