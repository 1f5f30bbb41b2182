-- Capacities worked out backwards: the last of several first; and they fit 64 bits. Assumes nothing.
use mathlib.Core.Path.{◌≡◌, refl, ap₂}
use mathlib.Core.Bool.{true, false}
use mathlib.Core.List.{List, [], ◌∷◌, ◌++◌}
use Prim.Native.Nat.{ℕ, zero, suc, ◌+◌, ◌-◌, ◌≤◌}
use native.Mathlib.Omega.{arith}
use lib.IntN.{ℤ, pos, negsuc, sub_ℕ, ◌+ℤ◌, ◌-ℤ◌}
use lib.ListN.{get_or}
use lib.Signed.{mag, lt_z}
use borrow.Author.Tests.{lt-ltb, le-ltb, ltb-true}
use Rattle.rules.specs.Intervals.{Interval, borrowed, capacity, capacities}
use Rattle.rules.proofs.Cases.{by_le, differ}

-- the last of several intervals
pub capacities_last : (xs : List Interval) (x : Interval) (next : ℤ) →
    capacities (xs ++ (x ∷ [])) next ≡ capacities xs (capacity x next) ++ (capacity x next ∷ [])
capacities_last [] x next = refl
capacities_last (y ∷ xs) x next =
    let rest = capacities_last xs x next in
    let first : get_or (capacities (xs ++ (x ∷ [])) next) 0 next ≡ get_or (capacities xs (capacity x next)) 0 (capacity x next) = rw rest (first_of xs) in
    ap₂ (λ (a : ℤ) (l : List ℤ). capacity y a ∷ l) first rest
  where
    first_of : (xs : List Interval) →
        get_or (capacities xs (capacity x next) ++ (capacity x next ∷ [])) 0 next ≡ get_or (capacities xs (capacity x next)) 0 (capacity x next)
    first_of [] = refl
    first_of (y ∷ xs) = refl

-- what is borrowed, by the sign
pub borrowed_below : (z : ℤ) → lt_z z (pos 0) ≡ true → z ≡ borrowed z
borrowed_below (pos n) e = absurd (omega (arith, ltb-true n 0 e))
borrowed_below (negsuc n) e = refl

pub borrowed_none : (z : ℤ) → lt_z z (pos 0) ≡ false → pos 0 ≡ borrowed z
borrowed_none (pos n) e = refl
borrowed_none (negsuc n) e = differ e

-- how large a difference, a sum and a capacity can be
difference_small : (a b : ℕ) → mag (sub_ℕ a b) ≤ a + b
difference_small a b = by_le b a (λ l. rw (le-ltb a b l) (omega arith)) (λ l. rw (lt-ltb a b l) (omega arith))

pub minus_small : (a b : ℕ) → mag (pos a -ℤ pos b) ≤ a + b
minus_small a zero = omega arith
minus_small a (suc b) = difference_small a (suc b)

sum_small : (y z : ℤ) → mag (y +ℤ z) ≤ mag y + mag z + 1
sum_small (pos a) (pos b) = omega arith
sum_small (pos a) (negsuc b) = omega (arith, difference_small a (suc b))
sum_small (negsuc a) (pos b) = omega (arith, difference_small b (suc a))
sum_small (negsuc a) (negsuc b) = omega arith

borrowed_small : (next : ℤ) → mag (borrowed next) ≤ mag next
borrowed_small (pos n) = omega arith
borrowed_small (negsuc n) = omega arith

pub capacity_small : (x : Interval) (next : ℤ) → mag (capacity x next) ≤ (x.end - x.begin) + x.work + mag next + 1
capacity_small x next =
    omega (
      arith,
      sum_small (pos (x.end - x.begin) -ℤ pos x.work) (borrowed next),
      minus_small (x.end - x.begin) x.work,
      borrowed_small next,
    )
