-- Capacities: those worked out meet source document 001's rule, and no others do. What an interval owes to the one before it is what work is left over of
-- the time so far. Assumes nothing.
use mathlib.Core.Path.{◌≡◌, refl, sym, ◌∙◌, ap, ap₂}
use mathlib.Core.List.{List, [], ◌∷◌}
use Prim.Native.Nat.{ℕ, zero, suc, ◌+◌, ◌-◌, ◌≤◌, ◌<◌}
use native.Mathlib.Omega.{arith}
use lib.IntN.{ℤ, pos, negsuc, ◌+ℤ◌, ◌-ℤ◌, +ℤ_idr}
use lib.Dec.{ltb→lt}
use lib.Signed.{◌<ℤ◌}
use lib.ListN.{length}
use borrow.Author.Tests.{lt-ltb, le-ltb}
use Rattle.rules.specs.Tasks.{Set}
use Rattle.rules.specs.Intervals.{Interval, borrowed, capacity, capacities, intervals, spare}
use Rattle.rules.specs.IntervalRules.{interval_at, capacity_at, MeetsRule}
use Rattle.rules.proofs.Cases.{by_le}
use Rattle.rules.proofs.Signed.{minus_above, minus_below}
use Rattle.rules.proofs.FewIntervals.{capacities_length}

-- length minus declared times
abbrev own : Interval → ℤ
own x = pos (x.end - x.begin) -ℤ pos x.work

-- source 001's rule
meets_next : (xs : List Interval) (j : ℕ) → suc j < length xs →
    capacity_at (capacities xs (pos 0)) j ≡ own (interval_at xs j) +ℤ borrowed (capacity_at (capacities xs (pos 0)) (suc j))
meets_next [] j l = absurd (omega arith)
meets_next (x ∷ []) j l = absurd (omega arith)
meets_next (x ∷ y ∷ xs) zero l = refl
meets_next (x ∷ y ∷ xs) (suc j) l = meets_next (y ∷ xs) j (omega arith)

meets_last : (xs : List Interval) (j : ℕ) → suc j ≡ length xs → capacity_at (capacities xs (pos 0)) j ≡ own (interval_at xs j)
meets_last [] j e = absurd (omega arith)
meets_last (x ∷ []) zero e = +ℤ_idr (own x)
meets_last (x ∷ []) (suc j) e = absurd (omega arith)
meets_last (x ∷ y ∷ xs) zero e = absurd (omega arith)
meets_last (x ∷ y ∷ xs) (suc j) e = meets_last (y ∷ xs) j (omega arith)

pub capacities_meet : (xs : List Interval) → MeetsRule xs (capacities xs (pos 0))
capacities_meet xs = record { as_many = capacities_length xs (pos 0); before_another = meets_next xs; last = meets_last xs }

pub spare_meets : (ts : Set) (h : ℕ) → MeetsRule (intervals ts h) (spare ts h)
unfolding spare
spare_meets ts h = capacities_meet (intervals ts h)

-- and only those worked out meet it
behind_first : {x : Interval} {xs : List Interval} {c : ℤ} {cs : List ℤ} → MeetsRule (x ∷ xs) (c ∷ cs) → MeetsRule xs cs
behind_first m = record {
  as_many = omega (arith, m.as_many);
  before_another = λ j l. m.before_another (suc j) (omega arith);
  last = λ j e. m.last (suc j) (omega arith);
}

first_meets : (x : Interval) (xs : List Interval) (c : ℤ) (cs : List ℤ) → MeetsRule (x ∷ xs) (c ∷ cs) → c ≡ capacity x (capacity_at cs 0)
first_meets x [] c [] m = m.last 0 refl ∙ sym (+ℤ_idr (own x))
first_meets x [] c (d ∷ cs) m = absurd (omega (arith, m.as_many))
first_meets x (y ∷ xs) c cs m = m.before_another 0 (omega arith)

pub one_capacities : (xs : List Interval) (cs : List ℤ) → MeetsRule xs cs → cs ≡ capacities xs (pos 0)
one_capacities [] [] m = refl
one_capacities [] (c ∷ cs) m = absurd (omega (arith, m.as_many))
one_capacities (x ∷ xs) [] m = absurd (omega (arith, m.as_many))
one_capacities (x ∷ xs) (c ∷ cs) m =
    let e = one_capacities xs cs (behind_first m) in
    ap₂ ◌∷◌ (first_meets x xs c cs m ∙ ap (λ (ds : List ℤ). capacity x (capacity_at ds 0)) e) e

-- what an interval with this capacity takes from the one before it
abbrev debt : ℤ → ℕ
debt (pos n) = 0
debt (negsuc n) = suc n

debt_minus : (a b : ℕ) → debt (pos a -ℤ pos b) ≡ b - a
debt_minus a b = by_le b a (λ l. rw (minus_above a b l) (omega arith)) (λ l. rw (minus_below a b l) (omega arith))

-- a capacity is one difference: length minus declared times and the next one's debt
owing : (l w : ℕ) (next : ℤ) → (pos l -ℤ pos w) +ℤ borrowed next ≡ pos l -ℤ pos (w + debt next)
owing l w (pos n) =
    let z : w + 0 ≡ w = omega arith in
    +ℤ_idr (pos l -ℤ pos w) ∙ ap (λ (x : ℕ). pos l -ℤ pos x) (sym z)
owing l w (negsuc n) =
    by_le w l
    (λ u. rw (minus_above l w u)
    (by_le (w + suc n) l (λ v. rw (minus_above l (w + suc n) v, le-ltb (l - w) (suc n) (omega arith)) (ap pos (omega arith)))
    (λ v. rw (minus_below l (w + suc n) v, lt-ltb (l - w) (suc n) (omega arith)) (ap negsuc (omega arith)))))
    (λ u. rw (minus_below l w u, minus_below l (w + suc n) (omega arith)) (ap negsuc (omega arith)))

-- with so many ticks to spare before them, the work of the intervals so far never passes the time so far
abbrev pub Fits : ℕ → List Interval → Type 0
Fits to-spare [] = Unit {0}
Fits to-spare (x ∷ xs) = (x.work ≤ to-spare + (x.end - x.begin)) × Fits (to-spare + (x.end - x.begin) - x.work) xs

-- then the first takes no more than these from before it
first_debt : (to-spare : ℕ) (xs : List Interval) → Fits to-spare xs → debt (capacity_at (capacities xs (pos 0)) 0) ≤ to-spare
first_debt to-spare [] f = omega arith
first_debt to-spare (x ∷ xs) f =
    let next : ℤ = capacity_at (capacities xs (pos 0)) 0 in
    rw (owing (x.end - x.begin) x.work next, debt_minus (x.end - x.begin) (x.work + debt next))
    (omega (arith, f.0, first_debt (to-spare + (x.end - x.begin) - x.work) xs f.1))

-- where there are none the first capacity is not negative
no_debt : (c : ℤ) → debt c ≤ 0 → c <ℤ pos 0 → ⊥
no_debt (pos n) d l = omega (arith, ltb→lt n 0 l.lt)
no_debt (negsuc n) d l = omega arith

pub not_owing : (xs : List Interval) → Fits 0 xs → capacity_at (capacities xs (pos 0)) 0 <ℤ pos 0 → ⊥
not_owing xs f = no_debt (capacity_at (capacities xs (pos 0)) 0) (first_debt 0 xs f)
