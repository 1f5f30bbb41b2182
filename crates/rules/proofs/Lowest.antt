-- The laws of the lowest number that passes a test. Assumes nothing.
use mathlib.Core.Path.{◌≡◌, refl, sym, ◌∙◌, ap}
use mathlib.Core.Bool.{Bool, true, false}
use mathlib.Core.Option.{none, some}
use Prim.Native.Nat.{ℕ, zero, suc, ◌+◌, ◌≤◌, ◌<◌}
use native.Mathlib.Omega.{arith}
use Rattle.rules.specs.Setting.{lowest_from, lowest}
use Rattle.rules.specs.DecisionRule.{Lowest}
use Rattle.rules.proofs.Cases.{by_bool, by_option, by_eq, differ, clash}

-- the lowest that passes
pub lowest_from_empty : (m i : ℕ) (p : ℕ → Bool) → ((j : ℕ) → p j ≡ false) → lowest_from m i p ≡ none
lowest_from_empty zero i p h = refl
lowest_from_empty (suc m) i p h = rw (h i, lowest_from) (lowest_from_empty m (suc i) p h)

pub lowest_from_some : (m i : ℕ) (p : ℕ → Bool) (k : ℕ) → lowest_from m i p ≡ some k → p k ≡ true
lowest_from_some zero i p k h = clash (cc)
lowest_from_some (suc m) i p k h =
    by_bool (p i)
    (λ e. let g : some i ≡ some k = rw (e, lowest_from) at h in
    let q : k ≡ i = cc in
    rw q e)
    (λ e. lowest_from_some m (suc i) p k (rw (e, lowest_from) at h))

-- it is among those asked
pub lowest_from_below : (m i : ℕ) (passes : ℕ → Bool) (k : ℕ) → lowest_from m i passes ≡ some k → k < i + m
lowest_from_below zero i passes k h = clash (cc)
lowest_from_below (suc m) i passes k h =
    by_bool (passes i) (λ e. let g : some i ≡ some k = rw (e, lowest_from) at h in let q : k ≡ i = cc in omega arith)
    (λ e. omega (arith, lowest_from_below m (suc i) passes k (rw (e, lowest_from) at h)))

-- a number below it does not pass
pub below_lowest : (m i : ℕ) (p : ℕ → Bool) (k : ℕ) → lowest_from m i p ≡ some k → (j : ℕ) → i ≤ j → j < k → p j ≡ false
below_lowest zero i p k h j lo hi = clash (cc)
below_lowest (suc m) i p k h j lo hi =
    by_bool (p i)
    (λ e. let g : some i ≡ some k = rw (e, lowest_from) at h in
    let q : i ≡ k = cc in
    absurd (omega arith))
    (λ e. by_eq j i (λ q. rw q e) (λ q. below_lowest m (suc i) p k (rw (e, lowest_from) at h) j (omega arith) hi))

-- where there is no lowest, none passes
pub none_lowest : (m i : ℕ) (p : ℕ → Bool) → lowest_from m i p ≡ none → (j : ℕ) → i ≤ j → j < i + m → p j ≡ false
none_lowest zero i p h j lo hi = absurd (omega arith)
none_lowest (suc m) i p h j lo hi =
    by_bool (p i) (λ e. let g : some i ≡ none = rw (e, lowest_from) at h in clash (cc))
    (λ e. by_eq j i (λ q. rw q e) (λ q. none_lowest m (suc i) p (rw (e, lowest_from) at h) j (omega arith) (omega arith)))

-- one that passes, and none below it, is the lowest
pub lowest_from_first : (m i : ℕ) (p : ℕ → Bool) (k : ℕ) → i ≤ k → k < i + m → p k ≡ true → ((j : ℕ) → j < k → p j ≡ true → ⊥) →
    lowest_from m i p ≡ some k
lowest_from_first zero i p k lo hi h none_lower = absurd (omega arith)
lowest_from_first (suc m) i p k lo hi h none_lower =
    by_eq i k (λ q. rw (ap p q ∙ h, lowest_from) (ap some q))
    (λ q. by_bool (p i) (λ e. absurd (none_lower i (omega arith) e))
    (λ e. rw (e, lowest_from) (lowest_from_first m (suc i) p k (omega arith) (omega arith) h none_lower)))

-- the only one that passes is the lowest
pub lowest_from_one : (m i : ℕ) (p : ℕ → Bool) (k : ℕ) → i ≤ k → k < i + m → p k ≡ true → ((j : ℕ) → p j ≡ true → j ≡ k) →
    lowest_from m i p ≡ some k
lowest_from_one m i p k lo hi h only = lowest_from_first m i p k lo hi h (λ j l e. omega (arith, only j e))

-- a test that n numbers pass exactly where something holds of them, which holds of no other number
pub record Tests (n : ℕ) (p : ℕ → Bool) (Holds : ℕ → Type 0) : Type 0 where
  pub below : (i : ℕ) → Holds i → i < n
  pub says : (i : ℕ) → i < n → p i ≡ true → Holds i
  pub passes : (i : ℕ) → Holds i → p i ≡ true

module _ {n : ℕ} {p : ℕ → Bool} {Holds : ℕ → Type 0} (T : Tests n p Holds) where
  -- the lowest that passes is the lowest of which it holds
  pub lowest_is : {i : ℕ} → lowest n p ≡ some i → Lowest Holds i
  lowest_is {i} e =
      let b = lowest_from_below n 0 p i e in
      record {
        holds = T.says i (omega arith) (lowest_from_some n 0 p i e);
        none_lower = λ j l w. differ (sym (T.passes j w) ∙ below_lowest n 0 p i e j (omega arith) l);
      }

  pub is_lowest : {i : ℕ} → Lowest Holds i → lowest n p ≡ some i
  is_lowest {i} w =
      let b = T.below i w.holds in
      lowest_from_first n 0 p i (omega arith) (omega arith) (T.passes i w.holds) (λ j l e. w.none_lower j l (T.says j (omega arith) e))

  -- where none passes, it holds of none
  pub none_holds : lowest n p ≡ none → (i : ℕ) → Holds i → ⊥
  none_holds e i w =
      let b = T.below i w in
      differ (sym (T.passes i w) ∙ none_lowest n 0 p e i (omega arith) (omega arith))

  pub holds_none : ((i : ℕ) → Holds i → ⊥) → lowest n p ≡ none
  holds_none none-w = by_option (lowest n p) (λ e. e) (λ i e. absurd (none-w i (lowest_is e).holds))
