-- The hyperperiod of a set, found by trial, is the least common multiple of its periods, the only one, and at least 1. Assumes nothing.
use mathlib.Core.Path.{◌≡◌}
use mathlib.Core.List.{List, [], ◌∷◌}
use Prim.Native.Nat.{ℕ, zero, suc, ◌+◌, ◌*◌, ◌%◌, ◌-◌, ◌≤◌, ◌<◌, ◌∣◌}
use native.Mathlib.Omega.{arith}
use native.Mathlib.Nat.{add-zero, zero-mul, mod-lt, dvd_refl, one-dvd, dvd_trans, dvd-add, dvd-sub, dvd-mod_iff, dvd-mul_left, dvd-mul_right, dvd_of_mod-eq-zero, mod-eq-zero_of_dvd, dvd_antisymm, le_of_dvd, pos_of_dvd_of_pos, one-le-mul, suc-mul, min-eq_left, min-eq_right, max-eq_left, max-eq_right}
use lib.ListN.{length, drop, length-drop}
use lib.Seq.{get_or-drop}
use Rattle.rules.specs.declared.Task.{Task}
use Rattle.rules.specs.Tasks.{Set, set_with, task_in, no_task, multiple_from, least_multiple, common_multiple, hyperperiod, IsLeastMultiple, IsHyperperiod}
use Rattle.rules.proofs.Cases.{by_nat, by_le}

module _ (a b : ℕ) where
  -- the first multiple of b from m on that a divides is m, or else the first from m + b on
  by_turn : (P : ℕ → Type 0) (turns m : ℕ) → (a ∣ m → P m) → ((a ∣ m → ⊥) → P (multiple_from turns a b (m + b))) → P (multiple_from (suc turns) a b m)
  by_turn P turns m here later =
      by_nat (m % a)
      (λ z. rw (z, multiple_from) (here (dvd_of_mod-eq-zero a z)))
      (λ r z. rw (z, multiple_from) (later (λ d. omega (arith, mod-eq-zero_of_dvd a d))))

  -- it is not before m
  from_on : (turns m : ℕ) → m ≤ multiple_from turns a b m
  from_on zero m = omega arith
  from_on (suc turns) m = by_turn (λ x. m ≤ x) turns m (λ d. omega arith) (λ n. omega (arith, from_on turns (m + b)))

  -- b divides it where b divides m
  a_multiple : (turns m : ℕ) → b ∣ m → b ∣ multiple_from turns a b m
  a_multiple zero m p = p
  a_multiple (suc turns) m p = by_turn (λ x. b ∣ x) turns m (λ d. p) (λ n. a_multiple turns (m + b) (dvd-add b p (dvd_refl b)))

  -- a divides it where a divides one of so many multiples
  found : (turns m i : ℕ) → i < turns → a ∣ m + i * b → a ∣ multiple_from turns a b m
  found zero m i l d = absurd (omega arith)
  found (suc turns) m zero l d = by_turn (λ x. a ∣ x) turns m (λ e. e) (λ n. absurd (n (rw (zero-mul, add-zero) at d)))
  found (suc turns) m (suc i) l d =
      by_turn (λ x. a ∣ x) turns m (λ e. e)
      (λ n. found turns (m + b) i (omega arith) (let e : m + suc i * b ≡ m + b + i * b = omega (arith, suc-mul i b) in rw e at d))

  -- no common multiple from m on is before it
  none_before : (turns m k : ℕ) → b ∣ m → m ≤ k → a ∣ k → b ∣ k → multiple_from turns a b m ≤ k
  none_before zero m k p l d q = l
  none_before (suc turns) m k p l d q =
      by_turn (λ x. x ≤ k) turns m (λ e. l)
      (λ n. by_le k m
      (λ s. let e : k ≡ m = omega arith in absurd (n (rw e at d)))
      (λ s. none_before turns (m + b) k (dvd-add b p (dvd_refl b)) (omega (arith, le_of_dvd {m = b} {n = k - m} (omega arith) (dvd-sub b q p))) d q))

-- a common multiple above 0 that is not above any other such divides every other
smallest_divides : {a b m : ℕ} → 0 < m → a ∣ m → b ∣ m → ((k : ℕ) → 0 < k → a ∣ k → b ∣ k → m ≤ k) → IsLeastMultiple a b m
smallest_divides {a} {b} {m} some left right smallest = record {
  left = left;
  right = right;
  least = λ k d e. by_nat (k % m)
      (λ z. dvd_of_mod-eq-zero m z)
      (λ r z. absurd (omega (arith, mod-lt k {m = m} some, smallest (k % m) (omega arith) ((dvd-mod_iff a left).1 d) ((dvd-mod_iff b right).1 e))));
}

-- so from b on it is the least common multiple
trial : (a b : ℕ) → 0 < a → 0 < b → IsLeastMultiple a b (multiple_from a a b b)
trial zero b p q = absurd (omega arith)
trial (suc c) b p q =
    let a = suc c in
    let product : a * b ≡ b + c * b = omega (arith, suc-mul c b) in
    smallest_divides (omega (arith, from_on a b a b)) (found a b a b c (omega arith) (rw product at (dvd-mul_right a b))) (a_multiple a b a b (dvd_refl b))
    (λ k s d e. none_before a b a b k (dvd_refl b) (le_of_dvd s e) d e)

-- the order of the two does not matter
turned : {a b m : ℕ} → IsLeastMultiple a b m → IsLeastMultiple b a m
turned p = record { left = p.right; right = p.left; least = λ k d e. p.least k e d }

-- the least common multiple by trial is the least common multiple
least_multiple_is : (a b : ℕ) → 0 < a → 0 < b → IsLeastMultiple a b (least_multiple a b)
least_multiple_is a b p q =
    by_le a b
    (λ l. rw (min-eq_left l, max-eq_right l) (trial a b p q))
    (λ g. let l : b ≤ a = omega arith in rw (min-eq_right l, max-eq_left l) (turned (trial b a q p)))

-- so two numbers of at least 1 have one
pub have_multiple : (a b : ℕ) → 0 < a → 0 < b → (m : ℕ) × IsLeastMultiple a b m
have_multiple a b p q = (least_multiple a b, least_multiple_is a b p q)

-- it is at least 1
pub multiple_positive : {a b m : ℕ} → 0 < a → 0 < b → IsLeastMultiple a b m → 0 < m
multiple_positive {a} {b} p q is = pos_of_dvd_of_pos (is.least (a * b) (dvd-mul_right a b) (dvd-mul_left b a)) (one-le-mul p q)

-- of a number and its multiple it is the multiple
pub of_multiple : {a b : ℕ} → a ∣ b → IsLeastMultiple a b b
of_multiple {a} {b} d = record { left = d; right = dvd_refl b; least = λ k p q. q }

-- of a number and 1 it is the number
pub with_one : (a : ℕ) → IsLeastMultiple a 1 a
with_one a = turned (of_multiple (one-dvd a))

-- every period is at least 1
abbrev pub Positive : List Task → Type 0
Positive ts = (i : ℕ) → i < length ts → 1 ≤ (task_in ts i).period

-- the hyperperiod of no task
pub no_periods : IsHyperperiod (set_with []) 1
no_periods = record { common = λ i l. absurd (omega arith); least = λ m c. one-dvd m }

-- with a task in front it is the least common multiple of that task's period and the others' hyperperiod
module _ (t : Task) {ts : List Task} {h m : ℕ} (others : IsHyperperiod (set_with ts) h) (both : IsLeastMultiple t.period h m) where
  each_divides : (i : ℕ) → i < length (t ∷ ts) → (task_in (t ∷ ts) i).period ∣ m
  each_divides zero l = both.left
  each_divides (suc i) l = dvd_trans (task_in ts i).period (others.common i (omega arith)) both.right

  pub one_period_more : IsHyperperiod (set_with (t ∷ ts)) m
  one_period_more = record {
    common = each_divides;
    least = λ k c. both.least k (c 0 (omega arith)) (others.least k (λ i l. c (suc i) (omega arith)));
  }

-- of one task it is its period
pub one_period : (t : Task) → IsHyperperiod (set_with (t ∷ [])) t.period
one_period t = one_period_more t no_periods (with_one t.period)

-- that of the tasks from a place on divides that of them all
pub rest_divides : {ts : List Task} {h k : ℕ} (i : ℕ) → IsHyperperiod (set_with ts) h → IsHyperperiod (set_with (drop i ts)) k → k ∣ h
rest_divides {ts} {h} i all rest =
    rest.least h (λ j l. rw (get_or-drop i ts j no_task) (all.common (i + j) (omega (arith, length-drop i ts))))

-- a set has one hyperperiod
pub one_hyperperiod : {ts : Set} {h h' : ℕ} → IsHyperperiod ts h → IsHyperperiod ts h' → h ≡ h'
one_hyperperiod {ts} {h} {h'} p q = dvd_antisymm (p.least h' q.common) (q.least h p.common)

-- the hyperperiod by trial is at least 1, and is the hyperperiod
tried : (ts : List Task) → Positive ts → (1 ≤ common_multiple ts) × IsHyperperiod (set_with ts) (common_multiple ts)
tried [] pos = (omega arith, no_periods)
tried (t ∷ ts) pos =
    let rest = tried ts (λ i l. pos (suc i) (omega arith)) in
    let both = least_multiple_is t.period (common_multiple ts) (pos 0 (omega arith)) rest.0 in
    (multiple_positive (pos 0 (omega arith)) rest.0 both, one_period_more t rest.1 both)

module _ (ts : Set) (pos : Positive ts.tasks) where
  pub hyperperiod_is : IsHyperperiod ts (hyperperiod ts)
  unfolding hyperperiod
  hyperperiod_is = (tried ts.tasks pos).1

  -- and any hyperperiod is at least 1
  pub hyperperiod_positive : {h : ℕ} → IsHyperperiod ts h → 1 ≤ h
  unfolding hyperperiod
  hyperperiod_positive p = omega (arith, one_hyperperiod p hyperperiod_is, (tried ts.tasks pos).0)
