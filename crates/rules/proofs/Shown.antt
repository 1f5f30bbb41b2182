-- Offsets that show a table's records: what a task's own offset shows for its next job is what the table says. Assumes nothing.
use mathlib.Core.Path.{◌≡◌, refl, sym, ◌∙◌, ap}
use mathlib.Core.Bool.{true, false}
use mathlib.Core.List.{List, [], ◌∷◌}
use mathlib.Core.Option.{none}
use Prim.Native.Nat.{ℕ, zero, suc, ◌<◌}
use native.Mathlib.Omega.{arith}
use borrow.Author.Tests.{eq-eqb, ne_eqb}
use Rattle.fields.specs.Body.{tail₀}
use Rattle.rules.specs.declared.Idle.{Idle}
use Rattle.rules.specs.declared.Inversion.{Inversion}
use Rattle.rules.specs.Priority.{slot}
use Rattle.rules.specs.Irregularities.{at_most}
use Rattle.rules.specs.Decision.{delay_of, is_of}
use Rattle.rules.specs.Offsets.{no_record, shows, Source, own_delay, past_own, readable, tasks_readable, put_slot}
use Rattle.rules.specs.Dispatcher.{front}
use Rattle.rules.proofs.Cases.{by_bool, by_option, by_eq, by_pair}
use Rattle.rules.proofs.Theory.{Pairs}
use Rattle.rules.proofs.Pairs.{delay_here, delay_there, delay_bound, at_most_true, at_most_false, at_most_le, at_most_lt}

-- a slot that was put holds what was put there
pub slot_put_same : (x : List ℕ) (i v : ℕ) → slot (put_slot x i v) i ≡ v
slot_put_same x zero v = refl
slot_put_same x (suc i) v = slot_put_same (tail₀ x) i v

-- and the others hold what they held
pub slot_put_other : (x : List ℕ) (i j v : ℕ) → (j ≡ i → ⊥) → slot (put_slot x i v) j ≡ slot x j
slot_put_other x zero zero v h = absurd (h refl)
slot_put_other x zero (suc j) v h = refl
slot_put_other x (suc i) zero v h = refl
slot_put_other x (suc i) (suc j) v h = slot_put_other (tail₀ x) i j v (λ e. h (ap suc e))

-- the first n slots are those of the list in front
pub slot_front : (n : ℕ) (a b : List ℕ) (i : ℕ) → i < n → slot (front n a b) i ≡ slot a i
slot_front zero a b i h = absurd (omega arith)
slot_front (suc n) a b zero h = refl
slot_front (suc n) a b (suc i) h = slot_front n (tail₀ a) (tail₀ b) i (omega arith)

-- the records from a pair (task, job) on
abbrev pub from : ℕ → ℕ → List Inversion → List Inversion
from i k [] = []
from i k (r ∷ p) = elim (at_most i k r.task r.job) [ true ↦ r ∷ p | false ↦ from i k p ]

-- idle records one after the other from an offset on
pub data ShowsIdles (S : Source) : ℕ → List Idle → Type 0 where
  no_idle : {o : ℕ} → S.idle_shown o ≡ no_record → ShowsIdles S o []
  an_idle : {o after : ℕ} {r : Idle} {idles : List Idle} → S.idle_shown o ≡ shows r after → ShowsIdles S after idles → ShowsIdles S o (r ∷ idles)

-- inversion records one after the other from an offset on
pub data ShowsInversions (S : Source) : ℕ → List Inversion → Type 0 where
  no_inversion : {o : ℕ} → S.inversion_shown o ≡ no_record → ShowsInversions S o []
  an_inversion : {o after : ℕ} {r : Inversion} {p : List Inversion} → S.inversion_shown o ≡ shows r after → ShowsInversions S after p →
      ShowsInversions S o (r ∷ p)

-- an offset that shows records can be read
pub idles_readable : {S : Source} {o : ℕ} {idles : List Idle} → ShowsIdles S o idles → readable (S.idle_shown o) ≡ true
idles_readable (no_idle e) = rw e
idles_readable (an_idle e s) = rw e

-- and so can a task's
inversions_readable : {S : Source} {o : ℕ} {p : List Inversion} → ShowsInversions S o p → readable (S.inversion_shown o) ≡ true
inversions_readable (no_inversion e) = rw e
inversions_readable (an_inversion e s) = rw e

-- tasks' offsets that show records can be read
pub shown_readable : (S : Source) (n : ℕ) (offsets : List ℕ) (p : ℕ → List Inversion) →
    ((i : ℕ) → i < n → ShowsInversions S (slot offsets i) (p i)) → tasks_readable S n offsets ≡ true
shown_readable S zero offsets p h = refl
shown_readable S (suc n) offsets p h =
    rw (inversions_readable (h 0 (omega arith))) (shown_readable S n (tail₀ offsets) (λ i. p (suc i)) (λ i l. h (suc i) (omega arith)))

-- the first of the records that an offset shows, and what the offset behind it shows
shown_first : {A : Type 0} {S : Source} {o : ℕ} {r : Inversion} {p : List Inversion} → ShowsInversions S o (r ∷ p) →
    ((after : ℕ) → S.inversion_shown o ≡ shows r after → ShowsInversions S after p → A) → A
shown_first (an_inversion {after = after} e s) go = go after e s

-- a record with a job's pair is of that job
is_own : (r : Inversion) (i k : ℕ) → r.task ≡ i → r.job ≡ k → is_of r i k ≡ true
is_own r i k u v = rw (eq-eqb _ _ u, eq-eqb _ _ v)

-- and with another pair it is not
is_not_own : (r : Inversion) (i k : ℕ) → (r.task ≡ i → r.job ≡ k → ⊥) → is_of r i k ≡ false
is_not_own r i k h = by_eq r.task i (λ u. rw (eq-eqb _ _ u) (ne_eqb _ _ (λ v. h u v))) (λ u. rw (ne_eqb _ _ u))

-- a table of pairs above a job's has no delay for it
pub delay_above : (a b : ℕ) (p : List Inversion) → Pairs a b p → (i k : ℕ) → (at_most a b i k ≡ true → ⊥) → delay_of p i k ≡ none
delay_above a b p z i k h = by_option (delay_of p i k) (λ e. e) (λ d e. absurd (h (delay_bound a b p z i k d e)))

-- a table in order from a pair on is all of its records from that pair on
pub from_all : (i k : ℕ) (p : List Inversion) → Pairs i k p → from i k p ≡ p
from_all i k [] z = refl
from_all i k (r ∷ p) z = rw (z.0, from)

-- no pair is both at or above another and below it
pub not_both : (i k j l : ℕ) → at_most i k j l ≡ true → at_most j (suc l) i k ≡ true → ⊥
not_both i k j l a b =
    at_most_true i k j l a (λ u. at_most_true j (suc l) i k b (λ v. omega arith) (λ v w. omega arith))
    (λ u y. at_most_true j (suc l) i k b (λ v. omega arith) (λ v w. omega arith))

-- a record below a job's pair is not of that job
not_its_own : (r : Inversion) (i k : ℕ) → at_most i k r.task r.job ≡ false → r.task ≡ i → r.job ≡ k → ⊥
not_its_own r i k c u v = at_most_false i k r.task r.job c (λ y. omega arith) (λ y w. omega arith)

-- a job's own record is below the next job's pair
pub own_behind : (r : Inversion) (i k : ℕ) → r.task ≡ i → r.job ≡ k → at_most i (suc k) r.task r.job ≡ false
own_behind r i k u v =
    by_bool (at_most i (suc k) r.task r.job)
    (λ y. at_most_true i (suc k) r.task r.job y (λ a. absurd (omega arith)) (λ a b. absurd (omega arith))) (λ y. y)

-- and so is a record below the job's
pub lower_behind : (r : Inversion) (i k : ℕ) → at_most i k r.task r.job ≡ false → at_most i (suc k) r.task r.job ≡ false
lower_behind r i k c =
    by_bool (at_most i (suc k) r.task r.job)
    (λ y. at_most_false i k r.task r.job c
    (λ u. at_most_true i (suc k) r.task r.job y (λ a. absurd (omega arith)) (λ a b. absurd (omega arith)))
    (λ u v. at_most_true i (suc k) r.task r.job y (λ a. absurd (omega arith)) (λ a b. absurd (omega arith))))
    (λ y. y)

-- a record at or above a job's pair that is not of that job is at or above the next job's
pub other_ahead : (r : Inversion) (i k : ℕ) → at_most i k r.task r.job ≡ true → (r.task ≡ i → r.job ≡ k → ⊥) →
    at_most i (suc k) r.task r.job ≡ true
other_ahead r i k c h =
    at_most_true i k r.task r.job c (λ u. at_most_lt i (suc k) r.task r.job u)
    (λ u v. at_most_le i (suc k) r.task r.job u (by_eq r.job k (λ y. absurd (h (sym u) y)) (λ y. omega arith)))

module _ (S : Source) (i k : ℕ) where
  -- an offset that shows a table's records from job k of task i on shows the delay that the table has for that job
  pub own_as_table : (a b : ℕ) (p : List Inversion) → Pairs a b p → (o : ℕ) → ShowsInversions S o (from i k p) →
      own_delay (S.inversion_shown o) i k ≡ delay_of p i k
  own_as_table a b [] z o (no_inversion e) = rw e
  own_as_table a b (r ∷ p) z o s =
      by_bool (at_most i k r.task r.job)
      (λ c. shown_first (rw (c, from) at s)
      (λ after e w. by_pair r.task i r.job k (λ u v. rw (e, is_own r i k u v, own_delay) (sym (delay_here r p i k u v)))
      (λ h. rw (e, is_not_own r i k h, own_delay)
      (sym (delay_there r p i k h ∙ delay_above r.task (suc r.job) p z.1 i k (not_both i k r.task r.job c))))))
      (λ c. own_as_table r.task (suc r.job) p z.1 o (rw (c, from) at s) ∙ sym (delay_there r p i k (not_its_own r i k c)))

  -- and after that job has started it shows the records from the task's next job on
  pub past_as_table : (a b : ℕ) (p : List Inversion) → Pairs a b p → (o : ℕ) → ShowsInversions S o (from i k p) →
      ShowsInversions S (past_own (S.inversion_shown o) i k o) (from i (suc k) p)
  past_as_table a b [] z o (no_inversion e) = rw e (no_inversion e)
  past_as_table a b (r ∷ p) z o s =
      by_bool (at_most i k r.task r.job)
      (λ c.
      let s' : ShowsInversions S o (r ∷ p) = rw (c, from) at s in
      shown_first s'
      (λ after e w. by_pair r.task i r.job k
      (λ u v. rw (e, is_own r i k u v, own_behind r i k u v, past_own, from) (rw (from_all i (suc k) p (rw (u, v) at z.1)) w))
      (λ h. rw (e, is_not_own r i k h, other_ahead r i k c h, past_own, from) s')))
      (λ c. rw (lower_behind r i k c, from) (past_as_table r.task (suc r.job) p z.1 o (rw (c, from) at s)))
