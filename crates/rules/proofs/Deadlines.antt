-- Deadlines as document 02 has them: a deadline is an instant at which a job is due, the last one before a tick and the least release of its jobs are what
-- their names say, and the intervals fill the cycle. Assumes nothing.
use mathlib.Core.Path.{◌≡◌, refl, sym, ◌∙◌}
use mathlib.Core.Bool.{true, false}
use mathlib.Core.List.{List, [], ◌∷◌, ◌++◌}
use Prim.Native.Nat.{ℕ, zero, suc, ◌≤◌, ◌<◌}
use native.Mathlib.Omega.{arith}
use lib.Dec.{eqb}
use lib.ListN.{length}
use borrow.Author.Tests.{lt-ltb, le-ltb, eq-eqb, ne_eqb, eqb-true}
use Rattle.rules.specs.declared.Task.{Task}
use Rattle.rules.specs.Tasks.{Set, task, due, jobs, KeepsItsRule}
use Rattle.rules.specs.Timetable.{pick}
use Rattle.rules.specs.Several.{greatest_below}
use Rattle.rules.specs.Intervals.{Interval, stretch, due_among, due_at, is_deadline, first_release, last_deadline, begins, ending, up_to, intervals}
use Rattle.rules.specs.IntervalRules.{DueAt, IsDeadline, FirstRelease, LastDeadline, Fill}
use Rattle.rules.proofs.Cases.{by_bool, by_eq, by_le, differ}
use Rattle.rules.proofs.Several.{any_one, any_found, greatest_above, greatest_found}

-- a task's first so many jobs: one due at e is found, and where none is found none is
module _ (t : Task) where
  pub among_found : (m e k : ℕ) → k < m → due t k ≡ e → due_among t m e ≡ true
  among_found zero e k l u = absurd (omega arith)
  among_found (suc m) e k l u =
      by_bool (eqb (due t m) e) (λ b. rw b)
      (λ b. by_eq k m (λ w. let last : due t m ≡ e = rw w at u in rw (eq-eqb (due t m) e last)) (λ w. rw b (among_found m e k (omega arith) u)))

  pub among_none : (m e : ℕ) → ((k : ℕ) → k < m → due t k ≡ e → ⊥) → due_among t m e ≡ false
  among_none zero e never = refl
  among_none (suc m) e never = rw (ne_eqb (due t m) e (never m (omega arith))) (among_none m e (λ k l. never k (omega arith)))

  pub among_is : {A : Type 0} (m e : ℕ) → due_among t m e ≡ true → ((k : ℕ) → k < m → due t k ≡ e → A) → A
  among_is zero e b go = differ (sym b)
  among_is (suc m) e b go =
      by_bool (eqb (due t m) e) (λ u. go m (omega arith) (eqb-true (due t m) e u)) (λ u. among_is m e (rw u at b) (λ k l. go k (omega arith)))

-- intervals behind others fill on
fill_append : (p : ℕ) (xs : List Interval) (q : ℕ) (ys : List Interval) (r : ℕ) → Fill p xs q → Fill q ys r → Fill p (xs ++ ys) r
fill_append p [] q ys r f g = rw f g
fill_append p (x ∷ xs) q ys r f g = (f.0, f.1, fill_append x.end xs q ys r f.2 g)

fill_stretch : (p q : ℕ) → p ≤ q → Fill p (stretch p q) q
fill_stretch p q l = by_le q p (λ k. rw (le-ltb p q k) (omega arith)) (λ k. rw (lt-ltb p q k) (refl, k, refl))

module _ (ts : Set) (h : ℕ) where
  -- a task with a job due at e
  pub due_in : (e i k : ℕ) → DueAt ts h e i k → due_at ts h e i ≡ true
  unfolding due_at
  due_in e i k d = among_found (task ts i) (jobs h (task ts i)) e k d.a_job d.is_due

  pub due_out : {A : Type 0} (e i : ℕ) → i < length ts.tasks → due_at ts h e i ≡ true → ((k : ℕ) → DueAt ts h e i k → A) → A
  unfolding due_at
  due_out e i l b go = among_is (task ts i) (jobs h (task ts i)) e b (λ k m u. go k (record { a_task = l; a_job = m; is_due = u }))

  -- a deadline is an instant at which a job is due
  pub deadline_in : (e : ℕ) → IsDeadline ts h e → is_deadline ts h e ≡ true
  unfolding is_deadline
  deadline_in e d = any_one (length ts.tasks) (due_at ts h e) d.i d.due_there.a_task (due_in e d.i d.k d.due_there)

  pub deadline_out : (e : ℕ) → is_deadline ts h e ≡ true → IsDeadline ts h e
  unfolding is_deadline
  deadline_out e b = any_found (length ts.tasks) (due_at ts h e) b (λ i l u. due_out e i l u (λ k d. record { i = i; k = k; due_there = d }))

  -- the last deadline at or before a tick
  pub last_is : (tick : ℕ) → LastDeadline ts h tick (last_deadline ts h tick)
  unfolding last_deadline
  last_is zero = record { inside = omega arith; is_one = λ l. absurd (omega arith); last = λ e d l. l }
  last_is (suc tick) =
      by_bool (is_deadline ts h (suc tick))
      (λ b. rw b (record { inside = omega arith; is_one = λ l. deadline_out (suc tick) b; last = λ e d l. l }))
      (λ b.
      let before = last_is tick in
      let not-here : IsDeadline ts h (suc tick) → ⊥ = λ d. differ (sym (deadline_in (suc tick) d) ∙ b) in
      rw b
      (record {
        inside = omega (arith, before.inside);
        is_one = before.is_one;
        last = λ e d l. by_eq e (suc tick) (λ u. absurd (not-here (rw u at d))) (λ u. before.last e d (omega arith));
      }))

  module _ (own : (i : ℕ) → i < length ts.tasks → KeepsItsRule (task ts i)) where
    -- the relative deadline of a task with a job due at e
    abbrev relative : ℕ → ℕ → ℕ
    relative e i = pick (due_at ts h e i) (task ts i).deadline 0

    some_relative : (e : ℕ) → IsDeadline ts h e → 0 < greatest_below (length ts.tasks) (relative e)
    some_relative e d =
        let l = d.due_there.a_task in
        let its : relative e d.i ≡ (task ts d.i).deadline = rw (due_in e d.i d.k d.due_there) in
        omega (arith, (own d.i l).takes_time, (own d.i l).fits, greatest_above (length ts.tasks) (relative e) d.i l)

    -- the least release of the jobs due at a deadline
    pub first_release_is : (e : ℕ) → IsDeadline ts h e → FirstRelease ts h e (first_release ts h e)
    unfolding first_release
    first_release_is e d =
        greatest_found (length ts.tasks) (relative e) (some_relative e d)
        (λ i l u.
        by_bool (due_at ts h e i)
        (λ b. due_out e i l b
        (λ k w.
        let its : relative e i ≡ (task ts i).deadline = rw b in
        record {
          i = i;
          k = k;
          due_there = w;
          is_release = omega (arith, w.is_due);
          least = λ i' k' w'.
              let other : relative e i' ≡ (task ts i').deadline = rw (due_in e i' k' w') in
              omega (arith, greatest_above (length ts.tasks) (relative e) i' w'.a_task, w'.is_due);
        }))
        (λ b. let none : relative e i ≡ 0 = rw b in absurd (omega (arith, some_relative e d))))

    -- an interval begins before its end, and not before the interval with jobs before it ends
    pub begins_sooner : (e : ℕ) → is_deadline ts h (suc e) ≡ true → begins ts h (suc e) < suc e
    unfolding begins
    begins_sooner e b =
        let f = first_release_is (suc e) (deadline_out (suc e) b) in
        let o = own f.i f.due_there.a_task in
        omega (arith, (last_is e).inside, f.is_release, f.due_there.is_due, o.takes_time, o.fits)

    pub begins_later : (e : ℕ) → last_deadline ts h e ≤ begins ts h (suc e)
    unfolding begins
    begins_later e = omega arith

    -- the intervals fill the cycle
    pub fill_up_to : (e : ℕ) → Fill 0 (up_to ts h e) (last_deadline ts h e)
    unfolding up_to last_deadline ending
    fill_up_to zero = refl
    fill_up_to (suc e) =
        let p = last_deadline ts h e in
        let q = begins ts h (suc e) in
        by_bool (is_deadline ts h (suc e))
        (λ b. rw b
        (fill_append 0 (up_to ts h e) p (stretch p q ++ (ending ts h (suc e) ∷ [])) (suc e) (fill_up_to e)
        (fill_append p (stretch p q) q (ending ts h (suc e) ∷ []) (suc e) (fill_stretch p q (begins_later e)) (refl, begins_sooner e b, refl))))
        (λ b. rw b (fill_up_to e))

    pub fill_cycle : Fill 0 (intervals ts h) h
    unfolding intervals
    fill_cycle =
        fill_append 0 (up_to ts h h) (last_deadline ts h h) (stretch (last_deadline ts h h) h) h (fill_up_to h)
        (fill_stretch (last_deadline ts h h) h (last_is h).inside)
