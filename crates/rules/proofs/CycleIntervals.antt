-- The intervals of a good set's cycle are those that document 02 tells of, and a cycle has one such list. Assumes nothing.
use mathlib.Core.Path.{◌≡◌, refl, sym, ◌∙◌}
use mathlib.Core.Bool.{Bool, true, false}
use mathlib.Core.List.{List, [], ◌∷◌, ◌++◌}
use Prim.Native.Nat.{ℕ, zero, suc, ◌≤◌, ◌<◌}
use native.Mathlib.Omega.{arith}
use lib.Dec.{ltb}
use lib.ListN.{length}
use Rattle.rules.specs.Tasks.{Set, GoodSet, task, KeepsItsRule}
use Rattle.rules.specs.Intervals.{Interval, stretch, is_deadline, first_release, last_deadline, begins, ending, up_to, intervals}
use Rattle.rules.specs.IntervalRules.{IsDeadline, Fill, WithoutJobs, IsInterval, with_jobs, without_jobs, interval_at, AreIntervals}
use Rattle.rules.proofs.Cases.{by_bool, by_eq, by_le, differ}
use Rattle.rules.proofs.PriorityLaws.{due_in_cycle}
use Rattle.rules.proofs.Deadlines.{deadline_out, last_is, first_release_is, begins_sooner, fill_cycle}

-- intervals that fill the time up to an instant end by then
pub fill_inside : (p : ℕ) (xs : List Interval) (q : ℕ) → Fill p xs q → p ≤ q
fill_inside p [] q f = omega arith
fill_inside p (x ∷ xs) q f = omega (arith, fill_inside x.end xs q f.2)

-- each of them begins before its end
fill_at : (p : ℕ) (xs : List Interval) (q : ℕ) → Fill p xs q → (j : ℕ) → j < length xs → (interval_at xs j).begin < (interval_at xs j).end
fill_at p [] q f j l = absurd (omega arith)
fill_at p (x ∷ xs) q f zero l = f.1
fill_at p (x ∷ xs) q f (suc j) l = fill_at x.end xs q f.2 j (omega arith)

module _ (ts : Set) (h : ℕ) where
  -- intervals of a cycle in a row: each is one, and behind one that ends at no deadline comes one that does
  abbrev InARow : Bool → List Interval → Type 0
  InARow before [] = Unit {0}
  InARow before (x ∷ xs) = IsInterval ts h x × (before ≡ false → is_deadline ts h x.end ≡ true) × InARow (is_deadline ts h x.end) xs

  -- does the last of them end at a deadline
  abbrev at_last : Bool → List Interval → Bool
  at_last before [] = before
  at_last before (x ∷ xs) = at_last (is_deadline ts h x.end) xs

  row_append : (before : Bool) (xs ys : List Interval) → InARow before xs → InARow (at_last before xs) ys → InARow before (xs ++ ys)
  row_append before [] ys r s = s
  row_append before (x ∷ xs) ys r s = (r.0, r.1, row_append (is_deadline ts h x.end) xs ys r.2 s)

  last_append : (before : Bool) (xs ys : List Interval) → at_last before (xs ++ ys) ≡ at_last (at_last before xs) ys
  last_append before [] ys = refl
  last_append before (x ∷ xs) ys = last_append (is_deadline ts h x.end) xs ys

  row_at : (before : Bool) (xs : List Interval) → InARow before xs → (j : ℕ) → j < length xs → IsInterval ts h (interval_at xs j)
  row_at before [] r j l = absurd (omega arith)
  row_at before (x ∷ xs) r zero l = r.0
  row_at before (x ∷ xs) r (suc j) l = row_at (is_deadline ts h x.end) xs r.2 j (omega arith)

  row_next : (before : Bool) (xs : List Interval) → InARow before xs → (j : ℕ) → suc j < length xs →
      is_deadline ts h (interval_at xs j).end ≡ false → is_deadline ts h (interval_at xs (suc j)).end ≡ true
  row_next before [] r j l e = absurd (omega arith)
  row_next before (x ∷ []) r j l e = absurd (omega arith)
  row_next before (x ∷ y ∷ xs) r zero l e = r.2.1 e
  row_next before (x ∷ y ∷ xs) r (suc j) l e = row_next (is_deadline ts h x.end) (y ∷ xs) r.2 j (omega arith) e

  -- no deadline lies inside an interval
  pub none_inside : {x : Interval} → IsInterval ts h x → (e : ℕ) → IsDeadline ts h e → x.begin < e → e < x.end → ⊥
  none_inside (with_jobs w) e d l m = omega (arith, w.begins, w.is_previous.last e d (omega arith))
  none_inside (without_jobs w) e d l m = w.no_deadline e d l (omega arith)

  -- a deadline in the time that intervals fill ends one of them
  covered : (p : ℕ) (xs : List Interval) (q : ℕ) → Fill p xs q → ((j : ℕ) → j < length xs → IsInterval ts h (interval_at xs j)) →
      (e : ℕ) → IsDeadline ts h e → p < e → e ≤ q → (j : ℕ) × (j < length xs) × ((interval_at xs j).end ≡ e)
  covered p [] q f each e d l m = absurd (omega arith)
  covered p (x ∷ xs) q f each e d l m =
      by_le e x.end
      (λ n. by_eq e x.end (λ u. (0, omega arith, sym u)) (λ u. absurd (none_inside (each 0 (omega arith)) e d (omega (arith, f.0)) (omega arith))))
      (λ n. let r = covered x.end xs q f.2 (λ j k. each (suc j) (omega arith)) e d n m in (suc r.0, omega (arith, r.1), r.2))

  -- a stretch without jobs ends at no deadline
  no_deadline_ends : (x : Interval) → x.begin < x.end → WithoutJobs ts h x → is_deadline ts h x.end ≡ false
  no_deadline_ends x l w =
      by_bool (is_deadline ts h x.end) (λ b. absurd (w.no_deadline x.end (deadline_out ts h x.end b) l (omega arith))) (λ b. b)

  -- the stretch behind the last deadline before a tick is one without jobs
  stretch_row : (tick q : ℕ) → q ≤ tick → InARow true (stretch (last_deadline ts h tick) q)
  stretch_row tick q l =
      by_bool (ltb (last_deadline ts h tick) q)
      (λ b. rw b (
        without_jobs (record { no_work = refl; no_deadline = λ e d m n. omega (arith, (last_is ts h tick).last e d (omega arith)) }),
        λ e. differ e,
        tt,
      ))
      (λ b. rw b tt)

  module _ (own : (i : ℕ) → i < length ts.tasks → KeepsItsRule (task ts i)) where
    -- what ends at a deadline is an interval with jobs
    ending_is : (e : ℕ) → is_deadline ts h (suc e) ≡ true → IsInterval ts h (ending ts h (suc e))
    unfolding ending begins
    ending_is e b =
        let d = deadline_out ts h (suc e) b in
        with_jobs (record {
          ends = d;
          release = first_release ts h (suc e);
          is_release = first_release_is ts h own (suc e) d;
          previous = last_deadline ts h e;
          is_previous = last_is ts h e;
          begins = refl;
          holds = refl;
        })

    up_to_row : (e : ℕ) → InARow true (up_to ts h e) × (at_last true (up_to ts h e) ≡ true)
    unfolding up_to ending
    up_to_row zero = (tt, refl)
    up_to_row (suc e) =
        let xs : List Interval = up_to ts h e in
        let ys : List Interval = stretch (last_deadline ts h e) (begins ts h (suc e)) in
        let r = up_to_row e in
        by_bool (is_deadline ts h (suc e))
        (λ b.
        let s : InARow true ys = stretch_row e (begins ts h (suc e)) (omega (arith, begins_sooner ts h own e b)) in
        let z : List Interval = ending ts h (suc e) ∷ [] in
        let t : InARow true (ys ++ z) = row_append true ys z s (ending_is e b, λ u. b, tt) in
        rw b (
          row_append true xs (ys ++ z) r.0 (rw r.1 t),
          last_append true xs (ys ++ z) ∙ last_append (at_last true xs) ys z ∙ b,
        ))
        (λ b. rw b r)

    intervals_row : InARow true (intervals ts h)
    unfolding intervals
    intervals_row =
        let r = up_to_row h in
        row_append true (up_to ts h h) (stretch (last_deadline ts h h) h) r.0 (rw r.1 (stretch_row h h (omega arith)))

    intervals_are_own : AreIntervals ts h (intervals ts h)
    intervals_are_own =
        let xs : List Interval = intervals ts h in
        let f = fill_cycle ts h own in
        let each = row_at true xs intervals_row in
        let no_end : (j : ℕ) → j < length xs → WithoutJobs ts h (interval_at xs j) → is_deadline ts h (interval_at xs j).end ≡ false =
        λ j l w. no_deadline_ends (interval_at xs j) (fill_at 0 xs h f j l) w in
        record {
          fill = f;
          each = each;
          every_deadline = λ e d.
              let o = own d.i d.due_there.a_task in
              covered 0 xs h f each e d (omega (arith, o.takes_time, o.fits, d.due_there.is_due))
              (omega (arith, due_in_cycle h d.k (task ts d.i) o d.due_there.a_job, d.due_there.is_due));
          stretches_apart = λ j l w v. differ (sym (row_next true xs intervals_row j l (no_end j (omega arith) w)) ∙ no_end (suc j) l v);
        }

-- the intervals of a good set's cycle
pub intervals_are : {ts : Set} {h : ℕ} → GoodSet ts h → AreIntervals ts h (intervals ts h)
intervals_are {ts} {h} g = intervals_are_own ts h g.own_rules
