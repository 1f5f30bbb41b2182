-- The walk backwards: what the slots tell of the jobs due at an instant, where it begins, and what a step back comes to. Assumes nothing.
use mathlib.Core.Path.{◌≡◌, refl, sym, ◌∙◌, ap}
use mathlib.Core.Bool.{true, false}
use mathlib.Core.List.{List}
use Prim.Native.Nat.{ℕ, zero, suc, ◌-◌, ◌≤◌, ◌<◌}
use native.Mathlib.Omega.{arith}
use lib.Dec.{eqb}
use lib.ListN.{length, get_or}
use borrow.Author.Tests.{eq-eqb, ne_eqb}
use Rattle.rules.specs.Tasks.{Set}
use Rattle.rules.specs.Intervals.{due_at, is_deadline, work_due, first_release, last_deadline, up_to, intervals}
use Rattle.rules.proofs.Cases.{by_eq}
use Rattle.rules.proofs.Several.{any_none, any_one, sum_same, greatest_same, greatest_above, greatest_within, greatest_found}
use Rattle.sets.specs.declared.Kept.{Kept}
use Rattle.sets.specs.Kept.{tasks_in, hyperperiod_in, Keeps}
use Rattle.sets.proofs.SetKept.{time_kept}
use Rattle.spare.specs.declared.Walk.{Walk}
use Rattle.spare.specs.Walking.{Standing, last_of, LastDeadlines, work_of, longest_of, Walks, to_come}
use Rattle.spare.proofs.Slots.{slot_tells, slot_sooner}
use Rattle.spare.proofs.Taking.{relative_kept, standing_first}

module _ {ts : Set} {kept : Kept} (keeps : Keeps ts kept) where
  abbrev h : ℕ
  h = hyperperiod_in kept

  abbrev n : ℕ
  n = tasks_in kept

  -- a task of the set has its slots
  a_slot : (i : ℕ) → i < length ts.tasks → i < n
  a_slot i l = omega (arith, keeps.n_tasks)

  -- slots that stand at an instant
  module _ {e : ℕ} {dues : List ℕ} (S : Standing ts h e dues) where
    -- none of them is later
    pub slots_below : last_of n dues ≤ e
    slots_below = greatest_within n (λ i. get_or dues i 0) e (λ i l. (S.last i (omega (arith, keeps.n_tasks))).below)

    -- they stand as well at any instant from the last of them on
    pub sooner : (b : ℕ) → last_of n dues ≤ b → b ≤ e → Standing ts h b dues
    sooner b l k = record { last = λ i j. slot_sooner (S.last i j) b (omega (arith, greatest_above n (λ i. get_or dues i 0) i (a_slot i j))) k }

    module _ (some : 0 < e) where
      -- they tell which tasks have a job due there
      due_at_slot : (i : ℕ) → i < length ts.tasks → due_at ts h e i ≡ eqb (get_or dues i 0) e
      unfolding due_at
      due_at_slot i l = slot_tells (S.last i l) some

      -- how long these jobs take, and which was released first
      pub work_slots : work_due ts h e ≡ work_of kept dues e n
      unfolding work_due
      work_slots =
          rw keeps.n_tasks (sum_same (length ts.tasks) _ _ (λ i l. rw (due_at_slot i l, time_kept keeps i (a_slot i l))))

      pub release_slots : first_release ts h e ≡ e - longest_of kept dues e n
      unfolding first_release
      release_slots =
          rw keeps.n_tasks
          (ap (λ (x : ℕ). e - x) (greatest_same (length ts.tasks) _ _ (λ i l. rw (due_at_slot i l, relative_kept keeps i (a_slot i l)))))

      -- and whether there is one
      pub deadline_here : e ≡ last_of n dues → is_deadline ts h e ≡ true
      unfolding is_deadline
      deadline_here u =
          greatest_found n (λ i. get_or dues i 0) (omega arith)
          (λ i l w.
          let k : i < length ts.tasks = omega (arith, keeps.n_tasks) in
          any_one (length ts.tasks) (due_at ts h e) i k (due_at_slot i k ∙ eq-eqb (get_or dues i 0) e (w ∙ sym u)))

      pub deadline_not_here : last_of n dues < e → is_deadline ts h e ≡ false
      unfolding is_deadline
      deadline_not_here u =
          any_none (length ts.tasks) (due_at ts h e)
          (λ i l. due_at_slot i l ∙ ne_eqb (get_or dues i 0) e (λ w. omega (arith, greatest_above n (λ i. get_or dues i 0) i (a_slot i l))))

  -- from an instant down to the last deadline in the slots nothing is passed
  pub skip : (e : ℕ) {dues : List ℕ} → Standing ts h e dues →
      (last_deadline ts h e ≡ last_of n dues) × (up_to ts h e ≡ up_to ts h (last_of n dues))
  unfolding last_deadline up_to
  skip zero {dues} S = let z : last_of n dues ≡ 0 = omega (arith, slots_below S) in (sym z, rw z)
  skip (suc e) {dues} S =
      by_eq (suc e) (last_of n dues)
      (λ u. let b = deadline_here S (omega arith) u in (rw b u, ap (up_to ts h) u))
      (λ u.
      let before : last_of n dues < suc e = omega (arith, slots_below S) in
      let b = deadline_not_here S (omega arith) before in
      let rest = skip e (sooner S e (omega arith) (omega arith)) in
      (rw b rest.0, rw b rest.1))

  -- the walk at the end of the cycle, with all intervals still to come
  abbrev pub at_end : List ℕ → Walk
  at_end dues = record { end = last_of n dues; behind = h }

  module _ {dues : List ℕ} (f : LastDeadlines kept n dues) where
    pub walk_begun : Walks ts kept dues (at_end dues)
    walk_begun =
        let S = standing_first keeps f in
        let below = slots_below S in
        record {
          keeps = keeps;
          slots = f.slots;
          standing = sooner S (last_of n dues) (omega arith) below;
          is_last = refl;
          near = below;
          inside = omega arith;
        }

    pub all_to_come : to_come ts h (at_end dues) ≡ intervals ts h
    unfolding intervals
    all_to_come = let k = skip h (standing_first keeps f) in rw (k.0, k.1)
