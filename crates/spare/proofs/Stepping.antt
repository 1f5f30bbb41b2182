-- A step back: over a stretch without jobs, or over the interval that ends at the last deadline in the slots. Assumes nothing.
use mathlib.Core.Path.{◌≡◌, refl, sym, ◌∙◌, ap}
use mathlib.Core.Bool.{true}
use mathlib.Core.List.{List, [], ◌∷◌, ◌++◌, append_assoc, append-nil}
use Prim.Native.Nat.{ℕ, suc, ◌-◌, max, ◌≤◌, ◌<◌}
use native.Mathlib.Omega.{arith}
use lib.Dec.{eqb}
use lib.ListN.{get_or}
use borrow.Author.Tests.{lt-ltb, le-ltb, eq-eqb, eqb-true}
use Rattle.rules.specs.Tasks.{Set, task}
use Rattle.rules.specs.Timetable.{pick}
use Rattle.rules.specs.Intervals.{Interval, stretch, is_deadline, work_due, first_release, begins, ending, up_to}
use Rattle.rules.proofs.Cases.{by_bool, by_nat}
use Rattle.rules.proofs.Arrays.{slot_element}
use Rattle.rules.proofs.GoodSets.{good_rules}
use Rattle.rules.proofs.Several.{greatest_above, greatest_within, greatest_found}
use Rattle.sets.specs.declared.Kept.{Kept}
use Rattle.sets.specs.Kept.{tasks_in, hyperperiod_in}
use Rattle.sets.proofs.SetKept.{period_kept}
use Rattle.spare.specs.declared.Due.{Due}
use Rattle.spare.specs.declared.Walk.{Walk}
use Rattle.spare.specs.Walking.{Standing, relative_in, last_of, longest_of, Taken, Walks, SteppedBack}
use Rattle.spare.proofs.Slots.{slot_job, slot_next}
use Rattle.spare.proofs.Taking.{relative_kept, work_small}
use Rattle.spare.proofs.Backwards.{slots_below, sooner, work_slots, release_slots, deadline_here, skip}

module _ {ts : Set} {kept : Kept} {dues : List ℕ} {w : Walk} (W : Walks ts kept dues w) where
  abbrev h : ℕ
  h = hyperperiod_in kept

  abbrev n : ℕ
  n = tasks_in kept

  -- over a stretch
  pub over_stretch : w.end < w.behind → SteppedBack ts kept w (record { work = 0; walk = record { end = w.end; behind = w.end } }) dues
  over_stretch l = record {
    walks = record {
      keeps = W.keeps;
      slots = W.slots;
      standing = W.standing;
      is_last = W.is_last;
      near = omega arith;
      inside = omega (arith, W.inside);
    };
    one = rw (lt-ltb w.end w.behind l, le-ltb w.end w.end (omega arith), append-nil);
    sooner = l;
    small = omega arith;
  }

  -- the longest relative deadline of the jobs due at the last deadline is at least 1, and no longer than the cycle up to there
  module _ (some : 0 < w.end) where
    abbrev relative : ℕ → ℕ
    relative i = pick (eqb (get_or dues i 0) w.end) (relative_in kept i) 0

    pub longest_some : 1 ≤ longest_of kept dues w.end n
    longest_some =
        greatest_found n (λ i. get_or dues i 0) (omega (arith, W.is_last))
        (λ i l u.
        let o = good_rules W.keeps.good i in
        let its : relative i ≡ relative_in kept i = rw (eq-eqb (get_or dues i 0) w.end (u ∙ sym W.is_last)) in
        omega (arith, o.takes_time, o.fits, relative_kept W.keeps i l, greatest_above n relative i l))

    relative_inside : (i : ℕ) → i < n → relative i ≤ w.end
    relative_inside i l =
        by_bool (eqb (get_or dues i 0) w.end)
        (λ b.
        let here = eqb-true (get_or dues i 0) w.end b in
        rw b
        (slot_job (W.standing.last i (omega (arith, W.keeps.n_tasks))) (omega arith)
        (λ k z u. omega (arith, relative_kept W.keeps i l))))
        (λ b. rw b (omega arith))

    pub longest_inside : longest_of kept dues w.end n ≤ w.end
    longest_inside = greatest_within n relative w.end relative_inside

    module _ {due : Due} {after : List ℕ} (T : Taken kept dues w.end n due after) where
      -- the slots behind the jobs due there stand at the instant before
      after_standing : Standing ts h (w.end - 1) after
      after_standing = record {
        last = λ i l.
            let a : i < n = omega (arith, W.keeps.n_tasks) in
            let its : get_or after i 0 ≡ pick (eqb (get_or dues i 0) w.end) (w.end - (task ts i).period) (get_or dues i 0) =
            sym (slot_element after i) ∙ T.slots.inside i (omega arith) a ∙ rw (period_kept W.keeps i a) in
            rw its (slot_next (W.standing.last i l) some (good_rules W.keeps.good i));
      }

      -- the last deadline in them, where the interval begins, and the interval
      abbrev p : ℕ
      p = last_of n after

      abbrev b : ℕ
      b = max p (w.end - due.longest)

      abbrev x : Interval
      x = record { begin = b; end = w.end; work = due.work }

      begins_before : b < w.end
      begins_before = omega (arith, some, longest_some, T.longest_is, slots_below W.keeps after_standing)

      walk_on : Walks ts kept after (record { end = p; behind = b })
      walk_on = record {
        keeps = W.keeps;
        slots = T.slots.slots ∙ W.slots;
        standing = sooner W.keeps after_standing p (omega arith) (slots_below W.keeps after_standing);
        is_last = refl;
        near = omega arith;
        inside = omega (arith, begins_before, W.near, W.inside);
      }

      last_interval : (e : ℕ) → w.end ≡ suc e → up_to ts h w.end ≡ (up_to ts h p ++ stretch p b) ++ (x ∷ [])
      unfolding up_to begins ending
      last_interval e z =
          let before : w.end - 1 ≡ e = omega arith in
          let k = skip W.keeps e (rw before at after_standing) in
          let here : is_deadline ts h (suc e) ≡ true = rw z at (deadline_here W.keeps W.standing some W.is_last) in
          let work : work_due ts h (suc e) ≡ due.work = rw z at (work_slots W.keeps W.standing some ∙ sym T.work_is) in
          let first : first_release ts h w.end ≡ w.end - due.longest =
          release_slots W.keeps W.standing some ∙ ap (λ (y : ℕ). w.end - y) (sym T.longest_is) in
          rw (z, here, k.0, k.1, work, rw z at first) (rw z at (sym (append_assoc (up_to ts h p) (stretch p b) (x ∷ []))))

      -- over the interval
      pub over_interval : w.behind ≤ w.end → (end begin : ℕ) → end ≡ p → begin ≡ max end (w.end - due.longest) →
          SteppedBack ts kept w (record { work = due.work; walk = record { end = end; behind = begin } }) after
      over_interval l end begin u v =
          let touching : w.behind ≡ w.end = omega (arith, W.near) in
          by_nat w.end (λ z. absurd (omega arith))
          (λ e z.
          rw (v, u)
          (record {
            walks = walk_on;
            one = rw (touching, le-ltb w.end w.end (omega arith), append-nil) (last_interval e z);
            sooner = rw touching begins_before;
            small = omega (arith, T.work_is, work_small W.keeps dues w.end n (omega arith), W.keeps.few);
          }))
