-- The slots filled for the end of a cycle, and the jobs due at an instant taken, task by task. Assumes nothing.
use mathlib.Core.Path.{◌≡◌, refl, sym, ◌∙◌}
use mathlib.Core.Bool.{Bool, true, false}
use mathlib.Core.List.{List}
use Prim.Native.Nat.{ℕ, ◌+◌, ◌-◌, ◌*◌, max, ◌≤◌, ◌<◌}
use native.Mathlib.Omega.{arith}
use native.Mathlib.Numerals.{add-one}
use lib.Dec.{eqb}
use lib.ListN.{length, get_or, set}
use lib.Seq.{set-get_or}
use borrow.Author.Tests.{eq-eqb, ne_eqb}
use Rattle.rules.specs.Tasks.{Set, limits, task}
use Rattle.rules.specs.Timetable.{pick}
use Rattle.rules.proofs.Arrays.{slot_element}
use Rattle.rules.proofs.GoodSets.{good_rules, good_positive}
use Rattle.rules.proofs.Several.{sum_within}
use Rattle.sets.specs.declared.Kept.{Kept}
use Rattle.sets.specs.Kept.{tasks_in, hyperperiod_in, times_in, periods_in, first_in, Keeps}
use Rattle.sets.proofs.Arrays.{filled_none, filled_more}
use Rattle.sets.proofs.SetKept.{slack_kept, time_kept, period_kept, first_kept, period_short}
use Rattle.spare.specs.declared.Due.{Due}
use Rattle.spare.specs.Walking.{Standing, relative_in, last_in, LastDeadlines, work_of, Taken}
use Rattle.spare.proofs.Slots.{first_slot}

module _ {ts : Set} {kept : Kept} (keeps : Keeps ts kept) where
  module _ (i : ℕ) (l : i < tasks_in kept) where
    -- D − C and C of a task make its relative deadline
    pub relative_kept : relative_in kept i ≡ (task ts i).deadline
    relative_kept = omega (arith, slack_kept keeps i l, time_kept keeps i l, (good_rules keeps.good i).fits)

    -- with its offset it is within its period, which is within the cycle
    pub relative_short : get_or (first_in kept) i 0 + relative_in kept i ≤ get_or (periods_in kept) i 0
    relative_short = omega (arith, relative_kept, first_kept keeps i l, period_kept keeps i l, (good_rules keeps.good i).within)

    pub period_inside : get_or (periods_in kept) i 0 ≤ hyperperiod_in kept
    period_inside = omega (arith, period_kept keeps i l, period_short keeps i l)

    -- so its declared time and its last deadline are no longer than a cycle can be
    pub time_short : get_or (times_in kept) i 0 ≤ limits.ticks
    time_short = omega (arith, relative_short, period_inside, keeps.good.short)

    pub last_short : last_in kept i ≤ limits.ticks
    last_short = omega (arith, relative_short, period_inside, keeps.good.short)

  -- at the end of the cycle the slots stand at each task's last deadline
  pub standing_first : {dues : List ℕ} → LastDeadlines kept (tasks_in kept) dues → Standing ts (hyperperiod_in kept) (hyperperiod_in kept) dues
  standing_first {dues} f = record {
    last = λ i l.
        let a : i < tasks_in kept = omega (arith, keeps.n_tasks) in
        let o = good_rules keeps.good i in
        let h = hyperperiod_in kept in
        let its : get_or dues i 0 ≡ h - (task ts i).period + (task ts i).offset + (task ts i).deadline =
        sym (slot_element dues i) ∙ f.inside i (omega arith) a ∙ rw (relative_kept i a, first_kept keeps i a, period_kept keeps i a) in
        rw its (first_slot (task ts i) h o (keeps.good.is_hyperperiod.common i l) (good_positive keeps.good));
  }

  -- the jobs taken of some tasks do not take long together
  pub work_small : (dues : List ℕ) (e n : ℕ) → n ≤ tasks_in kept → work_of kept dues e n ≤ n * limits.ticks
  work_small dues e n few = sum_within n _ limits.ticks (λ i l. short (eqb (get_or dues i 0) e) i (omega arith))
    where
      short : (b : Bool) (i : ℕ) → i < tasks_in kept → pick b (get_or (times_in kept) i 0) 0 ≤ limits.ticks
      short true i l = time_short i l
      short false i l = omega arith

-- no task's jobs are taken at first
pub taken_none : {kept : Kept} {dues : List ℕ} {e : ℕ} → Taken kept dues e 0 (record { work = 0; longest = 0 }) dues
taken_none = record { work_is = refl; longest_is = refl; slots = filled_none _ _ _ }

-- then those of one task more
module _ {kept : Kept} {dues : List ℕ} {e i : ℕ} {due : Due} {after : List ℕ} (T : Taken kept dues e i due after) (inside : i < length dues) where
  -- its slot is as it was
  untouched : get_or after i 0 ≡ get_or dues i 0
  untouched = sym (slot_element after i) ∙ T.slots.above i (omega arith) ∙ slot_element dues i

  -- it holds e
  pub taken_more : get_or after i 0 ≡ e → {more : Due} {v : ℕ} {left : List ℕ} → more.work ≡ due.work + get_or (times_in kept) i 0 →
      more.longest ≡ max due.longest (relative_in kept i) → v ≡ e - get_or (periods_in kept) i 0 → left ≡ set after i v →
      Taken kept dues e (i + 1) more left
  taken_more u {v = v} work longest back stored =
      let b = eq-eqb (get_or dues i 0) e (sym untouched ∙ u) in
      record {
        work_is = rw (add-one i, b, ← T.work_is) work;
        longest_is = rw (add-one i, b, ← T.longest_is) longest;
        slots = rw stored (filled_more T.slots v (omega arith) inside (rw b back));
      }

  -- it does not
  pub taken_skip : (get_or after i 0 ≡ e → ⊥) → Taken kept dues e (i + 1) due after
  taken_skip u =
      let b = ne_eqb (get_or dues i 0) e (λ w. u (untouched ∙ w)) in
      record {
        work_is = rw (add-one i, b) (T.work_is ∙ omega arith);
        longest_is = rw (add-one i, b) (T.longest_is ∙ omega arith);
        slots = rw (set-get_or after i 0) at (filled_more T.slots (get_or after i 0) (omega arith) inside (untouched ∙ rw b));
      }
