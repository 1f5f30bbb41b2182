-- The tables of a valid timetable whose entries stand in an image are short. Assumes nothing.
use mathlib.Core.List.{List, []}
use Prim.Native.Nat.{ℕ, ◌≤◌}
use native.Mathlib.Omega.{arith}
use lib.ListN.{length}
use Rattle.rules.specs.declared.Entry.{Entry}
use Rattle.rules.specs.Tasks.{Set, limits, hyperperiod}
use Rattle.rules.specs.Priority.{setting}
use Rattle.rules.specs.Irregularities.{forced_idles}
use Rattle.rules.specs.Judging.{tables}
use Rattle.rules.proofs.Writable.{entries_few, its_idles_rise, idles_few, inversions_few}
use Rattle.sets.specs.declared.Kept.{Kept}
use Rattle.sets.proofs.SetKept.{kept_good}
use Rattle.timetables.specs.Judged.{entries_behind, EntriesValid}
use Rattle.timetables.specs.Counted.{task_inversions}
use Rattle.timetables.proofs.ValidTurns.{no_set_fault, all_valid}
use Rattle.derivation.proofs.ByTask.{own_few}

module _ {ts : Set} {bytes : List ℕ} {kept : Kept} {listed : ℕ} (v : EntriesValid ts bytes kept listed) where
  abbrev τ : List Entry
  τ = entries_behind bytes ts listed

  -- there are no more forced idles than ticks
  pub few_idles : length (tables ts τ).idles ≤ limits.ticks
  few_idles =
      omega (
        arith,
        idles_few (hyperperiod ts) 0 (forced_idles (setting ts) [] 0 τ) (its_idles_rise ts τ (no_set_fault v) (all_valid v)),
        (kept_good v.stand.keeps).short,
      )

  -- and no more inversions than jobs
  pub few_inversions : length (tables ts τ).inversions ≤ limits.jobs
  few_inversions = omega (arith, inversions_few (setting ts) [] τ, entries_few ts τ (no_set_fault v) (all_valid v))

  -- a task's among them
  pub few_own : (i : ℕ) → length (task_inversions (setting ts) i [] τ) ≤ limits.jobs
  few_own i = omega (arith, own_few ts (hyperperiod ts) i [] τ, entries_few ts τ (no_set_fault v) (all_valid v))
