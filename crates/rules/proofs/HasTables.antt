-- A valid timetable of a good set has exactly one pair of tables, the derived ones. Assumes nothing.
use mathlib.Core.Path.{◌≡◌}
use mathlib.Core.List.{List, []}
use Prim.Native.Nat.{ℕ}
use Rattle.rules.specs.declared.Entry.{Entry}
use Rattle.rules.specs.Tasks.{Set, GoodSet}
use Rattle.rules.specs.Timetable.{ValidTimetable}
use Rattle.rules.specs.Setting.{Tables}
use Rattle.rules.specs.Priority.{setting_of}
use Rattle.rules.specs.Irregularities.{tables_of}
use Rattle.rules.specs.Judging.{tables}
use Rattle.rules.specs.Promised.{HasTables}
use Rattle.rules.proofs.Theory.{ValidFrom}
use Rattle.rules.proofs.GoodSets.{set_good, good_rules}
use Rattle.rules.proofs.ForcedIdle.{derived_are_forced, forced_are_derived}
use Rattle.rules.proofs.Inversions.{derived_inversions, derived_rise, inversions_are_derived}
use Rattle.rules.proofs.ValidTimetables.{valid_timetable}

module _ {ts : Set} {h : ℕ} {τ : List Entry} (g : GoodSet ts h) (v : ValidTimetable ts h τ) where
  -- the setting goes through the timetable
  valid_from : ValidFrom (setting_of ts h) [] 0 τ
  valid_from = (valid_timetable ts h τ).1 v

  -- the hyperperiod is the one that tables are derived with
  derived_with : tables ts τ ≡ tables_of (setting_of ts h) [] 0 τ
  derived_with = rw (set_good ts h g).1

  -- a valid timetable has the derived tables
  pub derived_tables : HasTables ts h τ (tables ts τ)
  derived_tables =
      rw derived_with
      (record {
        its_idles = derived_are_forced ts h (good_rules g) τ valid_from;
        its_inversions = derived_inversions ts h τ valid_from;
        pairs_rise = derived_rise ts h (good_rules g) τ valid_from;
      })

  -- and no others
  pub one_table : {X : Tables} → HasTables ts h τ X → X ≡ tables ts τ
  one_table {X} t =
      rw derived_with
      (λ i. record {
        idles = forced_are_derived ts h (good_rules g) τ valid_from t.its_idles i;
        inversions = inversions_are_derived ts h (good_rules g) τ valid_from X.inversions t.pairs_rise t.its_inversions i;
      })
