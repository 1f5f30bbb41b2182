-- Demand 2 on lists: tables are accepted with a timetable exactly when that timetable is valid and has these tables. Assumes nothing.
use mathlib.Core.Path.{◌≡◌, refl, sym, ◌∙◌, ap, subst}
use mathlib.Core.Logic.{◌↔◌}
use mathlib.Core.Bool.{true}
use mathlib.Core.List.{List, []}
use mathlib.Core.Option.{none}
use Prim.Native.Nat.{ℕ, suc, ◌-◌, ◌≤◌}
use native.Mathlib.Omega.{arith}
use borrow.Author.Tests.{lt-ltb, le-leb}
use Rattle.rules.specs.declared.Entry.{Entry}
use Rattle.rules.specs.Refusals.{gives, first, then}
use Rattle.rules.specs.Tasks.{Set, task, release, hyperperiod, set_fault}
use Rattle.rules.specs.Setting.{Tables}
use Rattle.rules.specs.Priority.{slot, entry_breaks, setting_of, setting}
use Rattle.rules.specs.Irregularities.{inversion_of}
use Rattle.rules.specs.Decision.{replay}
use Rattle.rules.specs.Judging.{timetable_fault, tables, judge_timetable, inversion_in_range, records_fault, tables_differ, compared, judge_tables}
use Rattle.rules.specs.Image.{head_count}
use Rattle.rules.proofs.Cases.{first_none, none_first, or_else_gives, or_else_none, then_gives, gives_in}
use Rattle.rules.proofs.Theory.{Laws, ValidFrom}
use Rattle.rules.proofs.RoundTrip.{round_trip}
use Rattle.rules.proofs.Derived.{idles_rising, inversions_pairs, inversions_every}
use Rattle.rules.proofs.Replayed.{yields}
use Rattle.rules.proofs.PriorityLaws.{keeps_rules, setting_laws}
use Rattle.rules.proofs.GoodSets.{good_set, good_rules}
use Rattle.rules.proofs.ValidTimetables.{entries_valid, valid_entries}
use Rattle.rules.proofs.Records.{keep_records}
use Rattle.rules.proofs.Differences.{no_difference}

-- the record of an entry that keeps the rules is in its range
pub entry_in_range : (ts : Set) (h : ℕ) (x : List ℕ) (f : ℕ) (e : Entry) → entry_breaks ts h x f e.task e.start ≡ 0 →
    inversion_in_range ts h (inversion_of (setting_of ts h) x e) ≡ true
entry_in_range ts h x f e v =
    let o = keeps_rules ts h x f e.task e.start v in
    let i : ℕ = e.task in
    let delay : e.start - release (task ts i) (slot x i) ≤ (task ts i).deadline - (task ts i).time = omega (arith, o.in_time, o.released) in
    rw (lt-ltb _ _ o.a_task, lt-ltb _ _ o.left) (le-leb _ _ delay)

module _ (ts : Set) where
  -- a set without a fault has the laws
  pub laws : set_fault ts ≡ none → Laws (setting ts)
  laws e = setting_laws ts (hyperperiod ts) (good_rules (good_set ts e))

  -- 17 never refuses the records of a valid timetable
  pub derived_keep_rules : (τ : List Entry) → set_fault ts ≡ none → ValidFrom (setting ts) [] 0 τ → records_fault ts (hyperperiod ts) (tables ts τ) ≡ none
  derived_keep_rules τ e v =
      keep_records ts (hyperperiod ts) (tables ts τ)
      (record {
        rising = idles_rising (setting ts) (laws e) v;
        pairs = inversions_pairs (setting ts) (laws e) v;
        in_range = inversions_every (setting ts) (inversion_in_range ts (hyperperiod ts)) (entry_in_range ts (hyperperiod ts)) v;
      })

  -- what the comparison gives is what it was given, with the tables given
  compared_gives : (X : Tables) (σ τ : List Entry) → compared ts X σ ≡ gives τ → (σ ≡ τ) × (X ≡ tables ts τ)
  compared_gives X σ τ e =
      let a = or_else_gives (tables_differ (head_count ts) X (tables ts σ)) (gives σ) τ e in
      let q : σ ≡ τ = gives_in σ τ a.1 in
      (q, (no_difference (head_count ts) X (tables ts σ)).0 a.0 ∙ ap (tables ts) q)

  -- tables accepted with a timetable are those of that timetable, which is valid
  pub timetable_judged : (X : Tables) (τ : List Entry) → judge_tables ts X ≡ gives τ → judge_timetable ts τ ≡ gives X
  timetable_judged X τ e =
      let a = or_else_gives (first (set_fault ts) (records_fault ts (hyperperiod ts) X)) _ τ e in
      let b = first_none (set_fault ts) (records_fault ts (hyperperiod ts) X) a.0 in
      then_gives (replay (setting ts) [] X) (compared ts X) τ a.1
      (λ σ r g.
      let c = compared_gives X σ τ g in
      let v : ValidFrom (setting ts) [] 0 τ =
      yields (setting ts) (laws b.0) (suc (setting ts).latest) [] 0 X.idles X.inversions τ (r ∙ ap gives c.0) in
      or_else_none (first (set_fault ts) (timetable_fault ts τ)) (gives (tables ts τ))
      (none_first (set_fault ts) (timetable_fault ts τ) b.0 (valid_entries (setting ts) _ v (head_count ts)))
      ∙ ap gives (sym c.1))

  -- the tables of a valid timetable are accepted with it
  pub derived_judged : (τ : List Entry) → set_fault ts ≡ none → ValidFrom (setting ts) [] 0 τ → judge_tables ts (tables ts τ) ≡ gives τ
  derived_judged τ e v =
      let X : Tables = tables ts τ in
      or_else_none (first (set_fault ts) (records_fault ts (hyperperiod ts) X)) (then (replay (setting ts) [] X) (compared ts X))
      (none_first (set_fault ts) (records_fault ts (hyperperiod ts) X) e (derived_keep_rules τ e v))
      ∙ ap (λ z. then z (compared ts X)) (round_trip (setting ts) (laws e) v)
      ∙ or_else_none (tables_differ (head_count ts) X X) (gives τ) ((no_difference (head_count ts) X X).1 refl)

  -- the tables that a timetable is judged with are accepted with it
  pub tables_judged : (X : Tables) (τ : List Entry) → judge_timetable ts τ ≡ gives X → judge_tables ts X ≡ gives τ
  tables_judged X τ e =
      let a = or_else_gives (first (set_fault ts) (timetable_fault ts τ)) (gives (tables ts τ)) X e in
      let b = first_none (set_fault ts) (timetable_fault ts τ) a.0 in
      subst (λ (Y : Tables). judge_tables ts Y ≡ gives τ) (gives_in (tables ts τ) X a.1)
      (derived_judged τ b.0 (entries_valid (setting ts) _ τ (head_count ts) [] 0 b.1))

  -- tables are accepted with a timetable exactly when it is judged with these tables
  pub demand_2_on_lists : (X : Tables) (τ : List Entry) → (judge_tables ts X ≡ gives τ) ↔ (judge_timetable ts τ ≡ gives X)
  demand_2_on_lists X τ = (timetable_judged X τ, tables_judged X τ)
