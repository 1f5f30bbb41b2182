-- What acceptance of a table image says: the tables that stand in it, and that they replay to the rebuilt timetable and are its own. Assumes nothing.
use mathlib.Core.Path.{◌≡◌, ◌∙◌, ap}
use mathlib.Core.List.{List, []}
use mathlib.Core.Option.{none}
use Prim.Native.Nat.{ℕ}
use Rattle.fields.specs.Number.{Bytes}
use Rattle.rules.specs.declared.Entry.{Entry}
use Rattle.rules.specs.Refusals.{gives, first}
use Rattle.rules.specs.Tasks.{Set, hyperperiod, set_fault}
use Rattle.rules.specs.Setting.{Tables}
use Rattle.rules.specs.Priority.{setting}
use Rattle.rules.specs.Decision.{replay}
use Rattle.rules.specs.Judging.{records_fault, timetable_fault, missing_from, tables, judge_tables}
use Rattle.rules.specs.Operations.{Timed, read_tables, rebuild_from, rebuilt}
use Rattle.rules.specs.Dispatcher.{begin}
use Rattle.rules.specs.Image.{head_count}
use Rattle.rules.proofs.Cases.{first_none, or_else_gives, then_gives, gives_in}
use Rattle.rules.proofs.Theory.{ValidFrom}
use Rattle.rules.proofs.RoundTrip.{round_trip}
use Rattle.rules.proofs.JudgedTables.{laws, timetable_judged}
use Rattle.rules.proofs.GoodSets.{good_set}
use Rattle.rules.proofs.ValidTimetables.{no_fault_valid, entries_valid}
use Rattle.rules.proofs.Images.{records_before}
use Rattle.rules.proofs.ShownAt.{Stand}
use Rattle.rules.proofs.StandingTables.{read_stand}
use Rattle.rules.proofs.Serving.{first_turn, Served}

-- tables that are accepted with a timetable
module _ (ts : Set) (X : Tables) (τ : List Entry) (judged : judge_tables ts X ≡ gives τ) where
  -- the set and the records have no fault
  pub no_faults : (set_fault ts ≡ none) × (records_fault ts (hyperperiod ts) X ≡ none)
  no_faults =
      first_none (set_fault ts) (records_fault ts (hyperperiod ts) X)
      (or_else_gives (first (set_fault ts) (records_fault ts (hyperperiod ts) X)) _ τ judged).0

  -- the timetable has no fault, and the tables are its own
  pub its_tables : (timetable_fault ts τ ≡ none) × (tables ts τ ≡ X)
  its_tables =
      let a = or_else_gives (first (set_fault ts) (timetable_fault ts τ)) (gives (tables ts τ)) X (timetable_judged ts X τ judged) in
      ((first_none (set_fault ts) (timetable_fault ts τ) a.0).1, gives_in (tables ts τ) X a.1)

  -- the timetable is valid from the start of a cycle
  valid_from : ValidFrom (setting ts) [] 0 τ
  valid_from = entries_valid (setting ts) (missing_from 0 (hyperperiod ts) ts.tasks) τ (head_count ts) [] 0 its_tables.0

  -- replay gives it back
  pub replayed : replay (setting ts) [] X ≡ gives τ
  replayed = rw (← its_tables.1) (round_trip (setting ts) (laws ts no_faults.0) valid_from)

  module _ (bytes : List ℕ) (are-bytes : Bytes bytes) (read : read_tables bytes ≡ gives (record { set = ts; tables = X })) where
    -- in an image they stand behind the tasks
    pub stand : Stand bytes ts X (records_before ts X)
    stand = read_stand bytes ts X are-bytes read no_faults.0 no_faults.1

    -- the dispatcher goes by them
    pub served : Served bytes ts X τ
    served = record {
      sound = no_faults.0;
      good = good_set ts no_faults.0;
      stand = stand;
      whole = replayed;
      own = its_tables.1;
      valid = (no_fault_valid ts τ).0 its_tables.0;
    }

    -- and beginning looks for the first start in them
    pub begins : begin bytes ≡ first_turn bytes (record { set = ts; tables = X })
    unfolding begin
    begins = rw (read, judged)

-- an image that is accepted with a set and a timetable has tables that are accepted with them
pub given_tables : (bytes : List ℕ) (ts : Set) (τ : List Entry) → rebuilt bytes ≡ gives (record { set = ts; entries = τ }) →
    (X : Tables) × (read_tables bytes ≡ gives (record { set = ts; tables = X })) × (judge_tables ts X ≡ gives τ)
given_tables bytes ts τ accepted =
    then_gives (read_tables bytes) rebuild_from (record { set = ts; entries = τ }) accepted
    (λ i r g. then_gives (judge_tables i.set i.tables) _ (record { set = ts; entries = τ }) g
    (λ σ j e.
    let same : record { set = i.set; entries = σ } ≡ record { set = ts; entries = τ } = gives_in _ _ e in
    let u : i.set ≡ ts = ap (λ (y : Timed). y.set) same in
    let w : σ ≡ τ = ap (λ (y : Timed). y.entries) same in
    (i.tables, r ∙ ap (λ (us : Set). gives (record { set = us; tables = i.tables })) u, rw (u, w) at j)))
