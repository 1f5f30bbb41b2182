-- Demand 2: exactly the images of a good set and a valid timetable are accepted, and exactly the images of such a timetable's tables; deriving gives
-- those tables, rebuilding the one timetable behind them, and each undoes the other byte for byte. Assumes nothing.
use mathlib.Core.Path.{◌≡◌, refl, sym, ◌∙◌, ap}
use mathlib.Core.Logic.{◌↔◌}
use mathlib.Core.List.{List, [], ◌++◌}
use mathlib.Core.Option.{none}
use Prim.Native.Nat.{ℕ, ◌≤◌}
use lib.Dec.{leb}
use lib.ListN.{length, take, drop}
use lib.Seq.{take_at}
use borrow.Author.Tests.{le-leb}
use Rattle.fields.specs.Number.{Bytes}
use Rattle.rules.specs.declared.Entry.{Entry}
use Rattle.std.specs.Prelude.{Ok}
use Rattle.rules.specs.Refusals.{Judged, gives, first, unless}
use Rattle.rules.specs.Tasks.{Set, GoodSet, hyperperiod, set_fault}
use Rattle.rules.specs.Timetable.{ValidTimetable}
use Rattle.rules.specs.Setting.{Tables}
use Rattle.rules.specs.Priority.{setting}
use Rattle.rules.specs.Judging.{timetable_fault, tables, judge_timetable, judge_tables}
use Rattle.rules.specs.Image.{timetable_image, table_image}
use Rattle.rules.specs.Operations.{Timed, Tabled, read_timetable, read_tables, derive_from, rebuild_from, derived, rebuilt, check_answer, check_timetable, check_tables, into, write_tables, write_timetable, derived_image, rebuilt_image, make_answer, output_after, derive, derive_output, rebuild, rebuild_output}
use Rattle.rules.specs.Promised.{TimetableImage, TableImage}
use Rattle.rules.proofs.Cases.{first_none, none_first, or_else_gives, or_else_none, then_gives, gives_in}
use Rattle.rules.proofs.Locations.{answered_gives}
use Rattle.rules.proofs.Theory.{ValidFrom}
use Rattle.rules.proofs.JudgedTables.{timetable_judged, derived_judged}
use Rattle.rules.proofs.GoodSets.{good_set, set_good}
use Rattle.rules.proofs.ValidTimetables.{valid_timetable, no_fault_valid}
use Rattle.rules.proofs.Images.{written_timetable, framed_timetable, written_tables, framed_tables}
use Rattle.rules.proofs.Writable.{valid_writable, tables_writable}
use Rattle.rules.proofs.HasTables.{derived_tables, one_table}

-- a good set and a valid timetable of it
module _ {ts : Set} {h : ℕ} {τ : List Entry} (good : GoodSet ts h) (valid : ValidTimetable ts h τ) where
  -- the set has no fault
  no_set_fault : set_fault ts ≡ none
  no_set_fault = (set_good ts h good).0

  -- the timetable is valid in the cycle that is worked out
  in-its-cycle : ValidTimetable ts (hyperperiod ts) τ
  in-its-cycle = rw (← (set_good ts h good).1) valid

  -- the setting goes through it
  valid_from : ValidFrom (setting ts) [] 0 τ
  valid_from = (valid_timetable ts (hyperperiod ts) τ).1 in-its-cycle

  -- it is accepted, with its tables
  gives_tables : judge_timetable ts τ ≡ gives (tables ts τ)
  gives_tables =
      or_else_none (first (set_fault ts) (timetable_fault ts τ)) _
      (none_first (set_fault ts) (timetable_fault ts τ) no_set_fault ((no_fault_valid ts τ).1 in-its-cycle))

  -- its tables are accepted with it
  gives_timetable : judge_tables ts (tables ts τ) ≡ gives τ
  gives_timetable = derived_judged ts τ no_set_fault valid_from

  -- its image is read as it was written
  timetable_read : read_timetable (timetable_image ts τ) ≡ gives (record { set = ts; entries = τ })
  timetable_read = written_timetable ts τ (valid_writable ts τ no_set_fault valid_from)

  -- and so is the image of its tables
  tables_read : read_tables (table_image ts (tables ts τ)) ≡ gives (record { set = ts; tables = tables ts τ })
  tables_read = written_tables ts (tables ts τ) (tables_writable ts τ no_set_fault valid_from)

-- what a timetable that is accepted with tables is: valid, of a good set, with exactly these tables
judged_good : (ts : Set) (τ : List Entry) (X : Tables) → judge_timetable ts τ ≡ gives X →
    GoodSet ts (hyperperiod ts) × ValidTimetable ts (hyperperiod ts) τ × (tables ts τ ≡ X)
judged_good ts τ X e =
    let a = or_else_gives (first (set_fault ts) (timetable_fault ts τ)) (gives (tables ts τ)) X e in
    let b = first_none (set_fault ts) (timetable_fault ts τ) a.0 in
    (good_set ts b.0, (no_fault_valid ts τ).0 b.1, gives_in (tables ts τ) X a.1)

module _ {bytes : List ℕ} {ts : Set} {τ : List Entry} (t : TimetableImage bytes ts τ) where
  -- deriving gives the set of a timetable image and the tables of its timetable
  pub derives : derived bytes ≡ gives (record { set = ts; tables = tables ts τ })
  derives = rw (t.is, timetable_read t.good t.valid, gives_tables t.good t.valid)

  -- their image, if there is room for it
  pub derives_image : (room : ℕ) → derived_image room bytes ≡ into room (table_image ts (tables ts τ))
  derives_image room = rw derives

  -- which is a table image of the same timetable
  image_of_tables : TableImage (table_image ts (tables ts τ)) ts τ
  image_of_tables = record {
    h = t.h;
    tables = tables ts τ;
    good = t.good;
    valid = t.valid;
    has = derived_tables t.good t.valid;
    is = refl;
  }

module _ {bytes : List ℕ} {ts : Set} {τ : List Entry} (t : TableImage bytes ts τ) where
  -- the tables of a table image are the derived ones
  pub tables_are : bytes ≡ table_image ts (tables ts τ)
  tables_are = t.is ∙ ap (table_image ts) (one_table t.good t.valid t.has)

  -- rebuilding gives the set of a table image and the timetable behind its tables
  pub rebuilds : rebuilt bytes ≡ gives (record { set = ts; entries = τ })
  rebuilds = rw (tables_are, tables_read t.good t.valid, gives_timetable t.good t.valid)

  -- their image, if there is room for it
  pub rebuilds_image : (room : ℕ) → rebuilt_image room bytes ≡ into room (timetable_image ts τ)
  rebuilds_image room = rw rebuilds

  -- which is the image of that timetable
  image_of_timetable : TimetableImage (timetable_image ts τ) ts τ
  image_of_timetable = record { h = t.h; good = t.good; valid = t.valid; is = refl }

  -- and is read as that set and that timetable
  pub rebuilt_reads : read_timetable (timetable_image ts τ) ≡ gives (record { set = ts; entries = τ })
  rebuilt_reads = timetable_read t.good t.valid

-- there is one set and one timetable behind tables
pub one_timetable_behind : {bytes : List ℕ} {ts us : Set} {τ σ : List Entry} → TableImage bytes ts τ → TableImage bytes us σ → (ts ≡ us) × (τ ≡ σ)
one_timetable_behind {bytes} {ts} {us} {τ} {σ} t u =
    let one : Timed = record { set = ts; entries = τ } in
    let other : Timed = record { set = us; entries = σ } in
    let same : one ≡ other = gives_in one other (sym (rebuilds t) ∙ rebuilds u) in
    (ap (λ (i : Timed). i.set) same, ap (λ (i : Timed). i.entries) same)

module _ (bytes : List ℕ) (b : Bytes bytes) where
  -- bytes from which tables are derived are a timetable image
  derived_of : (i : Tabled) → derived bytes ≡ gives i → (ts : Set) × (τ : List Entry) × TimetableImage bytes ts τ
  derived_of i e =
      then_gives (read_timetable bytes) derive_from i e
      (λ j r d. then_gives (judge_timetable j.set j.entries) _ i d
      (λ X q _. let g = judged_good j.set j.entries X q in (
        j.set,
        j.entries,
        record { h = hyperperiod j.set; good = g.0; valid = g.1; is = (framed_timetable bytes b j r).1 },
      )))

  -- bytes from which a timetable is rebuilt are a table image
  pub rebuilt_of : (i : Timed) → rebuilt bytes ≡ gives i → (ts : Set) × (τ : List Entry) × TableImage bytes ts τ
  rebuilt_of i e =
      then_gives (read_tables bytes) rebuild_from i e
      (λ j r d. then_gives (judge_tables j.set j.tables) _ i d
      (λ τ q _. let g = judged_good j.set τ j.tables (timetable_judged j.set j.tables τ q) in (
        j.set,
        τ,
        record {
          h = hyperperiod j.set;
          tables = j.tables;
          good = g.0;
          valid = g.1;
          has = rw g.2 at (derived_tables g.0 g.1);
          is = (framed_tables bytes b j r).1;
        },
      )))

  -- a timetable image is accepted exactly when it is that of a good set and a valid timetable
  pub accepts_timetable : (check_timetable bytes ≡ Ok tt) ↔ ((ts : Set) × (τ : List Entry) × TimetableImage bytes ts τ)
  unfolding check_timetable
  accepts_timetable = (λ e. let g = answered_gives _ bytes (derived bytes) tt e in derived_of g.0 g.1, λ w. ap (check_answer bytes) (derives w.2))

  -- a table image is accepted exactly when it is that of a good set and of the tables of a valid timetable
  pub accepts_tables : (check_tables bytes ≡ Ok tt) ↔ ((ts : Set) × (τ : List Entry) × TableImage bytes ts τ)
  unfolding check_tables
  accepts_tables = (λ e. let g = answered_gives _ bytes (rebuilt bytes) tt e in rebuilt_of g.0 g.1, λ w. ap (check_answer bytes) (rebuilds w.2))

-- what an output takes is the whole result
into_gives : (room : ℕ) (bytes result : List ℕ) → into room bytes ≡ gives result → result ≡ bytes
into_gives room bytes result e = sym (gives_in bytes result (or_else_gives (unless (leb (length bytes) room) 20 0) (gives bytes) result e).1)

-- and with room for it the output takes it
pub into_fits : (room : ℕ) (bytes : List ℕ) → length bytes ≤ room → into room bytes ≡ gives bytes
into_fits room bytes l = rw (le-leb (length bytes) room l)

-- an answer with a length: there is a result, and the front of the output is that result
made_gives : (bytes : List ℕ) (z : Judged (List ℕ)) (old : List ℕ) (n : ℕ) → make_answer bytes z ≡ Ok n →
    (result : List ℕ) × (z ≡ gives result) × (take n (output_after z old) ≡ result)
made_gives bytes z old n e = let g = answered_gives _ bytes z n e in (g.0, g.1, ap (λ y. take n (output_after y old)) g.1 ∙ take_at g.0 _ n g.2)

-- where there is a result, its length is answered, and it fills the front of the output
pub gives_made : (bytes : List ℕ) (z : Judged (List ℕ)) (result out : List ℕ) → z ≡ gives result →
    (make_answer bytes z ≡ Ok (length result)) × (output_after z out ≡ result ++ drop (length result) out)
gives_made bytes z result out e = (rw e, rw e)

module _ (bytes old : List ℕ) (n : ℕ) (b : Bytes bytes) where
  -- where deriving answers with a length, the bytes are a timetable image, and the front of the output is that of its tables
  pub derive_made : derive bytes old ≡ Ok n → (ts : Set) × (τ : List Entry) × TimetableImage bytes ts τ × (take n (derive_output bytes old) ≡ table_image ts (tables ts τ))
  unfolding derive derive_output
  derive_made e =
      let m = made_gives bytes (derived_image (length old) bytes) old n e in
      then_gives (derived bytes) (write_tables (length old)) m.0 m.1
      (λ i d _. let w = derived_of bytes b i d in
      (w.0, w.1, w.2, m.2 ∙ into_gives (length old) _ m.0 (sym (derives_image w.2 (length old)) ∙ m.1)))

  -- where rebuilding answers with a length, the bytes are a table image, and the front of the output is that of the timetable behind it
  pub rebuild_made : rebuild bytes old ≡ Ok n → (ts : Set) × (τ : List Entry) × TableImage bytes ts τ × (take n (rebuild_output bytes old) ≡ timetable_image ts τ)
  unfolding rebuild rebuild_output
  rebuild_made e =
      let m = made_gives bytes (rebuilt_image (length old) bytes) old n e in
      then_gives (rebuilt bytes) (write_timetable (length old)) m.0 m.1
      (λ i d _. let w = rebuilt_of bytes b i d in
      (w.0, w.1, w.2, m.2 ∙ into_gives (length old) _ m.0 (sym (rebuilds_image w.2 (length old)) ∙ m.1)))

  -- rebuilding what was derived gives the bytes again
  pub rebuild_after_derive : derive bytes old ≡ Ok n → (out : List ℕ) → length bytes ≤ length out →
      (rebuild (take n (derive_output bytes old)) out ≡ Ok (length bytes))
      × (rebuild_output (take n (derive_output bytes old)) out ≡ bytes ++ drop (length bytes) out)
  unfolding rebuild rebuild_output
  rebuild_after_derive e out l =
      let w = derive_made e in
      rw w.3
      (gives_made _ (rebuilt_image (length out) (table_image w.0 (tables w.0 w.1))) bytes out
      (rebuilds_image (image_of_tables w.2) (length out) ∙ ap (into (length out)) (sym w.2.is) ∙ into_fits (length out) bytes l))

  -- and deriving from what was rebuilt
  pub derive_after_rebuild : rebuild bytes old ≡ Ok n → (out : List ℕ) → length bytes ≤ length out →
      (derive (take n (rebuild_output bytes old)) out ≡ Ok (length bytes))
      × (derive_output (take n (rebuild_output bytes old)) out ≡ bytes ++ drop (length bytes) out)
  unfolding derive derive_output
  derive_after_rebuild e out l =
      let w = rebuild_made e in
      rw w.3
      (gives_made _ (derived_image (length out) (timetable_image w.0 w.1)) bytes out
      (derives_image (image_of_timetable w.2) (length out) ∙ ap (into (length out)) (sym (tables_are w.2)) ∙ into_fits (length out) bytes l))
