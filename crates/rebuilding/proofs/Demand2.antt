-- Demand 2 over the contracts of the functions, for all results that meet them: what `derive` wrote is accepted by the check of table images, and
-- `rebuild` gives back the very timetable image; what `rebuild` wrote is accepted by the check of timetable images, and `derive` gives back the very
-- table image; and a table image is accepted exactly when some valid timetable has those tables. Assumes nothing.
use mathlib.Core.Path.{◌≡◌, sym, ◌∙◌, ap}
use mathlib.Core.Logic.{◌↔◌}
use mathlib.Core.List.{List, ◌++◌}
use Prim.Native.Nat.{ℕ, ◌≤◌}
use lib.ListN.{length, take, drop}
use Rattle.fields.specs.Number.{Bytes}
use Rattle.rules.specs.declared.Entry.{Entry}
use Rattle.std.specs.Prelude.{Result, Ok, ⊤}
use Rattle.rules.specs.declared.Located.{Located}
use Rattle.rules.specs.Tasks.{Set}
use Rattle.rules.specs.Judging.{tables}
use Rattle.rules.specs.Image.{timetable_image, table_image}
use Rattle.rules.specs.Operations.{Timed, Tabled, derived, rebuilt, check_answer, check_timetable, check_tables, derive_output, rebuild_output, Derives, Rebuilds}
use Rattle.rules.specs.Promised.{TimetableImage, TableImage}
use Rattle.rules.proofs.Cases.{gives_in}
use Rattle.rules.proofs.HasTables.{derived_tables, one_table}
use Rattle.rules.proofs.Demand2.{derives, rebuilds, derive_made, rebuild_made}
use Rattle.rules.proofs.Promises as book

-- the image of a timetable's tables is accepted
accepts_tables : {bytes : List ℕ} {ts : Set} {τ : List Entry} → TableImage bytes ts τ → check_tables bytes ≡ Ok tt
unfolding check_tables
accepts_tables {bytes} t = ap (check_answer bytes) (rebuilds t)

-- and that of a timetable
accepts_timetable : {bytes : List ℕ} {ts : Set} {τ : List Entry} → TimetableImage bytes ts τ → check_timetable bytes ≡ Ok tt
unfolding check_timetable
accepts_timetable {bytes} t = ap (check_answer bytes) (derives t)

-- a table image is that of the tables that its timetable has
is_of_tables : {bytes : List ℕ} {ts : Set} {τ : List Entry} → TableImage bytes ts τ → bytes ≡ table_image ts (tables ts τ)
is_of_tables {bytes} {ts} t = t.is ∙ ap (table_image ts) (one_table t.good t.valid t.has)

-- the check of table images answers Accepted exactly when some valid timetable has those tables
pub accepted_exactly : (bytes : List ℕ) → Bytes bytes → (c : Result ⊤ Located) → c ≡ check_tables bytes →
    (c ≡ Ok tt) ↔ ((ts : Set) × (τ : List Entry) × TableImage bytes ts τ)
accepted_exactly bytes b c met = (λ e. (book.accepted_tables bytes b).0 (sym met ∙ e), λ w. met ∙ accepts_tables w.2)

-- what `derive` wrote
module _ (bytes : List ℕ) (are-bytes : Bytes bytes) (old : List ℕ) (r : Result ℕ Located) (out : List ℕ) (met : Derives bytes old r out)
    (n : ℕ) (made : r ≡ Ok n) where
  -- is the image of the tables of the timetable that it was given
  pub derived_of : (ts : Set) × (τ : List Entry) × TimetableImage bytes ts τ × TableImage (take n out) ts τ
  derived_of =
      let w = derive_made bytes old n are-bytes (sym met.answer ∙ made) in
      let t = w.2 in (
        w.0,
        w.1,
        t,
        record {
          h = t.h;
          tables = tables w.0 w.1;
          good = t.good;
          valid = t.valid;
          has = derived_tables t.good t.valid;
          is = ap (take n) met.output ∙ w.3;
        },
      )

  -- is accepted
  pub derived_accepted : (c : Result ⊤ Located) → c ≡ check_tables (take n out) → c ≡ Ok tt
  derived_accepted c checked = checked ∙ accepts_tables derived_of.3

  -- and from it `rebuild` gives back the very bytes that `derive` was given, where there is room for them
  pub rebuilds_derived : (lent : List ℕ) (q : Result ℕ Located) (filled : List ℕ) → Rebuilds (take n out) lent q filled → length bytes ≤ length lent →
      (q ≡ Ok (length bytes)) × (filled ≡ bytes ++ drop (length bytes) lent)
  rebuilds_derived lent q filled again room =
      let back = book.rebuild_after_derive bytes old n are-bytes (sym met.answer ∙ made) lent room in
      let given : take n out ≡ take n (derive_output bytes old) = ap (take n) met.output in
      (rw given at again.answer ∙ back.0, rw given at again.output ∙ back.1)

-- `derive` writes the same bytes only from the same bytes: no fixed tables
pub derived_alike : (bytes : List ℕ) (b : Bytes bytes) (old : List ℕ) (r : Result ℕ Located) (out : List ℕ) (met : Derives bytes old r out)
    (n : ℕ) (made : r ≡ Ok n)
    (other : List ℕ) (c : Bytes other) (lent : List ℕ) (q : Result ℕ Located) (filled : List ℕ) (also : Derives other lent q filled)
    (m : ℕ) (makes : q ≡ Ok m) →
    take n out ≡ take m filled → bytes ≡ other
derived_alike bytes b old r out met n made other c lent q filled also m makes same =
    let one = derived_of bytes b old r out met n made in
    let two = derived_of other c lent q filled also m makes in
    let timed : Timed = record { set = one.0; entries = one.1 } in
    let other-timed : Timed = record { set = two.0; entries = two.1 } in
    let alike : timed ≡ other-timed = gives_in timed other-timed (sym (rebuilds one.3) ∙ ap rebuilt same ∙ rebuilds two.3) in
    one.2.is ∙ ap (λ (i : Timed). timetable_image i.set i.entries) alike ∙ sym two.2.is

-- what `rebuild` wrote
module _ (bytes : List ℕ) (are-bytes : Bytes bytes) (old : List ℕ) (r : Result ℕ Located) (out : List ℕ) (met : Rebuilds bytes old r out)
    (n : ℕ) (made : r ≡ Ok n) where
  -- is the image of the timetable behind the tables that it was given
  pub rebuilt_of : (ts : Set) × (τ : List Entry) × TableImage bytes ts τ × TimetableImage (take n out) ts τ
  rebuilt_of =
      let w = rebuild_made bytes old n are-bytes (sym met.answer ∙ made) in
      let t = w.2 in
      (w.0, w.1, t, record { h = t.h; good = t.good; valid = t.valid; is = ap (take n) met.output ∙ w.3 })

  -- is accepted
  pub rebuilt_accepted : (c : Result ⊤ Located) → c ≡ check_timetable (take n out) → c ≡ Ok tt
  rebuilt_accepted c checked = checked ∙ accepts_timetable rebuilt_of.3

  -- and from it `derive` gives back the very bytes that `rebuild` was given, where there is room for them
  pub derives_rebuilt : (lent : List ℕ) (q : Result ℕ Located) (filled : List ℕ) → Derives (take n out) lent q filled → length bytes ≤ length lent →
      (q ≡ Ok (length bytes)) × (filled ≡ bytes ++ drop (length bytes) lent)
  derives_rebuilt lent q filled again room =
      let back = book.derive_after_rebuild bytes old n are-bytes (sym met.answer ∙ made) lent room in
      let given : take n out ≡ take n (rebuild_output bytes old) = ap (take n) met.output in
      (rw given at again.answer ∙ back.0, rw given at again.output ∙ back.1)

-- `rebuild` writes the same bytes only from the same bytes: no fixed timetable
pub rebuilt_alike : (bytes : List ℕ) (b : Bytes bytes) (old : List ℕ) (r : Result ℕ Located) (out : List ℕ) (met : Rebuilds bytes old r out)
    (n : ℕ) (made : r ≡ Ok n)
    (other : List ℕ) (c : Bytes other) (lent : List ℕ) (q : Result ℕ Located) (filled : List ℕ) (also : Rebuilds other lent q filled)
    (m : ℕ) (makes : q ≡ Ok m) →
    take n out ≡ take m filled → bytes ≡ other
rebuilt_alike bytes b old r out met n made other c lent q filled also m makes same =
    let one = rebuilt_of bytes b old r out met n made in
    let two = rebuilt_of other c lent q filled also m makes in
    let tabled : Tabled = record { set = one.0; tables = tables one.0 one.1 } in
    let other-tabled : Tabled = record { set = two.0; tables = tables two.0 two.1 } in
    let alike : tabled ≡ other-tabled = gives_in tabled other-tabled (sym (derives one.3) ∙ ap derived same ∙ derives two.3) in
    is_of_tables one.2 ∙ ap (λ (i : Tabled). table_image i.set i.tables) alike ∙ sym (is_of_tables two.2)
