-- What whoever derives the tables of a timetable image can rely on, from the contract alone: one result; the image of exactly its irregularities at the
-- front of the output; and a refusal for exactly the first test that refuses. Assumes nothing.
use mathlib.Core.Path.{◌≡◌, sym, ◌∙◌, ap}
use mathlib.Core.Logic.{◌↔◌}
use mathlib.Core.List.{List, ◌++◌}
use Prim.Native.Nat.{ℕ, ◌≤◌}
use lib.ListN.{length, take, drop}
use borrow.Author.Tests.{le-leb}
use Rattle.fields.specs.Number.{Bytes}
use Rattle.rules.specs.declared.Entry.{Entry}
use Rattle.rules.specs.declared.Refusal.{Refusal}
use Rattle.rules.specs.declared.Located.{Located}
use Rattle.std.specs.Prelude.{Result, Ok, Err}
use Rattle.rules.specs.Tasks.{Set}
use Rattle.rules.specs.Refusals.{Judged, gives}
use Rattle.rules.specs.Setting.{Tables}
use Rattle.rules.specs.Judging.{tables}
use Rattle.rules.specs.Image.{table_image}
use Rattle.rules.specs.Located.{located}
use Rattle.rules.specs.Operations.{into, derived_image, make_answer, output_after, derive, derive_output, Derives}
use Rattle.rules.specs.Promised.{TimetableImage, HasTables, RefusesDeriving}
use Rattle.rules.proofs.HasTables.{derived_tables, one_table}
use Rattle.rules.proofs.Demand2.{derives_image, derive_made}
use Rattle.rules.proofs.Promises as book

-- the contract of `derive` leaves one answer and one output
pub one_result : (bytes old : List ℕ) (r q : Result ℕ Located) (out other : List ℕ) → Derives bytes old r out → Derives bytes old q other → (r ≡ q) × (out ≡ other)
one_result bytes old r q out other met also = (met.answer ∙ sym also.answer, met.output ∙ sym also.output)

module _ (bytes old : List ℕ) (r : Result ℕ Located) (out : List ℕ) (met : Derives bytes old r out) where
  -- on a refusal all bytes of the output keep their values
  pub refused_keeps : (q : Located) → r ≡ Err q → out ≡ old
  refused_keeps q e = met.output ∙ (book.derive_refusals bytes old q (sym met.answer ∙ e)).1

  -- it is a refusal exactly where that is the first that the document's order comes to, and 20 is the last
  pub refused_exactly : Bytes bytes → (q : Refusal) → (r ≡ Err (located bytes q)) ↔ RefusesDeriving bytes (length old) q
  refused_exactly b q =
      let exactly = book.derive_order bytes old b q in
      (λ e. exactly.0 (sym met.answer ∙ e), λ w. met.answer ∙ exactly.1 w)

  -- from the image of a timetable, where there is room, the image of exactly its irregularities is written, and later bytes keep their values
  pub writes_exactly : {ts : Set} {τ : List Entry} (t : TimetableImage bytes ts τ) (X : Tables) → HasTables ts t.h τ X →
      length (table_image ts X) ≤ length old →
      (r ≡ Ok (length (table_image ts X))) × (out ≡ table_image ts X ++ drop (length (table_image ts X)) old)
  unfolding derive derive_output
  writes_exactly {ts} {τ} t X has room =
      let its_tables : X ≡ tables ts τ = one_table t.good t.valid has in
      let given : derived_image (length old) bytes ≡ gives (table_image ts X) =
      derives_image t (length old)
      ∙ ap (λ (Y : Tables). into (length old) (table_image ts Y)) (sym its_tables)
      ∙ rw (le-leb (length (table_image ts X)) (length old) room) in
      (met.answer ∙ ap (make_answer bytes) given, met.output ∙ ap (λ (z : Judged (List ℕ)). output_after z old) given)

  -- and a length is answered only where the bytes are such an image, and those irregularities are what was written
  pub writes_only : Bytes bytes → (n : ℕ) → r ≡ Ok n →
      (ts : Set) × (τ : List Entry) × (t : TimetableImage bytes ts τ) × (X : Tables) × HasTables ts t.h τ X × (take n out ≡ table_image ts X)
  writes_only b n e =
      let w = derive_made bytes old n b (sym met.answer ∙ e) in
      (w.0, w.1, w.2, tables w.0 w.1, derived_tables w.2.good w.2.valid, ap (take n) met.output ∙ w.3)
