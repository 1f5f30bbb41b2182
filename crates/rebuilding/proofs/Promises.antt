-- What whoever rebuilds a timetable from a table image can rely on, from the contract alone: one result; a refusal for exactly the first test that
-- refuses, with the output kept; and the image of exactly the timetable behind the tables at the front of the output. Assumes nothing.
use mathlib.Core.Path.{◌≡◌, sym, ◌∙◌, ap}
use mathlib.Core.Logic.{◌↔◌}
use mathlib.Core.List.{List, ◌++◌}
use Prim.Native.Nat.{ℕ, ◌≤◌}
use lib.ListN.{length, take, drop}
use borrow.Author.Tests.{le-leb}
use Rattle.fields.specs.Number.{Bytes}
use Rattle.rules.specs.declared.Entry.{Entry}
use Rattle.rules.specs.declared.Refusal.{Refusal}
use Rattle.rules.specs.declared.Located.{Located}
use Rattle.std.specs.Prelude.{Result, Ok, Err}
use Rattle.rules.specs.Tasks.{Set}
use Rattle.rules.specs.Refusals.{Judged, gives}
use Rattle.rules.specs.Image.{timetable_image}
use Rattle.rules.specs.Located.{located}
use Rattle.rules.specs.Operations.{rebuilt_image, make_answer, output_after, rebuild, rebuild_output, Rebuilds}
use Rattle.rules.specs.Promised.{TableImage, RefusesRebuilding}
use Rattle.rules.proofs.Promises.{rebuilt_images, rebuild_refusals, rebuild_order}
use Rattle.rules.proofs.Demand2.{rebuild_made}

-- the contract of `rebuild` leaves one answer and one output
pub one_result : (bytes old : List ℕ) (r q : Result ℕ Located) (out other : List ℕ) → Rebuilds bytes old r out → Rebuilds bytes old q other →
    (r ≡ q) × (out ≡ other)
one_result bytes old r q out other met also = (met.answer ∙ sym also.answer, met.output ∙ sym also.output)

module _ (bytes old : List ℕ) (r : Result ℕ Located) (out : List ℕ) (met : Rebuilds bytes old r out) where
  -- on a refusal all bytes of the output keep their values
  pub refused_keeps : (q : Located) → r ≡ Err q → out ≡ old
  refused_keeps q e = met.output ∙ (rebuild_refusals bytes old q (sym met.answer ∙ e)).1

  -- it is a refusal exactly where that is the first that the document's order comes to, and 20 is the last
  pub refused_exactly : Bytes bytes → (q : Refusal) → (r ≡ Err (located bytes q)) ↔ RefusesRebuilding bytes (length old) q
  refused_exactly b q =
      let exactly = rebuild_order bytes old b q in
      (λ e. exactly.0 (sym met.answer ∙ e), λ w. met.answer ∙ exactly.1 w)

  -- from the image of a timetable's tables, where there is room, the image of exactly that timetable is written, and later bytes keep their values
  pub writes_exactly : {ts : Set} {τ : List Entry} → TableImage bytes ts τ → length (timetable_image ts τ) ≤ length old →
      (r ≡ Ok (length (timetable_image ts τ))) × (out ≡ timetable_image ts τ ++ drop (length (timetable_image ts τ)) old)
  unfolding rebuild rebuild_output
  writes_exactly {ts} {τ} t room =
      let given : rebuilt_image (length old) bytes ≡ gives (timetable_image ts τ) =
      rebuilt_images t (length old) ∙ rw (le-leb (length (timetable_image ts τ)) (length old) room) in
      (met.answer ∙ ap (make_answer bytes) given, met.output ∙ ap (λ (z : Judged (List ℕ)). output_after z old) given)

  -- and a length is answered only where the bytes are such an image, and that timetable's image is what was written
  pub writes_only : Bytes bytes → (n : ℕ) → r ≡ Ok n →
      (ts : Set) × (τ : List Entry) × TableImage bytes ts τ × (take n out ≡ timetable_image ts τ)
  writes_only b n e =
      let w = rebuild_made bytes old n b (sym met.answer ∙ e) in
      (w.0, w.1, w.2, ap (take n) met.output ∙ w.3)
