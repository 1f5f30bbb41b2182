-- Listing what is rebuilt from a table image: the scratch has room for every timetable image, so that rebuilding refuses only what
-- checking the table image refuses. Assumes nothing.
use mathlib.Core.Path.{◌≡◌, sym, ◌∙◌, ap}
use mathlib.Core.List.{List, ◌++◌}
use Prim.Native.Nat.{ℕ, ◌≤◌}
use native.Mathlib.Omega.{arith}
use borrow.Author.Tests.{le-leb}
use lib.ListN.{length, get_or, take, drop, length-append}
use lib.Seq.{take_at}
use mir.Syntax.{w8}
use mir.Val.{Fits}
use Rattle.fields.proofs.Laws.{bytes_by_index}
use Rattle.rules.specs.declared.Entry.{Entry}
use Rattle.rules.specs.declared.Located.{Located}
use Rattle.std.specs.Prelude.{Result, Ok, Err}
use Rattle.rules.specs.Refusals.{gives}
use Rattle.rules.specs.Tasks.{Set, GoodSet}
use Rattle.rules.specs.Timetable.{ValidTimetable}
use Rattle.rules.specs.Image.{timetable_image}
use Rattle.rules.specs.Located.{located}
use Rattle.rules.specs.Operations.{Timed, rebuilt, rebuilt_image, check_answer, check_tables, make_answer, rebuild, rebuild_output, Rebuilds}
use Rattle.rules.specs.Promised.{TimetableImage, TableImage}
use Rattle.rules.proofs.Cases.{clash, by_judged}
use Rattle.rules.proofs.Images.{timetable_image_length}
use Rattle.rules.proofs.Demand2.{rebuilds, rebuilds_image, accepts_tables}
use Rattle.text.specs.Text.{refused_text}
use Rattle.lines.specs.Text.{text_of, listing_of, listing}
use Rattle.rebuilding.specs.Rebuilt.{longest_image}
use Rattle.lines.proofs.TextLengths.{few_entries}

-- the image of a valid timetable is no longer than the longest
pub image_short : {ts : Set} {h : ℕ} {τ : List Entry} → GoodSet ts h → ValidTimetable ts h τ → length (timetable_image ts τ) ≤ longest_image
image_short {ts} {h} {τ} good valid = omega (arith, timetable_image_length ts τ, good.few_tasks, few_entries good valid)

-- a timetable that is rebuilt, and its image in the scratch
pub record RebuiltIn (bytes scratch : List ℕ) (n : ℕ) : Type 0 where
  pub set : Set
  pub entries : List Entry
  pub inside : n ≤ length scratch
  pub image : TimetableImage (take n scratch) set entries
  pub listed : listing bytes ≡ listing_of set entries

module _ {bytes : List ℕ} (fits : (i : ℕ) → Fits w8 (get_or bytes i 0)) where
  -- what is not refused is rebuilt in the scratch
  given : (old : List ℕ) → length old ≡ longest_image → {i : Timed} → rebuilt bytes ≡ gives i →
      (ts : Set) × (τ : List Entry) × TableImage bytes ts τ × (rebuilt_image (length old) bytes ≡ gives (timetable_image ts τ))
  unfolding check_tables
  given old long {i} e =
      let w = (accepts_tables bytes (bytes_by_index bytes (λ i. (fits i).fits))).0 (ap (check_answer bytes) e) in
      let t = w.2 in
      let room : length (timetable_image w.0 w.1) ≤ length old = omega (arith, image_short t.good t.valid) in
      (w.0, w.1, t, rebuilds_image t (length old) ∙ rw (le-leb _ (length old) room))

  module _ {old : List ℕ} (long : length old ≡ longest_image) {r : Result ℕ Located} {out : List ℕ} (w : Rebuilds bytes old r out) where
    -- a refusal is that of the table image
    pub refused_so : {q : Located} → r ≡ Err q → listing bytes ≡ refused_text q
    unfolding rebuild listing
    refused_so {q} e =
        by_judged (rebuilt bytes)
        (λ i f.
        let g = given old long f in
        let made : make_answer bytes (gives (timetable_image g.0 g.1)) ≡ Err q = rw g.3 at (sym w.answer ∙ e) in
        clash (cc))
        (λ p f.
        let same : ◌≡◌ {A = Result ℕ Located} (Err (located bytes p)) (Err q) = rw f at (sym w.answer ∙ e) in
        let one : located bytes p ≡ q = cc in
        ap (text_of bytes) f ∙ ap refused_text one)

    -- and a length is that of the image of the timetable that is listed
    pub made_so : {n : ℕ} → r ≡ Ok n → RebuiltIn bytes out n
    unfolding rebuild rebuild_output listing
    made_so {n} e =
        by_judged (rebuilt bytes)
        (λ i f.
        let g = given old long f in
        let t = g.2 in
        let made : make_answer bytes (gives (timetable_image g.0 g.1)) ≡ Ok n = rw g.3 at (sym w.answer ∙ e) in
        let many : length (timetable_image g.0 g.1) ≡ n = cc in
        let written : out ≡ timetable_image g.0 g.1 ++ drop (length (timetable_image g.0 g.1)) old = w.output ∙ rw g.3 in
        record {
          set = g.0;
          entries = g.1;
          inside = omega (arith, ap length written, length-append (timetable_image g.0 g.1) (drop (length (timetable_image g.0 g.1)) old));
          image = record { h = t.h; good = t.good; valid = t.valid; is = ap (take n) written ∙ take_at (timetable_image g.0 g.1) _ n many };
          listed = ap (text_of bytes) (rebuilds t);
        })
        (λ p f. let refused : ◌≡◌ {A = Result ℕ Located} (Err (located bytes p)) (Ok n) = rw f at (sym w.answer ∙ e) in clash (cc))
