-- A turn over an image, from what measuring it answers: the array has room for every image's figures, so that only what judging the image refuses is
-- refused. Assumes nothing.
use mathlib.Core.Path.{◌≡◌, sym, ◌∙◌, ap}
use mathlib.Core.Bool.{Bool}
use mathlib.Core.List.{List, ◌++◌}
use Prim.Native.Nat.{ℕ, ◌≤◌}
use native.Mathlib.Omega.{arith}
use borrow.Author.Tests.{le-leb}
use lib.IntN.{ℤ}
use lib.ListN.{length, get_or, take, drop, length-append}
use lib.Seq.{take_at}
use mir.Syntax.{w8}
use mir.Val.{Fits}
use Rattle.fields.proofs.Laws.{bytes_by_index}
use Rattle.rules.specs.declared.Axis.{Axis}
use Rattle.rules.specs.declared.Located.{Located}
use Rattle.std.specs.Prelude.{Result, Ok, Err}
use Rattle.rules.specs.Refusals.{Judged, gives}
use Rattle.rules.specs.Located.{bare}
use Rattle.rules.specs.Operations.{output_after}
use Rattle.rules.specs.Axis.{most_figures, front, measured, measured_into, Measures}
use Rattle.rules.proofs.Cases.{by_judged}
use Rattle.rules.proofs.Locations.{answer_refuses, answered_gives}
use Rattle.rules.proofs.FewFigures.{figures_few}
use Rattle.text.specs.Puts.{AtFront}
use Rattle.reporting.specs.declared.TurnAnswer.{TurnAnswer}
use Rattle.reporting.specs.declared.TurnAnswer.TheVariants as turn_case
use Rattle.reporting.specs.Report.{figure_lines, judged_turn, image_turn}
use Rattle.reporting.specs.Turns.{Leaves, RefusedSo}
use Rattle.reporting.proofs.TurnLaws.{leaves_as, lines_left}

-- an image that has figures: they stand at the front of the array
pub record FiguresIn (bytes : List ℕ) (left : List ℤ) (a : Axis) : Type 0 where
  pub figures : List ℤ
  pub judged : measured bytes ≡ gives figures
  pub few : a.figures ≤ most_figures
  pub inside : a.figures ≤ length left
  pub filled : take a.figures left ≡ figures
  pub used : a.used ≡ length (front bytes)

module _ {bytes : List ℕ} {old : List ℤ} {r : Result Axis Located} {left : List ℤ} (fits : (i : ℕ) → Fits w8 (get_or bytes i 0))
    (m : Measures bytes old r left) (room : most_figures ≤ length old) where
  -- the figures of an image are few
  few : (fs : List ℤ) → measured bytes ≡ gives fs → length fs ≤ most_figures
  few = figures_few bytes (bytes_by_index bytes (λ i. (fits i).fits))

  -- so all have room
  all_room : measured_into (length old) bytes ≡ measured bytes
  all_room =
      by_judged (measured bytes) (λ fs f. rw f (rw (le-leb (length fs) (length old) (omega (arith, few fs f))))) (λ p f. rw f)

  -- an axis is the image's figures
  pub figures_in : {a : Axis} → r ≡ Ok a → FiguresIn bytes left a
  figures_in {a} e =
      let told = answered_gives _ (front bytes) (measured bytes) a (rw all_room at (sym m.answer ∙ e)) in
      let fs = told.0 in
      let many : length fs ≡ a.figures = ap (λ (x : Axis). x.figures) told.2 in
      let whole : left ≡ fs ++ drop (length fs) old = m.output ∙ ap (λ (z : Judged (List ℤ)). output_after z old) (all_room ∙ told.1) in
      record {
        figures = fs;
        judged = told.1;
        few = omega (arith, few fs told.1);
        inside = omega (arith, ap length whole, length-append fs (drop (length fs) old));
        filled = ap (take a.figures) whole ∙ take_at fs (drop (length fs) old) a.figures many;
        used = ap (λ (x : Axis). x.used) (sym told.2);
      }

  module _ (more beyond : Bool) {o : List ℕ} {out : List ℕ} where
    -- a refusal that is handed on is the turn
    pub refused_turned : {q : Located} {answered : TurnAnswer} → r ≡ Err q → RefusedSo more beyond q o answered out →
        Leaves (image_turn more beyond bytes) o answered out
    refused_turned {q} e s =
        let told = answer_refuses _ (front bytes) (measured bytes) q (rw all_room at (sym m.answer ∙ e)) in
        leaves_as (ap (judged_turn more beyond (front bytes)) told.judged) (s.leaves (front bytes) (bare q) told.there)

    -- and so are the figures' lines
    pub lines_turned : {a : Axis} {n : ℕ} → r ≡ Ok a → AtFront (figure_lines (take a.figures left)) o n out →
        Leaves (image_turn more beyond bytes) o (turn_case.GoesOn (record { text = n; used = a.used })) out
    lines_turned {a} {n} e p =
        let w = figures_in e in
        leaves_as (ap (judged_turn more beyond (front bytes)) w.judged)
        (lines_left w.used (rw w.filled at p))
