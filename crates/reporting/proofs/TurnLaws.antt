-- A turn, branch by branch, and what a text at the front of an output leaves of it. Assumes nothing.
use mathlib.Core.Path.{◌≡◌, refl, sym, ◌∙◌, ap, ap₂}
use mathlib.Core.Bool.{Bool, true, false}
use mathlib.Core.List.{List, []}
use Prim.Native.Nat.{ℕ, ◌≤◌, ◌<◌}
use native.Mathlib.Omega.{arith}
use lib.Dec.{ltb}
use lib.ListN.{length, take}
use lib.Seq.{take_all}
use borrow.Author.Tests.{lt-ltb, le-ltb, eq-eqb, ne_eqb}
use Rattle.rules.specs.declared.Refusal.{Refusal}
use Rattle.rules.specs.declared.Located.{Located}
use Rattle.rules.specs.Timetable.{pick}
use Rattle.rules.specs.Located.{located}
use Rattle.text.specs.Text.{refused_text, longest_input, too_long}
use Rattle.text.specs.Puts.{AtFront}
use Rattle.reporting.specs.declared.TurnAnswer.{TurnAnswer}
use Rattle.reporting.specs.declared.TurnAnswer.TheVariants as turn_case
use Rattle.reporting.specs.Report.{Turn, waits, goes_on, stops, most_images, refused_turn, image_turn, turn}
use Rattle.reporting.specs.Turns.{room, Leaves, RefusedSo, Turned}

pub leaves_as : {t u : Turn} {old : List ℕ} {r : TurnAnswer} {out : List ℕ} → t ≡ u → Leaves u old r out → Leaves t old r out
leaves_as e l = rw e l

-- last lines at the front of an output, and an image's
pub stops_left : {text old : List ℕ} {n : ℕ} {out : List ℕ} → AtFront text old n out → Leaves (stops text) old (turn_case.Stops n) out
stops_left a = record { answer = ap turn_case.Stops a.many; output = a.front }

pub lines_left : {text old : List ℕ} {n used k : ℕ} {out : List ℕ} → k ≡ used → AtFront text old n out →
    Leaves (goes_on text used) old (turn_case.GoesOn (record { text = n; used = k })) out
lines_left e a = record { answer = ap₂ (λ (n u : ℕ). turn_case.GoesOn (record { text = n; used = u })) a.many e; output = a.front }

-- a refused image: another number than 1 is told, 1 as it comes
module _ (more beyond : Bool) (image : List ℕ) (r : Refusal) where
  abbrev told : Turn
  told = stops (refused_text (located image r))

  abbrev cut : Turn
  cut = pick beyond (stops (refused_text too_long)) (pick more waits told)

  pub refused_other : (r.number ≡ 1 → ⊥) → refused_turn more beyond image r ≡ told
  refused_other k = ap (λ (b : Bool). pick b cut told) (ne_eqb r.number 1 k)

  refused_one : r.number ≡ 1 → refused_turn more beyond image r ≡ cut
  refused_one one = ap (λ (b : Bool). pick b cut told) (eq-eqb r.number 1 one)

-- and so is one that is handed on
module _ (more beyond : Bool) (r : Located) {old : List ℕ} where
  pub other_so : {n : ℕ} {out : List ℕ} → (r.number ≡ 1 → ⊥) → AtFront (refused_text r) old n out → RefusedSo more beyond r old (turn_case.Stops n) out
  other_so k a = record {
    leaves = λ image q e. leaves_as (refused_other more beyond image q (λ one. k (ap (λ (l : Located). l.number) e ∙ one))) (stops_left (rw e at a));
  }

  module _ (one : r.number ≡ 1) where
    cut_as : {t : Turn} {answered : TurnAnswer} {out : List ℕ} → ((image : List ℕ) (q : Refusal) → r ≡ located image q → cut more beyond image q ≡ t) →
        Leaves t old answered out → RefusedSo more beyond r old answered out
    cut_as is l = record {
      leaves = λ image q e. leaves_as (refused_one more beyond image q (ap (λ (l : Located). l.number) (sym e) ∙ one) ∙ is image q e) l;
    }

    pub beyond_so : {n : ℕ} {out : List ℕ} → beyond ≡ true → AtFront (refused_text too_long) old n out → RefusedSo more beyond r old (turn_case.Stops n) out
    beyond_so b a = cut_as (λ image q e. rw b) (stops_left a)

    pub waits_so : beyond ≡ false → more ≡ true → RefusedSo more beyond r old turn_case.Waits old
    waits_so b m = cut_as {t = waits} (λ image q e. rw (b, m)) (record { answer = refl; output = refl })

    pub cut_so : {n : ℕ} {out : List ℕ} → beyond ≡ false → more ≡ false → AtFront (refused_text r) old n out →
        RefusedSo more beyond r old (turn_case.Stops n) out
    cut_so b m a = cut_as (λ image q e. rw (b, m, e)) (stops_left a)

-- no bytes, a byte behind the last image that may come, and an image
module _ (held : List ℕ) (more : Bool) (images : ℕ) where
  pub none_turn : length held ≡ 0 → turn held more images ≡ turn [] more images
  unfolding turn
  none_turn e = rw (le-ltb 0 (length held) (omega arith))

  module _ (some : 0 < length held) where
    pub last_turn : images ≡ most_images → turn held more images ≡ stops (refused_text too_long)
    unfolding turn
    last_turn e = rw (lt-ltb 0 (length held) some, eq-eqb images most_images e)

    module _ (n : images ≡ most_images → ⊥) where
      pub held_turn : turn held more images ≡ image_turn more (ltb longest_input (length held)) (take longest_input held)
      unfolding turn
      held_turn = rw (lt-ltb 0 (length held) some, ne_eqb images most_images n)

      pub long_turn : longest_input < length held → turn held more images ≡ image_turn more true (take longest_input held)
      long_turn l = held_turn ∙ ap (λ (b : Bool). image_turn more b (take longest_input held)) (lt-ltb longest_input (length held) l)

      pub whole_turn : length held ≤ longest_input → turn held more images ≡ image_turn more false held
      whole_turn l = held_turn ∙ rw (le-ltb longest_input (length held) l, take_all longest_input held l)

-- an output with room has the turn's text
pub turned : {held : List ℕ} {more : Bool} {images : ℕ} {old : List ℕ} {r : TurnAnswer} {out : List ℕ} → room ≤ length old →
    Leaves (turn held more images) old r out → Turned held more images old r out
turned l t = record { short = λ k. absurd (omega arith); turns = λ _. t }
