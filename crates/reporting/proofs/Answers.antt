-- What a caller knows from an answer, whose output has room: the text lies within the output; one that waits can get more, and has not too many bytes; one that
-- goes on has used bytes that are held. Assumes nothing.
use mathlib.Core.Path.{◌≡◌, sym, ◌∙◌, ap}
use mathlib.Core.Bool.{Bool, true}
use mathlib.Core.List.{List}
use Prim.Native.Nat.{ℕ, ◌≤◌}
use native.Mathlib.Omega.{arith}
use lib.ListN.{length, drop, length-append}
use Rattle.rules.proofs.Cases.{clash}
use Rattle.text.specs.Text.{longest_input}
use Rattle.reporting.specs.declared.Told.{Told}
use Rattle.reporting.specs.declared.TurnAnswer.{TurnAnswer}
use Rattle.reporting.specs.declared.TurnAnswer.TheVariants as turn_case
use Rattle.reporting.specs.Report.{Turn, waits, goes_on, stops, turn}
use Rattle.reporting.specs.Turns.{room, turn_text, Leaves, Turned}
use Rattle.reporting.proofs.NoFurther.{by_turn, Goes, turn_goes, turn_waits}

-- the text lies within the output
text_inside : {t : Turn} {old : List ℕ} {r : TurnAnswer} {out : List ℕ} → Leaves t old r out → length (turn_text t) ≤ length out
text_inside {t} {old} l = omega (arith, ap length l.output, length-append (turn_text t) (drop (length (turn_text t)) old))

-- a turn that waits, and one that goes on, as they are answered
pub record WaitsSo (held : List ℕ) (more : Bool) (images : ℕ) : Type 0 where
  pub turned : turn held more images ≡ waits
  pub can_come : more ≡ true
  pub has_room : length held ≤ longest_input

pub record GoesSo (held : List ℕ) (more : Bool) (images : ℕ) (told : Told) (out : List ℕ) : Type 0 where
  pub text : List ℕ
  pub turned : turn held more images ≡ goes_on text told.used
  pub inside : told.text ≤ length out
  pub goes : Goes held images told.used

module _ {held : List ℕ} {more : Bool} {images : ℕ} {old : List ℕ} {r : TurnAnswer} {out : List ℕ} (turned : Turned held more images old r out)
    (has_room : room ≤ length old) where
  abbrev leaves : Leaves (turn held more images) old r out
  leaves = turned.turns has_room

  pub stops_inside : {n : ℕ} → r ≡ turn_case.Stops n → n ≤ length out
  stops_inside {n} e =
      by_turn (turn held more images) (λ t. let l = rw t at leaves in let never = sym e ∙ l.answer in clash (cc))
      (λ text used t. let l = rw t at leaves in let never = sym e ∙ l.answer in clash (cc))
      (λ text t.
      let l : Leaves (stops text) old r out = rw t at leaves in
      let same : ◌≡◌ {A = TurnAnswer} (turn_case.Stops n) (turn_case.Stops (length text)) = sym e ∙ l.answer in
      let many : n ≡ length text = cc in
      omega (arith, text_inside l))

  pub waits_so : r ≡ turn_case.Waits → WaitsSo held more images
  waits_so e =
      by_turn (turn held more images)
      (λ t. let w = turn_waits held more images t in record { turned = t; can_come = w.0; has_room = w.1 })
      (λ text used t. let l = rw t at leaves in let never = sym e ∙ l.answer in clash (cc))
      (λ text t. let l = rw t at leaves in let never = sym e ∙ l.answer in clash (cc))

  pub goes_so : {told : Told} → r ≡ turn_case.GoesOn told → GoesSo held more images told out
  goes_so {told} e =
      by_turn (turn held more images) (λ t. let l = rw t at leaves in let never = sym e ∙ l.answer in clash (cc))
      (λ text used t.
      let l : Leaves (goes_on text used) old r out = rw t at leaves in
      let same : turn_case.GoesOn told ≡ turn_case.GoesOn (record { text = length text; used = used }) = sym e ∙ l.answer in
      let one : told ≡ record { text = length text; used = used } = cc in
      rw one (record { text = text; turned = t; inside = text_inside l; goes = turn_goes held more images text used t }))
      (λ text t. let l = rw t at leaves in let never = sym e ∙ l.answer in clash (cc))
