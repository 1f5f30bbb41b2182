-- What the functions of a turn answer and leave in a lent output, and what the turns write up to a read that fails. Assumes nothing.
use Rattle.std.specs.Prelude.{◌≡◌, Bool, true, List, [], ◌∷◌, ◌++◌, ℕ, zero, suc, ◌*◌, ◌≤◌, ◌<◌, length, drop}
use Rattle.rules.specs.declared.Located.{Located}
use Rattle.rules.specs.declared.Refusal.{Refusal}
use Rattle.rules.specs.Located.{located}
use Rattle.rules.specs.Axis.{most_figures}
use Rattle.reporting.specs.declared.TurnAnswer.{TurnAnswer}
use Rattle.reporting.specs.declared.TurnAnswer.TheVariants as turn_case
use Rattle.reporting.specs.Report.{Turn, waits, goes_on, stops, refused_turn, turn}

-- the most characters of a figure's line: a sign, 19 digits and the line's end
abbrev pub longest_line : ℕ
longest_line = 21

-- room for the lines of every image, 172,452 bytes
abbrev pub room : ℕ
room = most_figures * longest_line

-- the text that a turn comes to, and what is answered: its length, and an image's bytes
abbrev pub turn_text : Turn → List ℕ
turn_text waits = []
turn_text (goes_on text used) = text
turn_text (stops text) = text

abbrev pub turn_answer : Turn → TurnAnswer
turn_answer waits = turn_case.Waits
turn_answer (goes_on text used) = turn_case.GoesOn (record { text = length text; used = used })
turn_answer (stops text) = turn_case.Stops (length text)

-- the text fills the front of the output, and later bytes keep their values
pub record Leaves (t : Turn) (old : List ℕ) (r : TurnAnswer) (out : List ℕ) : Type 0 where
  pub answer : r ≡ turn_answer t
  pub output : out ≡ turn_text t ++ drop (length (turn_text t)) old

-- a refusal is handed on located in its image
pub record RefusedSo (more beyond : Bool) (r : Located) (old : List ℕ) (answered : TurnAnswer) (out : List ℕ) : Type 0 where
  pub leaves : (image : List ℕ) (q : Refusal) → r ≡ located image q → Leaves (refused_turn more beyond image q) old answered out

-- an output that is too short keeps its bytes and an end with no text is answered; any other has the turn's text at its front
pub record Turned (held : List ℕ) (more : Bool) (images : ℕ) (old : List ℕ) (r : TurnAnswer) (out : List ℕ) : Type 0 where
  pub short : length old < room → (r ≡ turn_case.Stops 0) × (out ≡ old)
  pub turns : room ≤ length old → Leaves (turn held more images) old r out

-- what the turns write over the pieces that came before a read that fails
abbrev pub written : ℕ → List ℕ → List (List ℕ) → ℕ → List ℕ
written zero held pieces images = []
written (suc turns) held pieces images =
    elim (turn held true images) [
      | waits ↦ elim pieces [ [] ↦ [] | piece ∷ rest ↦ written turns (held ++ piece) rest images ]
      | goes_on text used ↦ text ++ written turns (drop used held) pieces (suc images)
      | stops text ↦ text
    ]
