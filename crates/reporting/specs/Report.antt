-- The report over a line of images: document 02, R-4. What one turn comes to, over the bytes that are held; the report of a whole input; and a drive over
-- the pieces in which it comes. Assumes nothing.
use Rattle.std.specs.Prelude.{Bool, true, false, List, [], ◌∷◌, ◌++◌, ℕ, zero, suc, ltb, eqb, length, take, drop, ℤ}
use Rattle.rules.specs.declared.Refusal.{Refusal}
use Rattle.rules.specs.Refusals.{Judged, gives, refuses, refusal}
use Rattle.rules.specs.Timetable.{pick}
use Rattle.rules.specs.Located.{located}
use Rattle.rules.specs.Axis.{front, measured}
use Rattle.text.specs.Text.{line_end, signed_then, refused_text, longest_input, too_long}

-- the most images of a line
abbrev pub most_images : ℕ
most_images = 10000

-- one figure a line
abbrev pub figure_lines : List ℤ → List ℕ
figure_lines [] = []
figure_lines (z ∷ zs) = signed_then z line_end ++ figure_lines zs

-- what a turn comes to: more bytes are needed, and can come; an image's lines, with the bytes that it has; or the last lines of the report
pub data Turn : Type 0 where
  waits : Turn
  goes_on : List ℕ → ℕ → Turn
  stops : List ℕ → Turn

-- a refused image's line ends the report. Where framing needs a byte that is not there, it is 20 if that byte lies beyond the first 65,536 of the image and
-- there are such bytes; else more may come; else it is the image's own refusal, 1
abbrev pub refused_turn : Bool → Bool → List ℕ → Refusal → Turn
refused_turn more beyond image r =
    pick (eqb r.number 1)
    (pick beyond (stops (refused_text too_long)) (pick more waits (stops (refused_text (located image r)))))
    (stops (refused_text (located image r)))

abbrev pub judged_turn : Bool → Bool → List ℕ → Judged (List ℤ) → Turn
judged_turn more beyond image (gives figures) = goes_on (figure_lines figures) (length image)
judged_turn more beyond image (refuses r) = refused_turn more beyond image r

-- the image at the front of at most 65,536 bytes
abbrev pub image_turn : Bool → Bool → List ℕ → Turn
image_turn more beyond bytes = judged_turn more beyond (front bytes) (measured bytes)

-- a turn over the bytes that are held, from an image's begin on: whether more can come, and how many images there were before. No bytes at all are refused
-- with 1; behind an image the end is the end; a byte behind the 10,000th is refused with 20
unfoldable pub turn : List ℕ → Bool → ℕ → Turn
turn held more images =
    pick (ltb 0 (length held))
    (pick (eqb images most_images) (stops (refused_text too_long)) (image_turn more (ltb longest_input (length held)) (take longest_input held)))
    (pick more waits (pick (eqb images 0) (stops (refused_text (located [] (refusal 1 0)))) (stops [])))

-- the report of a whole input, behind which nothing can come, in so many turns; one more than its bytes are enough
abbrev pub report_in : ℕ → List ℕ → ℕ → List ℕ
report_in zero bytes images = []
report_in (suc turns) bytes images =
    elim (turn bytes false images) [
      | waits ↦ []
      | goes_on text used ↦ text ++ report_in turns (drop used bytes) (suc images)
      | stops text ↦ text
    ]

unfoldable pub report : List ℕ → List ℕ
report bytes = report_in (suc (length bytes)) bytes 0

-- the bytes of all pieces
abbrev pub joined : List (List ℕ) → List ℕ
joined [] = []
joined (piece ∷ pieces) = piece ++ joined pieces

-- the drive: bytes held, pieces still to come, whether the end is not known yet. Where a turn waits the next piece is read, or the end is seen
abbrev pub drive : ℕ → List ℕ → List (List ℕ) → Bool → ℕ → List ℕ
drive zero held pieces more images = []
drive (suc turns) held pieces more images =
    elim (turn held more images) [
      | waits ↦ elim pieces [ [] ↦ drive turns held [] false images | piece ∷ rest ↦ drive turns (held ++ piece) rest true images ]
      | goes_on text used ↦ text ++ drive turns (drop used held) pieces more (suc images)
      | stops text ↦ text
    ]
