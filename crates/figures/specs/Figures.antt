-- The figures of an accepted image, and what measuring a whole image leaves. Assumes nothing.
use Rattle.std.specs.Prelude.{◌≡◌, List, ◌++◌, ℕ, ◌+◌, ◌≤◌, length, drop, ℤ, Result}
use Rattle.rules.specs.declared.Entry.{Entry}
use Rattle.rules.specs.declared.Offsets.{Offsets}
use Rattle.rules.specs.declared.Located.{Located}
use Rattle.rules.specs.declared.Axis.{Axis}
use Rattle.rules.specs.Refusals.{Judged, gives, then}
use Rattle.rules.specs.Tasks.{Set}
use Rattle.rules.specs.Operations.{Timed, rebuilt, into, output_after}
use Rattle.rules.specs.Intervals.{spare}
use Rattle.rules.specs.Axis.{figures_of, figures_in, axis_answer}
use Rattle.sets.specs.declared.Kept.{Kept}
use Rattle.sets.specs.Kept.{tasks_in, hyperperiod_in, Keeps}
use Rattle.rebuilding.specs.Rebuilt.{TimetableBehind}

-- the figures of a set's timetable at the front of an output
abbrev pub figures_put : Set → List Entry → List ℤ → List ℤ
figures_put ts τ old = figures_of ts τ ++ drop (length (figures_of ts τ)) old

-- an accepted image, what is kept of its set, how many capacities there are, and room for all figures
pub record CanPutFigures (ts : Set) (bytes : List ℕ) (kept : Kept) (first : Offsets) (many : ℕ) (out : List ℤ) : Type 0 where
  pub entries : List Entry
  pub behind : TimetableBehind bytes ts first entries
  pub keeps : Keeps ts kept
  pub are : many ≡ length (spare ts (hyperperiod_in kept))
  pub room : tasks_in kept + 3 + many ≤ length out

-- the figures of a whole image, into an output with room for so many
abbrev pub image_measured : ℕ → List ℕ → Judged (List ℤ)
image_measured room bytes = then (then (rebuilt bytes) (λ (i : Timed). gives (figures_in i))) (into room)

pub record MeasuresImage (bytes : List ℕ) (old : List ℤ) (answered : Result Axis Located) (left : List ℤ) : Type 0 where
  pub answer : answered ≡ axis_answer bytes (image_measured (length old) bytes)
  pub output : left ≡ output_after (image_measured (length old) bytes) old
