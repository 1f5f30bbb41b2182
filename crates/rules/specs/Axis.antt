-- The figures of an axis: document 02, R-4. Of the table image at the front of bytes; what stands behind its EN is left alone. Assumes nothing.
use Rattle.std.specs.Prelude.{◌≡◌, List, [], ◌∷◌, ◌++◌, ℕ, ◌*◌, ◌+◌, length, take, ℤ, pos, Result}
use Rattle.rules.specs.declared.Layout.{Layout}
use Rattle.rules.specs.declared.Entry.{Entry}
use Rattle.rules.specs.declared.Located.{Located}
use Rattle.rules.specs.declared.Axis.{Axis}
use Rattle.rules.specs.Refusals.{Judged, gives, refuses, then}
use Rattle.rules.specs.Tasks.{Set, limits, hyperperiod}
use Rattle.rules.specs.Priority.{setting}
use Rattle.rules.specs.Framing.{start_place, frame_records}
use Rattle.rules.specs.Operations.{Timed, rebuilt, answer_by, into, output_after}
use Rattle.rules.specs.Several.{list_below}
use Rattle.rules.specs.Ticks.{is_busy, is_forced, is_other, ticks_that}
use Rattle.rules.specs.Lateness.{worst_lateness}
use Rattle.rules.specs.Intervals.{spare}

-- the figures of a set's timetable, in document 02's order: busy ticks, forced idle, other idle, the lateness of each task, the capacity of each interval
unfoldable pub figures_of : Set → List Entry → List ℤ
figures_of ts τ =
    pos (ticks_that (setting ts) is_busy [] τ)
    ∷ (pos (ticks_that (setting ts) is_forced [] τ)
    ∷ (pos (ticks_that (setting ts) is_other [] τ)
    ∷ (list_below (length ts.tasks) (worst_lateness ts τ) ++ spare ts (hyperperiod ts))))

-- the most figures that there are: an interval and a stretch before it for each job, and a stretch behind the last; 8,212
abbrev pub most_figures : ℕ
most_figures = 3 + limits.tasks + (2 * limits.jobs + 1)

-- the image at the front of bytes: those up to its EN, all of them where framing does not come to one
abbrev pub front_by : Judged Layout → List ℕ → List ℕ
front_by (gives l) bytes = take l.ended bytes
front_by (refuses r) bytes = bytes

unfoldable pub front : List ℕ → List ℕ
front bytes = front_by (frame_records 2 start_place bytes) bytes

-- its figures: it is judged as every table image is
abbrev pub figures_in : Timed → List ℤ
figures_in i = figures_of i.set i.entries

abbrev pub measured : List ℕ → Judged (List ℤ)
measured bytes = then (rebuilt (front bytes)) (λ (i : Timed). gives (figures_in i))

-- into an output with room for so many
abbrev pub measured_into : ℕ → List ℕ → Judged (List ℤ)
measured_into room bytes = then (measured bytes) (into room)

-- the answer is how many figures there are, and how many bytes the image has; the figures fill the front of the output. A refusal is located in the image,
-- and leaves the output as it was
abbrev pub axis_answer : List ℕ → Judged (List ℤ) → Result Axis Located
axis_answer image = answer_by (λ figures. record { figures = length figures; used = length image }) image

pub record Measures (bytes : List ℕ) (old : List ℤ) (answered : Result Axis Located) (left : List ℤ) : Type 0 where
  pub answer : answered ≡ axis_answer (front bytes) (measured_into (length old) bytes)
  pub output : left ≡ output_after (measured_into (length old) bytes) old
