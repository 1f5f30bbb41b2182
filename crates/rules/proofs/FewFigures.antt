-- The figures of an image are few: three counts, a lateness for each task, and the capacities of a good set. Assumes nothing.
use mathlib.Core.Path.{◌≡◌, ap}
use mathlib.Core.List.{List}
use Prim.Native.Nat.{ℕ, ◌≤◌}
use native.Mathlib.Omega.{arith}
use lib.IntN.{ℤ}
use lib.ListN.{length, length-append}
use Rattle.fields.specs.Number.{Bytes}
use Rattle.rules.specs.declared.Entry.{Entry}
use Rattle.rules.specs.Refusals.{gives}
use Rattle.rules.specs.Tasks.{Set, GoodSet, hyperperiod}
use Rattle.rules.specs.Several.{list_below}
use Rattle.rules.specs.Lateness.{worst_lateness}
use Rattle.rules.specs.Intervals.{spare}
use Rattle.rules.specs.Axis.{figures_of, most_figures, measured}
use Rattle.rules.proofs.GoodSets.{set_good}
use Rattle.rules.proofs.Several.{list_length}
use Rattle.rules.proofs.FewIntervals.{spare_few}
use Rattle.rules.proofs.AxisFigures.{axis_figures, one_axis, measured_images}

module _ {ts : Set} {h : ℕ} (good : GoodSet ts h) where
  -- those of a good set's timetable
  timetable_few : (τ : List Entry) → length (figures_of ts τ) ≤ most_figures
  unfolding figures_of
  timetable_few τ =
      omega (
        arith,
        length-append (list_below (length ts.tasks) (worst_lateness ts τ)) (spare ts (hyperperiod ts)),
        list_length (length ts.tasks) (worst_lateness ts τ),
        ap (λ (k : ℕ). length (spare ts k)) (set_good ts h good).1,
        spare_few good,
        good.few_tasks,
      )

-- so every image has at most 8,212
pub figures_few : (bytes : List ℕ) → Bytes bytes → (figures : List ℤ) → measured bytes ≡ gives figures → length figures ≤ most_figures
figures_few bytes b figures e =
    let f = (measured_images bytes b figures).0 e in
    let image = f.image in
    omega (arith, ap length (one_axis f.are_figures (axis_figures image.good image.valid)), timetable_few image.good f.entries)
