-- The irregularities of a timetable, counted: its forced idles, its inversions, and those of each task. Assumes nothing.
use Rattle.std.specs.Prelude.{◌≡◌, ℕ, List, [], ◌∷◌, length, replicate, ◌==◌, slice_index}
use Rattle.rules.specs.declared.Entry.{Entry}
use Rattle.rules.specs.declared.Inversion.{Inversion}
use Rattle.rules.specs.Tasks.{Set, limits}
use Rattle.rules.specs.Timetable.{pick}
use Rattle.rules.specs.Setting.{Setting}
use Rattle.rules.specs.Priority.{setting}
use Rattle.rules.specs.Irregularities.{runs, inversion_of}
use Rattle.rules.specs.Judging.{tables}
use Rattle.timetables.specs.declared.Counts.{Counts}

module _ (G : Setting) (i : ℕ) where
  -- the inversions of task i, in the order of entries
  abbrev pub task_inversions : G.Started → List Entry → List Inversion
  task_inversions x [] = []
  task_inversions x (e ∷ τ) =
      pick (e.task == i)
      (pick (runs (G.baseline x e.start) e.task) (task_inversions (G.start_job x e.task) τ)
      (inversion_of G x e ∷ task_inversions (G.start_job x e.task) τ))
      (task_inversions (G.start_job x e.task) τ)

-- the records of a set's timetable, counted
pub record Counted (ts : Set) (τ : List Entry) (c : Counts) : Type 0 where
  pub idles : c.idles ≡ length (tables ts τ).idles
  pub inversions : c.inversions ≡ length (tables ts τ).inversions
  pub each : (i : ℕ) → slice_index c.each i ≡ length (task_inversions (setting ts) i [] τ)
  pub slots : length c.each ≡ limits.tasks

-- nothing counted
abbrev pub no_counts : Counts
no_counts = record { idles = 0; inversions = 0; each = replicate 16 0 }
