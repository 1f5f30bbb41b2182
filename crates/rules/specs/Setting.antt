-- The setting that timetables, tables and replay go by. The theory is stated over it: over a baseline that starts a waiting job or waits for a
-- later instant, over the first instant free after a start, and over the number of the rule that a start breaks. Assumes nothing.
use Rattle.std.specs.Prelude.{Bool, true, false, List, ℕ, zero, suc, max}
use Rattle.std.proofs.Math.Option.{Option, none, some}
use Rattle.rules.specs.declared.Idle.{Idle}
use Rattle.rules.specs.declared.Inversion.{Inversion}

-- what a baseline does at an instant: run a task's next job, or wait until an instant
pub data Act : Type 0 where
  run : ℕ → Act
  wait : ℕ → Act

-- the tables of a timetable: its forced idles and its inversions
pub record Tables : Type 0 where
  pub idles : List Idle
  pub inversions : List Inversion

pub record Setting : Type 1 where
  -- which jobs have started
  pub Started : Type 0
  -- how many tasks there are
  pub tasks : ℕ
  -- the number of a task's next job, and the release of a task's job
  pub next_job : Started → ℕ → ℕ
  pub release : ℕ → ℕ → ℕ
  pub all_started : Started → Bool
  -- after the next job of a task has started
  pub start_job : Started → ℕ → Started
  -- the least release among jobs not yet started
  pub least_release : Started → ℕ
  -- the first instant free after a task's job that starts at an instant
  pub free_after : ℕ → ℕ → ℕ
  -- the number of the first rule that a start breaks, 0 for none: what has started, the instant from which the processor is free, task, start.
  -- The first number is the one that judges a timetable's entry, the second the one that replay reports
  pub breaks : Started → ℕ → ℕ → ℕ → ℕ
  pub breaks_in_replay : Started → ℕ → ℕ → ℕ → ℕ
  pub baseline : Started → ℕ → Act
  -- the end of the cycle, and an instant past which no job that keeps the rules leaves the processor taken
  pub cycle_end : ℕ
  pub latest : ℕ

-- the lowest of so many numbers from i on that passes a test
abbrev pub lowest_from : ℕ → ℕ → (ℕ → Bool) → Option ℕ
lowest_from zero i passes = none
lowest_from (suc many) i passes = elim (passes i) [ true ↦ some i | false ↦ lowest_from many (suc i) passes ]

abbrev pub lowest : ℕ → (ℕ → Bool) → Option ℕ
lowest many passes = lowest_from many 0 passes

-- the instant of a decision: the larger of the instant from which the processor is free and the least release among jobs not yet started
abbrev pub instant : (G : Setting) → G.Started → ℕ → ℕ
instant G x f = max f (G.least_release x)
