-- What is kept of a set, and when it is that of a good set. Assumes nothing.
use Rattle.std.specs.Prelude.{◌≡◌, List, ℕ, ◌-◌, ◌≤◌, ◌<◌, length, Result, Ok}
use Rattle.rules.specs.declared.Task.{Task}
use Rattle.rules.specs.declared.TaskSet.{TaskSet}
use Rattle.rules.specs.declared.Figures.{Figures}
use Rattle.rules.specs.declared.Refusal.{Refusal}
use Rattle.sets.specs.declared.Kept.{Kept}
use Rattle.rules.specs.Tasks.{Set, limits, task, jobs, all_jobs, GoodSet, memory_set, judge_set}
use Rattle.rules.specs.Priority.{slot}

-- what is kept tells how many tasks, the hyperperiod and the jobs of all tasks a cycle
abbrev pub tasks_in : Kept → ℕ
tasks_in kept = kept.tasks

abbrev pub hyperperiod_in : Kept → ℕ
hyperperiod_in kept = kept.hyperperiod

abbrev pub all_jobs_in : Kept → ℕ
all_jobs_in kept = kept.all_jobs

-- and in the slot of each task its jobs a cycle, D − C, C, T and the release of its first job
abbrev pub jobs_in : Kept → List ℕ
jobs_in kept = kept.jobs

abbrev pub slack_in : Kept → List ℕ
slack_in kept = kept.slack

abbrev pub times_in : Kept → List ℕ
times_in kept = kept.times

abbrev pub periods_in : Kept → List ℕ
periods_in kept = kept.periods

abbrev pub first_in : Kept → List ℕ
first_in kept = kept.first

-- what is kept of a good set
pub record Keeps (ts : Set) (kept : Kept) : Type 0 where
  pub good : GoodSet ts (hyperperiod_in kept)
  pub n_tasks : tasks_in kept ≡ length ts.tasks
  pub few : tasks_in kept ≤ limits.tasks
  pub all_there : all_jobs_in kept ≡ all_jobs (hyperperiod_in kept) ts
  pub jobs_there : (i : ℕ) → i < tasks_in kept → slot (jobs_in kept) i ≡ jobs (hyperperiod_in kept) (task ts i)
  pub slack_there : (i : ℕ) → i < tasks_in kept → slot (slack_in kept) i ≡ (task ts i).deadline - (task ts i).time
  pub times_there : (i : ℕ) → i < tasks_in kept → slot (times_in kept) i ≡ (task ts i).time
  pub periods_there : (i : ℕ) → i < tasks_in kept → slot (periods_in kept) i ≡ (task ts i).period
  pub first_there : (i : ℕ) → i < tasks_in kept → slot (first_in kept) i ≡ (task ts i).offset
  pub first_slots : length (first_in kept) ≡ limits.tasks

-- a set judged, and what is kept of it where it is good
pub record JudgedKept (s : TaskSet) (r : Result Figures Refusal) (kept : Kept) : Type 0 where
  pub answer : r ≡ judge_set s
  pub keeps : (f : Figures) → r ≡ Ok f → Keeps (memory_set s) kept

-- D − C of a task
abbrev pub slack_of : Task → ℕ
slack_of t = t.deadline - t.time

-- slots from one place to below another hold a value, the others what they held before
pub record Filled (before : List ℕ) (value : ℕ → ℕ) (from to : ℕ) (now : List ℕ) : Type 0 where
  pub slots : length now ≡ length before
  pub inside : (i : ℕ) → from ≤ i → i < to → slot now i ≡ value i
  pub below : (i : ℕ) → i < from → slot now i ≡ slot before i
  pub above : (i : ℕ) → to ≤ i → slot now i ≡ slot before i
