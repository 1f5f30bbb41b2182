-- Where replay stands, beside what is kept of the set. Assumes nothing.
use Rattle.std.specs.Prelude.{◌≡◌, List, ℕ, ◌≤◌, ◌<◌}
use Rattle.rules.specs.Tasks.{Set, task, release, jobs}
use Rattle.rules.specs.Priority.{slot}
use Rattle.decision.specs.declared.Standing.{Standing}
use Rattle.sets.specs.declared.Kept.{Kept}
use Rattle.sets.specs.Kept.{tasks_in, hyperperiod_in, Keeps}
use Rattle.decision.specs.declared.Front.{Front}

-- in the slot of each task the number of its next job, that job's release, and the task's offset
abbrev pub next_in : Standing → List ℕ
next_in at = at.next

abbrev pub releases_in : Standing → List ℕ
releases_in at = at.release

abbrev pub offsets_in : Standing → List ℕ
offsets_in at = at.offsets

-- slots that fit what is kept of the set: next job numbers, and the release of each task's next job, which is the hyperperiod or later where no job is left
pub record Fits (ts : Set) (kept : Kept) (at : Standing) : Type 0 where
  pub set : Keeps ts kept
  pub counts : (i : ℕ) → i < tasks_in kept → slot (next_in at) i ≤ jobs (hyperperiod_in kept) (task ts i)
  pub releases_there : (i : ℕ) → i < tasks_in kept → slot (releases_in at) i ≡ release (task ts i) (slot (next_in at) i)

-- and the processor is free by the end of the cycle
pub record Stands (ts : Set) (kept : Kept) (at : Standing) (front : Front) : Type 0 where
  pub fits : Fits ts kept at
  pub by_end : front.free ≤ hyperperiod_in kept
