-- Intervals and capacities by what they are: document 02's words and source document 001's rule as relations, with no word of how they are found.
-- Assumes nothing.
use Rattle.std.specs.Prelude.{◌≡◌, List, [], ◌∷◌, ℕ, suc, pred, ◌-◌, max, ◌≤◌, ◌<◌, length, get_or, ℤ, pos, ◌+ℤ◌, ◌-ℤ◌}
use Rattle.rules.specs.Tasks.{Set, task, release, due, jobs}
use Rattle.rules.specs.Intervals.{Interval, work_due, borrowed}

-- job k of task i is due at e
pub record DueAt (ts : Set) (h e i k : ℕ) : Type 0 where
  pub a_task : i < length ts.tasks
  pub a_job : k < jobs h (task ts i)
  pub is_due : due (task ts i) k ≡ e

-- some job is due at e
pub record IsDeadline (ts : Set) (h e : ℕ) : Type 0 where
  pub i : ℕ
  pub k : ℕ
  pub due_there : DueAt ts h e i k

-- the least release among the jobs due at e
pub record FirstRelease (ts : Set) (h e r : ℕ) : Type 0 where
  pub i : ℕ
  pub k : ℕ
  pub due_there : DueAt ts h e i k
  pub is_release : r ≡ release (task ts i) k
  pub least : (i' k' : ℕ) → DueAt ts h e i' k' → r ≤ release (task ts i') k'

-- the last deadline at or before a tick, 0 where there is none
pub record LastDeadline (ts : Set) (h tick d : ℕ) : Type 0 where
  pub inside : d ≤ tick
  pub is_one : 0 < d → IsDeadline ts h d
  pub last : (e : ℕ) → IsDeadline ts h e → e ≤ tick → e ≤ d

-- intervals that fill the time from one instant to another, each where the one before it ends: no gap and no overlap
abbrev pub Fill : ℕ → List Interval → ℕ → Type 0
Fill from [] to = from ≡ to
Fill from (x ∷ xs) to = (x.begin ≡ from) × (x.begin < x.end) × Fill x.end xs to

-- an interval with jobs: it ends at a deadline, begins at the later of its jobs' least release and the end of the interval with jobs before it, and holds
-- the jobs with that deadline
pub record WithJobs (ts : Set) (h : ℕ) (x : Interval) : Type 0 where
  pub ends : IsDeadline ts h x.end
  pub release : ℕ
  pub is_release : FirstRelease ts h x.end release
  pub previous : ℕ
  pub is_previous : LastDeadline ts h (pred x.end) previous
  pub begins : x.begin ≡ max previous release
  pub holds : x.work ≡ work_due ts h x.end

-- a stretch without jobs: no deadline lies in it or ends it
pub record WithoutJobs (ts : Set) (h : ℕ) (x : Interval) : Type 0 where
  pub no_work : x.work ≡ 0
  pub no_deadline : (e : ℕ) → IsDeadline ts h e → x.begin < e → e ≤ x.end → ⊥

pub data IsInterval (ts : Set) (h : ℕ) (x : Interval) : Type 0 where
  with_jobs : WithJobs ts h x → IsInterval ts h x
  without_jobs : WithoutJobs ts h x → IsInterval ts h x

-- interval j of a list
abbrev pub interval_at : List Interval → ℕ → Interval
interval_at xs j = get_or xs j (record { begin = 0; end = 0; work = 0 })

-- the intervals of a cycle: they fill it, each is one of the two, every deadline ends one, and two stretches without jobs never follow one another
pub record AreIntervals (ts : Set) (h : ℕ) (xs : List Interval) : Type 0 where
  pub fill : Fill 0 xs h
  pub each : (j : ℕ) → j < length xs → IsInterval ts h (interval_at xs j)
  pub every_deadline : (e : ℕ) → IsDeadline ts h e → (j : ℕ) × (j < length xs) × ((interval_at xs j).end ≡ e)
  pub stretches_apart : (j : ℕ) → suc j < length xs → WithoutJobs ts h (interval_at xs j) → WithoutJobs ts h (interval_at xs (suc j)) → ⊥

-- capacity j of a list
abbrev pub capacity_at : List ℤ → ℕ → ℤ
capacity_at cs j = get_or cs j (pos 0)

-- source 001's rule: a capacity is length minus declared times, plus the next one's where that is negative; the last has no next
pub record MeetsRule (xs : List Interval) (cs : List ℤ) : Type 0 where
  pub as_many : length cs ≡ length xs
  pub before_another : (j : ℕ) → suc j < length xs →
      capacity_at cs j ≡ (pos ((interval_at xs j).end - (interval_at xs j).begin) -ℤ pos (interval_at xs j).work) +ℤ borrowed (capacity_at cs (suc j))
  pub last : (j : ℕ) → suc j ≡ length xs →
      capacity_at cs j ≡ pos ((interval_at xs j).end - (interval_at xs j).begin) -ℤ pos (interval_at xs j).work
