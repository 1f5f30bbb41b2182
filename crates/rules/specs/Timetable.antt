-- A valid timetable: document 01, "A valid timetable". By positions in the list, with no word of how it is judged. Assumes nothing.
use Rattle.std.specs.Prelude.{◌≡◌, Bool, true, false, List, [], ◌∷◌, ℕ, suc, ◌+◌, ◌≤◌, ◌<◌, eqb, length, take, get_or}
use Rattle.rules.specs.declared.Entry.{Entry}
use Rattle.rules.specs.Tasks.{Set, task, release, due, jobs}

-- entry j of a timetable
abbrev pub entry_at : List Entry → ℕ → Entry
entry_at τ j = get_or τ j (record { task = 0; start = 0 })

-- the one of two that a test picks
abbrev pub pick : {A : Type 0} → Bool → A → A → A
pick true a b = a
pick false a b = b

-- how often a task appears
abbrev pub count : ℕ → List Entry → ℕ
count i [] = 0
count i (e ∷ τ) = pick (eqb e.task i) (suc (count i τ)) (count i τ)

-- the k-th appearance of a task, from 0, is its job k
abbrev pub job_at : List Entry → ℕ → ℕ
job_at τ j = count (entry_at τ j).task (take j τ)

-- the end of an entry: its start + C
abbrev pub end_at : Set → List Entry → ℕ → ℕ
end_at ts τ j = (entry_at τ j).start + (task ts (entry_at τ j).task).time

-- a valid timetable of a set with hyperperiod h
pub record ValidTimetable (ts : Set) (h : ℕ) (τ : List Entry) : Type 0 where
  pub tasks_below_n : (j : ℕ) → j < length τ → (entry_at τ j).task < length ts.tasks
  pub not_too_many : (j : ℕ) → j < length τ → job_at τ j < jobs h (task ts (entry_at τ j).task)
  pub released : (j : ℕ) → j < length τ → release (task ts (entry_at τ j).task) (job_at τ j) ≤ (entry_at τ j).start
  pub no_overlap : (j : ℕ) → suc j < length τ → end_at ts τ j ≤ (entry_at τ (suc j)).start
  pub in_time : (j : ℕ) → j < length τ → end_at ts τ j ≤ due (task ts (entry_at τ j).task) (job_at τ j)
  pub every_job : (i : ℕ) → i < length ts.tasks → (k : ℕ) → k < jobs h (task ts i) → (j : ℕ) × (j < length τ) × ((entry_at τ j).task ≡ i) × (job_at τ j ≡ k)
