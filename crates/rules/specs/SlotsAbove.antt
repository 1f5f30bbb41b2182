-- Slots from n up: document 01, "The dispatcher". What it is for two states to agree in them, and in all other numbers. Assumes nothing.
use Rattle.std.specs.Prelude.{◌≡◌, ℕ, ◌≤◌, ◌<◌, get_or}
use Rattle.rules.specs.declared.Task.{Task}
use Rattle.rules.specs.declared.Dispatcher.{Dispatcher as State}
use Rattle.rules.specs.Priority.{slot}
use Rattle.rules.specs.Dispatcher.{zero_task, set_of}

-- the task in slot j
abbrev pub task_slot : State → ℕ → Task
task_slot s j = get_or s.set.tasks j zero_task

-- two states hold the same in the slots from n up: tasks, next jobs, and tasks' offsets, now and as at a cycle's start
pub record SameAbove (n : ℕ) (s s' : State) : Type 0 where
  pub tasks : (j : ℕ) → n ≤ j → task_slot s j ≡ task_slot s' j
  pub next : (j : ℕ) → n ≤ j → slot s.next j ≡ slot s'.next j
  pub now : (j : ℕ) → n ≤ j → slot s.now.inversions j ≡ slot s'.now.inversions j
  pub first : (j : ℕ) → n ≤ j → slot s.first.inversions j ≡ slot s'.first.inversions j

-- two states have the same n, and hold the same in all numbers but those slots
pub record SameBelow (s s' : State) : Type 0 where
  pub n : s.set.n ≡ s'.set.n
  pub set : set_of s ≡ set_of s'
  pub next : (i : ℕ) → i < s.set.n → slot s.next i ≡ slot s'.next i
  pub cycle : s.cycle ≡ s'.cycle
  pub running : s.running ≡ s'.running
  pub idle_now : s.now.idle ≡ s'.now.idle
  pub now : (i : ℕ) → i < s.set.n → slot s.now.inversions i ≡ slot s'.now.inversions i
  pub idle_first : s.first.idle ≡ s'.first.idle
  pub first : (i : ℕ) → i < s.set.n → slot s.first.inversions i ≡ slot s'.first.inversions i
