-- What is known of a state's numbers on the way to its next start. Assumes nothing.
use Rattle.std.specs.Prelude.{◌≡◌, Bool, true, false, List, ℕ, ◌+◌, ◌≤◌, length}
use Rattle.rules.specs.declared.Dispatcher.{Dispatcher as State}
use Rattle.rules.specs.Tasks.{limits, task}
use Rattle.rules.specs.Dispatcher.{number_count, is_stopped, set_of, counts_possible}
use Rattle.rules.specs.GoingOn.{PossibleState}
use Rattle.numbers.specs.Numbers.{state_from}
use Rattle.decision.specs.declared.Standing.{Standing}
use Rattle.sets.specs.declared.Kept.{Kept}
use Rattle.sets.specs.Kept.{tasks_in, hyperperiod_in, Keeps}
use Rattle.decision.specs.declared.Front.{Front}
use Rattle.decision.specs.Fits.{Fits, Stands}

-- a state that is not stopped and whose set is good, with what is kept of it
pub record WithGoodSet (lent : List ℕ) (kept : Kept) : Type 0 where
  pub long : length lent ≡ number_count
  pub not_stopped : is_stopped (state_from lent) ≡ false
  pub some_tasks : 1 ≤ (state_from lent).set.n
  pub n_tasks : tasks_in kept ≡ (state_from lent).set.n
  pub keeps : Keeps (set_of (state_from lent)) kept

-- numbers of a state whose tasks are a good set, what is kept of it, and sixteen slots for releases
pub record CanMeasure (lent : List ℕ) (kept : Kept) (releases : List ℕ) : Type 0 where
  pub n_tasks : tasks_in kept ≡ (state_from lent).set.n
  pub keeps : Keeps (set_of (state_from lent)) kept
  pub release_slots : length releases ≡ limits.tasks

-- where replay stands at a state, with the releases of its next jobs, and how far it has come with a free instant
abbrev pub stands_at : State → List ℕ → Standing
stands_at d releases = record { next = d.next; release = releases; offsets = d.now.inversions }

abbrev pub front_at : State → ℕ → Front
front_at d free = record { free = free; idle = d.now.idle }

-- whether the next job numbers are possible
abbrev pub counts : List ℕ → Kept → Bool
counts lent kept = counts_possible (hyperperiod_in kept) (set_of (state_from lent)).tasks (state_from lent).next

-- and that the rows fit them if they are
pub record Measured (lent : List ℕ) (kept : Kept) (test : Bool) (releases : List ℕ) : Type 0 where
  pub told : test ≡ counts lent kept
  pub fits : test ≡ true → Fits (set_of (state_from lent)) kept (stands_at (state_from lent) releases)

-- what is kept of a state's set and of its next jobs, and the instant from which the processor is free
pub record CanStart (lent : List ℕ) (kept : Kept) (releases : List ℕ) (free : ℕ) : Type 0 where
  pub long : length lent ≡ number_count
  pub n_tasks : tasks_in kept ≡ (state_from lent).set.n
  pub stands : Stands (set_of (state_from lent)) kept (stands_at (state_from lent) releases) (front_at (state_from lent) free)

-- a possible state, whose running job leaves the processor free at that instant
pub record CanGoOn (lent : List ℕ) (kept : Kept) (releases : List ℕ) (free : ℕ) : Type 0 where
  pub possible : PossibleState (state_from lent)
  pub starts : CanStart lent kept releases free
  pub free_from : free ≡ (state_from lent).running.start + (task (set_of (state_from lent)) (state_from lent).running.task).time
