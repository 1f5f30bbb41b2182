-- What numbers in memory stand for, in the rule book's terms. Assumes nothing.
use Rattle.std.specs.Prelude.{List, ℕ, ◌+◌, ◌*◌, get_or, take, map}
use Rattle.std.specs.List.{range_with_len}
use Rattle.rules.specs.declared.Task.{Task}
use Rattle.rules.specs.declared.TaskSet.{TaskSet}
use Rattle.rules.specs.declared.Offsets.{Offsets}
use Rattle.rules.specs.declared.Dispatcher.{Dispatcher as State}
use Rattle.rules.specs.Tasks.{limits}
use Rattle.rules.specs.Dispatcher.{numbers_a_task, next_position, cycle_position, task_position, job_position, start_position, idle_position, first_idle_position}

-- sixteen slots, each with its value
unfoldable pub slots : {A : Type 0} → (ℕ → A) → List A
slots value = map value (range_with_len 0 limits.tasks)

-- the number at a place
abbrev pub number_at : List ℕ → ℕ → ℕ
number_at lent at = get_or lent at 0

-- the task in the four numbers from a place on: O, C, T, D
abbrev pub task_from : List ℕ → ℕ → Task
task_from lent at =
    record { offset = number_at lent at; time = number_at lent (at + 1); period = number_at lent (at + 2); deadline = number_at lent (at + 3) }

-- a set of n tasks in the first of its slots, which the numbers from a place on fill
abbrev pub set_from : ℕ → List ℕ → ℕ → TaskSet
set_from n lent at = record { n = n; tasks = slots (λ (i : ℕ). task_from lent (at + numbers_a_task * i)) }

-- the tasks of a set of n tasks, which the numbers from a place on fill
abbrev pub tasks_from : ℕ → List ℕ → ℕ → List Task
tasks_from n lent at = take n (set_from n lent at).tasks

-- the sixteen numbers from a place on
abbrev pub numbers_from : List ℕ → ℕ → List ℕ
numbers_from lent at = slots (λ (i : ℕ). number_at lent (at + i))

-- the offsets that the numbers from a place on are: the idle's, then the inversions'
abbrev pub offsets_from : List ℕ → ℕ → Offsets
offsets_from lent at = record { idle = number_at lent at; inversions = numbers_from lent (at + 1) }

-- the dispatcher's state that its numbers are
abbrev pub state_from : List ℕ → State
state_from lent = record {
  set = set_from (number_at lent 0) lent 1;
  next = numbers_from lent next_position;
  cycle = number_at lent cycle_position;
  running = record { task = number_at lent task_position; job = number_at lent job_position; start = number_at lent start_position };
  now = offsets_from lent idle_position;
  first = offsets_from lent first_idle_position;
}
