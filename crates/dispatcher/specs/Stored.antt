-- A turn as it is stored in a state's numbers, and the states on the way to it. Assumes nothing.
use Rattle.std.specs.Prelude.{◌≡◌, List, [], ℕ, suc, Result}
use Rattle.rules.specs.declared.TaskSet.{TaskSet}
use Rattle.rules.specs.declared.Offsets.{Offsets as OffsetsOf}
use Rattle.rules.specs.declared.Dispatcher.{Dispatcher as State}
use Rattle.rules.specs.declared.Turn.{Turn}
use Rattle.rules.specs.declared.Located.{Located}
use Rattle.rules.specs.declared.Start.{Start}
use Rattle.rules.specs.Priority.{slot, start_job}
use Rattle.rules.specs.Offsets.{put_slot, standing}
use Rattle.rules.specs.Dispatcher.{numbers, front, zeros, start_next}
use Rattle.numbers.specs.Numbers.{state_from}
use Rattle.decision.specs.declared.Found.{Found}

-- the state from which the first start of a set is made
abbrev pub fresh_state : TaskSet → OffsetsOf → State
fresh_state s first = record {
  set = s;
  next = zeros;
  cycle = 0;
  running = record { task = 0; job = 0; start = 0 };
  now = first;
  first = first;
}

-- the state as the next cycle begins, of the first so many tasks: their next jobs are 0 and their offsets the first ones
abbrev pub in_next_cycle : State → ℕ → State
in_next_cycle d many = record {
  set = d.set;
  next = front many [] d.next;
  cycle = suc d.cycle;
  running = d.running;
  now = record { idle = d.first.idle; inversions = front many d.first.inversions d.now.inversions };
  first = d.first;
}

-- the state with the start of a task's next job
abbrev pub with_start : State → Found → State
with_start d f = record {
  set = d.set;
  next = start_job d.next f.task;
  cycle = d.cycle;
  running = record { task = f.task; job = slot d.next f.task; start = f.start };
  now = record { idle = f.idle; inversions = put_slot d.now.inversions f.task f.inversion };
  first = d.first;
}

-- the next start in a state's cycle, from a free instant
abbrev pub start_from : List ℕ → State → ℕ → Turn
start_from bytes d free = start_next bytes d d.cycle (standing d.next free d.now.inversions d.now.idle)

-- a turn as it is stored: its answer is told, the numbers are those of its state, and its state is what they are
pub record TurnStored (turn : Turn) (answer : Result Start Located) (lent : List ℕ) : Type 0 where
  pub its_answer : answer ≡ turn.answer
  pub its_numbers : lent ≡ numbers turn.state
  pub its_state : state_from lent ≡ turn.state
