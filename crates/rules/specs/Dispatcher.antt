-- The dispatcher: document 01, "The dispatcher". Beginning and going on, for any bytes, any state and any reported end, with the state after each.
-- Assumes nothing.
use Rattle.std.specs.Prelude.{◌≡◌, Bool, true, false, List, [], ◌∷◌, ◌++◌, ℕ, zero, suc, ◌+◌, ◌*◌, ◌-◌, ltb, leb, eqb, length, replicate, Ok, Err}
use Rattle.std.proofs.Math.Option.{Option, none, some}
use Rattle.fields.specs.Body.{head₀, tail₀}
use Rattle.rules.specs.declared.Task.{Task}
use Rattle.rules.specs.declared.TaskSet.{TaskSet}
use Rattle.rules.specs.declared.Entry.{Entry}
use Rattle.rules.specs.declared.Refusal.{Refusal}
use Rattle.rules.specs.declared.Located.{Located}
use Rattle.rules.specs.declared.Offsets.{Offsets as OffsetsOf}
use Rattle.rules.specs.declared.Dispatcher.{Dispatcher as State}
use Rattle.rules.specs.declared.Turn.{Turn}
use Rattle.rules.specs.Refusals.{Judged, gives, refuses, refusal}
use Rattle.rules.specs.Tasks.{Set, both, limits, largest_number, task, release, due, jobs, hyperperiod, memory_set, memory_fault}
use Rattle.rules.specs.Priority.{slot, start_job, all_started, setting}
use Rattle.rules.specs.Judging.{judge_tables}
use Rattle.rules.specs.Located.{located}
use Rattle.rules.specs.Operations.{Tabled, read_tables}
use Rattle.rules.specs.Offsets.{Standing, NextStart, next_is, stuck, next_start, moved, lent, first_offsets}

-- all numbers of a state, in their order
abbrev pub task_numbers : List Task → List ℕ
task_numbers [] = []
task_numbers (t ∷ ts) = t.offset ∷ t.time ∷ t.period ∷ t.deadline ∷ task_numbers ts

abbrev pub numbers : State → List ℕ
numbers s =
    s.set.n
    ∷ (task_numbers s.set.tasks
    ++ (s.next
    ++ (s.cycle
    ∷ s.running.task
    ∷ s.running.job
    ∷ s.running.start
    ∷ s.now.idle
    ∷ (s.now.inversions ++ (s.first.idle ∷ s.first.inversions)))))

-- a task is so many numbers, and a set is n and those of its sixteen slots
abbrev pub numbers_a_task : ℕ
numbers_a_task = 4

abbrev pub set_numbers : ℕ
set_numbers = 1 + numbers_a_task * limits.tasks

-- where each part begins as a state lies in memory, with sixteen slots in each of its lists; the set comes first

abbrev pub next_position : ℕ
next_position = set_numbers

abbrev pub cycle_position : ℕ
cycle_position = next_position + limits.tasks

abbrev pub task_position : ℕ
task_position = cycle_position + 1

abbrev pub job_position : ℕ
job_position = task_position + 1

abbrev pub start_position : ℕ
start_position = job_position + 1

abbrev pub idle_position : ℕ
idle_position = start_position + 1

abbrev pub inversions_position : ℕ
inversions_position = idle_position + 1

abbrev pub first_idle_position : ℕ
first_idle_position = inversions_position + limits.tasks

abbrev pub first_inversions_position : ℕ
first_inversions_position = first_idle_position + 1

-- so many numbers are all
abbrev pub number_count : ℕ
number_count = first_inversions_position + limits.tasks

pub record Shaped (s : State) : Type 0 where
  pub tasks : length s.set.tasks ≡ limits.tasks
  pub next : length s.next ≡ limits.tasks
  pub now : length s.now.inversions ≡ limits.tasks
  pub first : length s.first.inversions ≡ limits.tasks

-- the stopped state is all numbers 0
abbrev pub zeros : List ℕ
zeros = replicate limits.tasks 0

abbrev pub zero_task : Task
zero_task = record { offset = 0; time = 0; period = 0; deadline = 0 }

abbrev pub zero_set : TaskSet
zero_set = record { n = 0; tasks = replicate limits.tasks zero_task }

abbrev pub zero_offsets : OffsetsOf
zero_offsets = record { idle = 0; inversions = zeros }

abbrev pub stopped : State
stopped = record {
  set = zero_set;
  next = zeros;
  cycle = 0;
  running = record { task = 0; job = 0; start = 0 };
  now = zero_offsets;
  first = zero_offsets;
}

abbrev pub all_zero : List ℕ → Bool
all_zero [] = true
all_zero (k ∷ x) = both (eqb k 0) (all_zero x)

abbrev pub is_stopped : State → Bool
is_stopped s = all_zero (numbers s)

-- the set of a state
abbrev pub set_of : State → Set
set_of s = memory_set s.set

-- 25 for the state: its set breaks 5 to 9; a next job number is above H/T; or the running job isn't the last one started of a task below n, or starts
-- before release, or ends late
abbrev pub is_none : Option Refusal → Bool
is_none none = true
is_none (some r) = false

abbrev pub counts_possible : ℕ → List Task → List ℕ → Bool
counts_possible h [] x = true
counts_possible h (t ∷ ts) x = both (leb (head₀ x) (jobs h t)) (counts_possible h ts (tail₀ x))

abbrev pub running_possible : Set → State → Bool
running_possible ts s =
    both (ltb s.running.task s.set.n)
    (both (eqb (slot s.next s.running.task) (suc s.running.job))
    (both (leb (release (task ts s.running.task) s.running.job) s.running.start)
    (leb (s.running.start + (task ts s.running.task).time) (due (task ts s.running.task) s.running.job))))

abbrev pub possible : State → Bool
possible s =
    both (is_none (memory_fault s.set))
    (both (counts_possible (hyperperiod (set_of s)) (set_of s).tasks s.next) (running_possible (set_of s) s))

-- the running job's absolute start, and the latest end that may be reported
abbrev pub began : State → ℕ
began s = s.cycle * hyperperiod (set_of s) + s.running.start

abbrev pub latest_end : State → ℕ
latest_end s = began s + (task (set_of s) s.running.task).time

abbrev pub refused : Located → State → Turn
refused r s = record { answer = Err r; state = s }

-- the first n slots of one list, then the slots of another
abbrev pub front : ℕ → List ℕ → List ℕ → List ℕ
front zero a b = b
front (suc n) a b = head₀ a ∷ front n (tail₀ a) (tail₀ b)

-- what the next start answers in cycle c, and the state after it
abbrev pub started : List ℕ → State → ℕ → Standing (List ℕ) → NextStart → Turn
started bytes s c a (next_is i t o) = record {
  answer = Ok (record { task = i; job = slot a.next i; cycle = c; time = c * hyperperiod (set_of s) + t });
  state = record {
    set = s.set;
    next = start_job a.next i;
    cycle = c;
    running = record { task = i; job = slot a.next i; start = t };
    now = record { idle = o; inversions = moved (setting (set_of s)) (lent bytes (set_of s)) a.next a.offsets i };
    first = s.first;
  };
}
started bytes s c a (stuck number) = refused (located bytes (refusal 25 0)) stopped

-- the next start from there
abbrev pub start_next : List ℕ → State → ℕ → Standing (List ℕ) → Turn
start_next bytes s c a = started bytes s c a (next_start (setting (set_of s)) (lent bytes (set_of s)) a)

-- 24, when all jobs of this cycle have started
abbrev pub last_cycle : ℕ
last_cycle = largest_number

-- the next free instant is the running job's start + C
abbrev pub after_running : State → Standing (List ℕ)
after_running s = record {
  next = s.next;
  free = s.running.start + (task (set_of s) s.running.task).time;
  offsets = s.now.inversions;
  idle = s.now.idle;
}

-- the next cycle begins at 0, with next jobs 0 and the offsets as at its start
abbrev pub at_cycle_start : State → Standing (List ℕ)
at_cycle_start s = record {
  next = front s.set.n [] s.next;
  free = 0;
  offsets = front s.set.n s.first.inversions s.now.inversions;
  idle = s.first.idle;
}

-- the next job of this cycle or, when all have started, the first of the next
abbrev pub next_turn : List ℕ → State → Turn
next_turn bytes s =
    elim (all_started (hyperperiod (set_of s)) (set_of s).tasks s.next) [
      | true ↦ elim (ltb s.cycle last_cycle) [
        | true ↦ start_next bytes s (suc s.cycle) (at_cycle_start s)
        | false ↦ refused (located bytes (refusal 24 0)) s
      ]
      | false ↦ start_next bytes s s.cycle (after_running s)
    ]

-- going on, in the order 23, 25 for the state, 21, 22, 24, 25 for bytes
unfoldable pub go_on : List ℕ → State → ℕ → Turn
go_on bytes s end =
    elim (is_stopped s) [
      | true ↦ refused (located bytes (refusal 23 0)) s
      | false ↦ elim (possible s) [
        | false ↦ refused (located bytes (refusal 25 0)) stopped
        | true ↦ elim (ltb end (began s)) [
          | true ↦ refused (located bytes (refusal 21 0)) s
          | false ↦ elim (ltb (latest_end s) end) [
            | true ↦ refused (located bytes (refusal 22 0)) stopped
            | false ↦ next_turn bytes s
          ]
        ]
      ]
    ]

-- a set as it lies in memory, slots from n up are 0
abbrev pub in_memory : Set → TaskSet
in_memory ts = record { n = length ts.tasks; tasks = ts.tasks ++ replicate (limits.tasks - length ts.tasks) zero_task }

-- the state from which the first start is made: nothing has started
abbrev pub fresh : Tabled → State
fresh i = record {
  set = in_memory i.set;
  next = zeros;
  cycle = 0;
  running = record { task = 0; job = 0; start = 0 };
  now = first_offsets i.set i.tables;
  first = first_offsets i.set i.tables;
}

-- the first start is looked for from instant 0
abbrev pub at_begin : State → Standing (List ℕ)
at_begin s = record { next = s.next; free = 0; offsets = s.now.inversions; idle = s.now.idle }

-- beginning runs full acceptance and answers the first start; a refused beginning hands back the stopped state
abbrev pub begin_accepted : List ℕ → Tabled → Judged (List Entry) → Turn
begin_accepted bytes i (gives τ) = start_next bytes (fresh i) 0 (at_begin (fresh i))
begin_accepted bytes i (refuses r) = refused (located bytes r) stopped

abbrev pub begin_framed : List ℕ → Judged Tabled → Turn
begin_framed bytes (gives i) = begin_accepted bytes i (judge_tables i.set i.tables)
begin_framed bytes (refuses r) = refused (located bytes r) stopped

unfoldable pub begin : List ℕ → Turn
begin bytes = begin_framed bytes (read_tables bytes)
