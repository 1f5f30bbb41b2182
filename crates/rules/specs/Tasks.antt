-- Task sets: document 01, "Task sets". A good set as the list of its rules, and the first fault of a set. Assumes nothing.
use Rattle.std.specs.Prelude.{Bool, true, false, List, [], ◌∷◌, ◌++◌, ℕ, zero, suc, ◌+◌, ◌*◌, ◌/◌, ◌%◌, min, max, ◌≤◌, ◌<◌, leb, length, get_or, take, Result, Ok, Err}
use Rattle.std.proofs.Math.Option.{Option, none}
use Rattle.std.specs.Int.{◌∣◌}
use Rattle.rules.specs.declared.Task.{Task}
use Rattle.rules.specs.declared.TaskSet.{TaskSet}
use Rattle.rules.specs.declared.Refusal.{Refusal}
use Rattle.rules.specs.declared.Figures.{Figures}
use Rattle.rules.specs.Refusals.{Judged, gives, refuses, or_else, first, unless, Test, test, in_turn}

-- the limits: tasks of a set, ticks of a cycle, jobs of a cycle
pub record Limits : Type 0 where
  pub tasks : ℕ
  pub ticks : ℕ
  pub jobs : ℕ

abbrev pub limits : Limits
limits = record { tasks = 16; ticks = 65535; jobs = 4096 }

-- the largest number of 32 bits
abbrev pub largest_number : ℕ
largest_number = 4294967295

-- a task that keeps every rule, for places past the end of a set
abbrev pub no_task : Task
no_task = record { offset = 0; time = 1; period = 1; deadline = 1 }

-- a set: its tasks, numbered from 0
pub record Set : Type 0 where
  pub tasks : List Task

-- the set of these tasks
abbrev pub set_with : List Task → Set
set_with ts = record { tasks = ts }

-- task i of a list, and of a set
abbrev pub task_in : List Task → ℕ → Task
task_in ts i = get_or ts i no_task

abbrev pub task : Set → ℕ → Task
task ts i = task_in ts.tasks i

-- job k of a task is released at O + kT, and due D later
abbrev pub release : Task → ℕ → ℕ
release t k = t.offset + k * t.period

abbrev pub due : Task → ℕ → ℕ
due t k = release t k + t.deadline

-- the ticks for which a job of task i takes the processor: its declared time
abbrev pub taken : Set → ℕ → ℕ
taken ts i = (task ts i).time

-- a task has H/T jobs a cycle
abbrev pub jobs : ℕ → Task → ℕ
jobs h t = h / t.period

-- the jobs of all tasks together
abbrev pub sum_of_jobs : ℕ → List Task → ℕ
sum_of_jobs h [] = 0
sum_of_jobs h (t ∷ ts) = jobs h t + sum_of_jobs h ts

abbrev pub all_jobs : ℕ → Set → ℕ
all_jobs h ts = sum_of_jobs h ts.tasks

-- a task's own rule: 1 ≤ C ≤ D and O + D ≤ T
pub record KeepsItsRule (t : Task) : Type 0 where
  pub takes_time : 1 ≤ t.time
  pub fits : t.time ≤ t.deadline
  pub within : t.offset + t.deadline ≤ t.period

-- the least common multiple of two numbers: both divide it, and it divides every other number that both divide
pub record IsLeastMultiple (a b m : ℕ) : Type 0 where
  pub left : a ∣ m
  pub right : b ∣ m
  pub least : (k : ℕ) → a ∣ k → b ∣ k → m ∣ k

-- the hyperperiod: every period divides it, and it divides every other number that every period divides
pub record IsHyperperiod (ts : Set) (h : ℕ) : Type 0 where
  pub common : (i : ℕ) → i < length ts.tasks → (task ts i).period ∣ h
  pub least : (m : ℕ) → ((i : ℕ) → i < length ts.tasks → (task ts i).period ∣ m) → h ∣ m

-- a good set, with its hyperperiod
pub record GoodSet (ts : Set) (h : ℕ) : Type 0 where
  pub some_tasks : 1 ≤ length ts.tasks
  pub few_tasks : length ts.tasks ≤ limits.tasks
  pub own_rules : (i : ℕ) → i < length ts.tasks → KeepsItsRule (task ts i)
  pub periods_rise : (i : ℕ) → suc i < length ts.tasks → (task ts i).period ≤ (task ts (suc i)).period
  pub is_hyperperiod : IsHyperperiod ts h
  pub short : h ≤ limits.ticks
  pub few_jobs : all_jobs h ts ≤ limits.jobs

-- the first multiple of b from m on that a divides, in so many turns
abbrev pub multiple_from : ℕ → ℕ → ℕ → ℕ → ℕ
multiple_from zero a b m = m
multiple_from (suc turns) a b m = elim (m % a) [ zero ↦ m | suc r ↦ multiple_from turns a b (m + b) ]

-- the least common multiple of two numbers, by trial: the first multiple of the larger that the smaller divides
abbrev pub least_multiple : ℕ → ℕ → ℕ
least_multiple a b = multiple_from (min a b) (min a b) (max a b) (max a b)

-- the hyperperiod of a set, by trial
abbrev pub common_multiple : List Task → ℕ
common_multiple [] = 1
common_multiple (t ∷ ts) = least_multiple t.period (common_multiple ts)

unfoldable pub hyperperiod : Set → ℕ
hyperperiod ts = common_multiple ts.tasks

-- do two tests both pass
abbrev pub both : Bool → Bool → Bool
both true b = b
both false b = false

-- the test of a task's own rule
abbrev pub keeps_its_rule : Task → Bool
keeps_its_rule t = both (leb 1 t.time) (both (leb t.time t.deadline) (leb (t.offset + t.deadline) t.period))

-- n is 1 to 16
abbrev pub few_enough : ℕ → Bool
few_enough n = both (leb 1 n) (leb n limits.tasks)

-- tasks in turn, each by 6 and then 7: the place of the first of them, and the period before it
abbrev pub tasks_fault : ℕ → ℕ → List Task → Option Refusal
tasks_fault place before [] = none
tasks_fault place before (t ∷ ts) =
    first (unless (keeps_its_rule t) 6 place) (first (unless (leb before t.period) 7 place) (tasks_fault (suc place) t.period ts))

-- the first fault of a set, with the places that its records would have
abbrev pub set_fault : Set → Option Refusal
set_fault ts =
    first (unless (few_enough (length ts.tasks)) 5 0)
    (first (tasks_fault 1 0 ts.tasks)
    (first (unless (leb (hyperperiod ts) limits.ticks) 8 0) (unless (leb (all_jobs (hyperperiod ts) ts) limits.jobs) 9 0)))

-- what a set's cycle comes to
abbrev pub figures : Set → Figures
figures ts = record { hyperperiod = hyperperiod ts; jobs = all_jobs (hyperperiod ts) ts }

-- a task's period is below the one before
abbrev pub period_falls : Set → ℕ → Type 0
period_falls ts zero = ⊥
period_falls ts (suc i) = (task ts (suc i)).period < (task ts i).period

-- the tests of task i, and of a set, in the document's order, each condition by itself
abbrev pub task_tests : Set → ℕ → List Test
task_tests ts i = test 6 (suc i) (KeepsItsRule (task ts i) → ⊥) ∷ test 7 (suc i) (period_falls ts i) ∷ []

abbrev pub set_tests : Set → List Test
set_tests ts =
    test 5 0 ((1 ≤ length ts.tasks) × (length ts.tasks ≤ limits.tasks) → ⊥)
    ∷ (in_turn (task_tests ts) 0 (length ts.tasks)
    ++ (test 8 0 ((h : ℕ) × IsHyperperiod ts h × (limits.ticks < h))
    ∷ test 9 0 ((h : ℕ) × IsHyperperiod ts h × (limits.jobs < all_jobs h ts))
    ∷ []))

-- a set in memory has its tasks in the first n slots
unfoldable pub memory_set : TaskSet → Set
memory_set s = record { tasks = take s.n s.tasks }

-- n outside 1 to 16 is refused before any slot is read
abbrev pub memory_fault : TaskSet → Option Refusal
memory_fault s = first (unless (few_enough s.n) 5 0) (set_fault (memory_set s))

-- its tests in order
abbrev pub memory_tests : TaskSet → List Test
memory_tests s = test 5 0 ((1 ≤ s.n) × (s.n ≤ limits.tasks) → ⊥) ∷ set_tests (memory_set s)

-- what was judged, as the answer
abbrev pub set_answer : Judged Figures → Result Figures Refusal
set_answer (gives f) = Ok f
set_answer (refuses r) = Err r

-- judging a set in memory
unfoldable pub judge_set : TaskSet → Result Figures Refusal
judge_set s = set_answer (or_else (memory_fault s) (gives (figures (memory_set s))))
