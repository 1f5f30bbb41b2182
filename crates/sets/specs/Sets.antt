-- What the functions of this crate answer, in the rule book's terms, and a good set as it lies in memory. Assumes nothing.
use Rattle.std.specs.Prelude.{◌≡◌, List, ℕ, ◌≤◌, leb, length, take, Option, Some, None, Result, Ok, Err, ⊤}
use Rattle.std.proofs.Math.Option as book
use Rattle.std.specs.Int.{◌∣◌}
use Rattle.rules.specs.declared.Task.{Task}
use Rattle.rules.specs.declared.TaskSet.{TaskSet}
use Rattle.rules.specs.declared.Figures.{Figures}
use Rattle.rules.specs.declared.Refusal.{Refusal}
use Rattle.rules.specs.Refusals.{gives, or_else, unless}
use Rattle.rules.specs.Timetable.{pick}
use Rattle.rules.specs.Tasks.{limits, all_jobs, IsLeastMultiple, IsHyperperiod, GoodSet, tasks_fault, memory_set, set_answer, judge_set}

-- a number of ticks, where it is up to the limit
abbrev pub capped : ℕ → Option ℕ
capped h = pick (leb h limits.ticks) (Some h) None

-- the greatest common divisor of two numbers: it divides both, and every other number that divides both divides it
pub record IsGreatestDivisor (a b d : ℕ) : Type 0 where
  pub left : d ∣ a
  pub right : d ∣ b
  pub greatest : (e : ℕ) → e ∣ a → e ∣ b → e ∣ d

-- the least common multiple of two numbers as it is told, where it is up to the limit
pub record MultipleTold (a b : ℕ) (r : Option ℕ) : Type 0 where
  pub multiple : ℕ
  pub is : IsLeastMultiple a b multiple
  pub told : r ≡ capped multiple

-- the answer of tests that find a fault or none
abbrev pub fault_answer : book.Option Refusal → Result ⊤ Refusal
fault_answer book.none = Ok tt
fault_answer (book.some r) = Err r

-- the first n tasks of a set
abbrev pub first_tasks : TaskSet → List Task
first_tasks s = take s.n s.tasks

-- 1 to 16 tasks, in the first of sixteen slots
pub record InSlots (s : TaskSet) : Type 0 where
  pub some_tasks : 1 ≤ s.n
  pub few_tasks : s.n ≤ limits.tasks
  pub slots : length s.tasks ≡ limits.tasks

-- a set that 5 to 8 pass, with its hyperperiod
pub record HasCycle (s : TaskSet) (h : ℕ) : Type 0 where
  pub in_slots : InSlots s
  pub faultless : tasks_fault 1 0 (first_tasks s) ≡ book.none
  pub ticks : IsHyperperiod (memory_set s) h
  pub short : h ≤ limits.ticks

-- the ticks that are told of a set's cycle: its hyperperiod, where it has one
abbrev pub TicksTold : TaskSet → Option ℕ → Type 0
TicksTold s (Some h) = HasCycle s h
TicksTold s None = (h : ℕ) → HasCycle s h → ⊥

-- what is told of a set's cycle: its hyperperiod, or the set's refusal
abbrev pub CycleTold : TaskSet → Result ℕ Refusal → Type 0
CycleTold s (Ok h) = HasCycle s h
CycleTold s (Err r) = judge_set s ≡ Err r

-- the answer to a set that 5 to 8 pass, by its hyperperiod and its jobs: 9 where these are above the limit
abbrev pub limited : ℕ → ℕ → Result Figures Refusal
limited h jobs = set_answer (or_else (unless (leb jobs limits.jobs) 9 0) (gives (record { hyperperiod = h; jobs = jobs })))

-- 1 to 16 tasks, in the first slots, that are a good set with these figures
pub record GoodInMemory (s : TaskSet) (f : Figures) : Type 0 where
  pub some_tasks : 1 ≤ s.n
  pub few_tasks : s.n ≤ limits.tasks
  pub good : GoodSet (memory_set s) f.hyperperiod
  pub counted : f.jobs ≡ all_jobs f.hyperperiod (memory_set s)
