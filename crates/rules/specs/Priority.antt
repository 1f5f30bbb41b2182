-- Document 01's setting: a set's jobs, started in the order of task numbers. Next job numbers are a list, with 0 past its end. Assumes nothing.
use Rattle.std.specs.Prelude.{Bool, true, false, List, [], ◌∷◌, ℕ, zero, suc, ◌+◌, min, ltb, leb, length}
use Rattle.std.proofs.Math.Option.{Option, none, some}
use Rattle.fields.specs.Body.{head₀, tail₀}
use Rattle.rules.specs.declared.Task.{Task}
use Rattle.rules.specs.Tasks.{Set, both, task, release, due, jobs, taken, hyperperiod}
use Rattle.rules.specs.Timetable.{pick}
use Rattle.rules.specs.Setting.{Setting, Act, run, lowest}

-- the number in slot i
abbrev pub slot : List ℕ → ℕ → ℕ
slot x zero = head₀ x
slot x (suc i) = slot (tail₀ x) i

-- next job numbers after the next job of task i has started
abbrev pub start_job : List ℕ → ℕ → List ℕ
start_job x zero = suc (head₀ x) ∷ tail₀ x
start_job x (suc i) = head₀ x ∷ start_job (tail₀ x) i

-- have all jobs of the cycle started
abbrev pub all_started : ℕ → List Task → List ℕ → Bool
all_started h [] x = true
all_started h (t ∷ ts) x = elim (ltb (head₀ x) (jobs h t)) [ true ↦ false | false ↦ all_started h ts (tail₀ x) ]

-- the least release among jobs not yet started: a task's earliest is its next; the end of the cycle where there is none
abbrev pub least_release : ℕ → List Task → List ℕ → ℕ
least_release h [] x = h
least_release h (t ∷ ts) x =
    elim (ltb (head₀ x) (jobs h t)) [
      | true ↦ min (release t (head₀ x)) (least_release h ts (tail₀ x))
      | false ↦ least_release h ts (tail₀ x)
    ]

-- what replay reports of a start that breaks a rule: its job is waiting and the processor is free, so it can only be late
abbrev pub late : ℕ → ℕ
late zero = 0
late (suc number) = 18

-- to run the task found, of n tasks
abbrev pub run_lowest : ℕ → Option ℕ → Act
run_lowest n none = run n
run_lowest n (some i) = run i

module _ (ts : Set) (h : ℕ) where
  -- has the task a job left
  abbrev pub is_left : List ℕ → ℕ → Bool
  is_left x i = ltb (slot x i) (jobs h (task ts i))

  -- a task's job is waiting when it is that task's next and is released
  abbrev pub waiting : List ℕ → ℕ → ℕ → Bool
  waiting x t i = both (is_left x i) (leb (release (task ts i) (slot x i)) t)

  -- the rules of an entry: 11 to 15, in that order
  abbrev pub entry_breaks : List ℕ → ℕ → ℕ → ℕ → ℕ
  entry_breaks x f i s =
      pick (ltb i (length ts.tasks))
      (pick (is_left x i)
      (pick (leb (release (task ts i) (slot x i)) s)
      (pick (leb f s) (pick (leb (s + (task ts i).time) (due (task ts i) (slot x i))) 0 15) 14)
      13)
      12)
      11

  -- rule (3): the lowest waiting task starts
  abbrev pub by_priority : List ℕ → ℕ → Act
  by_priority x t = run_lowest (length ts.tasks) (lowest (length ts.tasks) (waiting x t))

  abbrev pub setting_of : Setting
  setting_of = record {
    Started = List ℕ;
    tasks = length ts.tasks;
    next_job = slot;
    release = λ i k. release (task ts i) k;
    all_started = all_started h ts.tasks;
    start_job = start_job;
    least_release = least_release h ts.tasks;
    free_after = λ i s. s + taken ts i;
    breaks = entry_breaks;
    breaks_in_replay = λ x f i s. late (entry_breaks x f i s);
    baseline = by_priority;
    cycle_end = h;
    latest = h;
  }

-- the setting of a set
abbrev pub setting : Set → Setting
setting ts = setting_of ts (hyperperiod ts)
