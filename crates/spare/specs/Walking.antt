-- The walk backwards over the intervals of a cycle: each task's slot holds its last deadline not yet taken; and an output for their capacities.
-- Assumes nothing.
use Rattle.std.specs.Prelude.{◌≡◌, List, [], ◌∷◌, ◌++◌, ℕ, zero, suc, ◌+◌, ◌-◌, ◌*◌, ◌≤◌, ◌<◌, eqb, ℤ, length, get_or, replicate}
use Rattle.rules.specs.declared.Task.{Task}
use Rattle.rules.specs.Tasks.{Set, limits, task, due, jobs}
use Rattle.rules.specs.Timetable.{pick}
use Rattle.rules.specs.Several.{sum_below, greatest_below}
use Rattle.rules.specs.Intervals.{Interval, stretch, up_to, spare}
use Rattle.sets.specs.declared.Kept.{Kept}
use Rattle.sets.specs.Kept.{tasks_in, hyperperiod_in, slack_in, times_in, periods_in, first_in, Keeps, Filled}
use Rattle.spare.specs.declared.Due.{Due}
use Rattle.spare.specs.declared.Walk.{Walk}
use Rattle.spare.specs.declared.Step.{Step}

-- the deadline of the last of a task's first so many jobs, 0 where there is none
abbrev pub due_before : Task → ℕ → ℕ
due_before t zero = 0
due_before t (suc k) = due t k

-- d is the last deadline of a task's m jobs at or before e, 0 where there is none; so many jobs are left
pub record LastDue (t : Task) (m e d : ℕ) : Type 0 where
  pub left : ℕ
  pub few : left ≤ m
  pub is_due : d ≡ due_before t left
  pub below : d ≤ e
  pub above : left < m → e < due t left

-- so it is in the slot of every task
pub record Standing (ts : Set) (h e : ℕ) (dues : List ℕ) : Type 0 where
  pub last : (i : ℕ) → i < length ts.tasks → LastDue (task ts i) (jobs h (task ts i)) e (get_or dues i 0)

-- D of task i: D − C and C together
abbrev pub relative_in : Kept → ℕ → ℕ
relative_in kept i = get_or (slack_in kept) i 0 + get_or (times_in kept) i 0

-- the deadline of its last job of the cycle, whose period ends with the cycle
abbrev pub last_in : Kept → ℕ → ℕ
last_in kept i = hyperperiod_in kept - get_or (periods_in kept) i 0 + get_or (first_in kept) i 0 + relative_in kept i

-- the first n slots hold it, the others 0
abbrev pub LastDeadlines : Kept → ℕ → List ℕ → Type 0
LastDeadlines kept = Filled (replicate limits.tasks 0) (last_in kept) 0

-- the last deadline in the first n slots
abbrev pub last_of : ℕ → List ℕ → ℕ
last_of n dues = greatest_below n (λ i. get_or dues i 0)

-- of the first n tasks, those whose slot has e: their declared times together, and the longest of their relative deadlines
abbrev pub work_of : Kept → List ℕ → ℕ → ℕ → ℕ
work_of kept dues e n = sum_below n (λ i. pick (eqb (get_or dues i 0) e) (get_or (times_in kept) i 0) 0)

abbrev pub longest_of : Kept → List ℕ → ℕ → ℕ → ℕ
longest_of kept dues e n = greatest_below n (λ i. pick (eqb (get_or dues i 0) e) (relative_in kept i) 0)

-- a slot after the jobs due at e were taken: with e it goes back by a period, to 0 where there is no deadline before
abbrev pub slot_after : Kept → List ℕ → ℕ → ℕ → ℕ
slot_after kept dues e i = pick (eqb (get_or dues i 0) e) (e - get_or (periods_in kept) i 0) (get_or dues i 0)

-- the jobs due at e are taken of the first n tasks
pub record Taken (kept : Kept) (dues : List ℕ) (e n : ℕ) (due : Due) (after : List ℕ) : Type 0 where
  pub work_is : due.work ≡ work_of kept dues e n
  pub longest_is : due.longest ≡ longest_of kept dues e n
  pub slots : Filled dues (slot_after kept dues e) 0 n after

-- the walk stands at the last deadline in the slots
pub record Walks (ts : Set) (kept : Kept) (dues : List ℕ) (w : Walk) : Type 0 where
  pub keeps : Keeps ts kept
  pub slots : length dues ≡ limits.tasks
  pub standing : Standing ts (hyperperiod_in kept) w.end dues
  pub is_last : w.end ≡ last_of (tasks_in kept) dues
  pub near : w.end ≤ w.behind
  pub inside : w.behind ≤ hyperperiod_in kept

-- the intervals still to come
abbrev pub to_come : Set → ℕ → Walk → List Interval
to_come ts h w = up_to ts h w.end ++ stretch w.end w.behind

-- a step back is over one interval, the last still to come
pub record SteppedBack (ts : Set) (kept : Kept) (w : Walk) (s : Step) (dues : List ℕ) : Type 0 where
  pub walks : Walks ts kept dues s.walk
  pub one : to_come ts (hyperperiod_in kept) w
      ≡ to_come ts (hyperperiod_in kept) s.walk ++ (record { begin = s.walk.behind; end = w.behind; work = s.work } ∷ [])
  pub sooner : s.walk.behind < w.behind
  pub small : s.work ≤ limits.tasks * limits.ticks

-- the capacities of a set's cycle fit in an output, and are as many as said
pub record CanFill (ts : Set) (kept : Kept) (many : ℕ) (out : List ℤ) : Type 0 where
  pub keeps : Keeps ts kept
  pub are : many ≡ length (spare ts (hyperperiod_in kept))
  pub room : many ≤ length out
