-- The intervals of a cycle and their spare capacities: document 02, R-4, after source document 001. Assumes nothing.
use Rattle.std.specs.Prelude.{Bool, true, false, List, [], ◌∷◌, ◌++◌, ℕ, zero, suc, pred, ◌-◌, max, ltb, eqb, length, get_or, ℤ, pos, negsuc, ◌+ℤ◌, ◌-ℤ◌}
use Rattle.rules.specs.declared.Task.{Task}
use Rattle.rules.specs.Tasks.{Set, task, due, jobs, taken}
use Rattle.rules.specs.Timetable.{pick}
use Rattle.rules.specs.Several.{any_below, sum_below, greatest_below}

-- an interval of the cycle: from its begin to its end, with the declared times of its jobs together; 0 for a stretch without jobs
pub record Interval : Type 0 where
  pub begin : ℕ
  pub end : ℕ
  pub work : ℕ

-- the stretch between two instants, where there is one
abbrev pub stretch : ℕ → ℕ → List Interval
stretch from to = pick (ltb from to) (record { begin = from; end = to; work = 0 } ∷ []) []

-- is one of a task's first so many jobs due at e
abbrev pub due_among : Task → ℕ → ℕ → Bool
due_among t zero e = false
due_among t (suc k) e = pick (eqb (due t k) e) true (due_among t k e)

module _ (ts : Set) (h : ℕ) where
  -- has task i a job of the cycle that is due at e
  unfoldable pub due_at : ℕ → ℕ → Bool
  due_at e i = due_among (task ts i) (jobs h (task ts i)) e

  -- has any task: a distinct deadline
  unfoldable pub is_deadline : ℕ → Bool
  is_deadline e = any_below (length ts.tasks) (due_at e)

  -- the declared times of the jobs due at e together
  unfoldable pub work_due : ℕ → ℕ
  work_due e = sum_below (length ts.tasks) (λ i. pick (due_at e i) (taken ts i) 0)

  -- the least release among them: that of the job with the longest relative deadline
  unfoldable pub first_release : ℕ → ℕ
  first_release e = e - greatest_below (length ts.tasks) (λ i. pick (due_at e i) (task ts i).deadline 0)

  -- the last deadline at or before a tick, 0 where there is none
  unfoldable pub last_deadline : ℕ → ℕ
  last_deadline zero = 0
  last_deadline (suc e) = pick (is_deadline (suc e)) (suc e) (last_deadline e)

  -- where the interval that ends at e begins: at the later of its jobs' least release and the previous one's end
  unfoldable pub begins : ℕ → ℕ
  begins e = max (last_deadline (pred e)) (first_release e)

  -- the interval that ends at e
  unfoldable pub ending : ℕ → Interval
  ending e = record { begin = begins e; end = e; work = work_due e }

  -- the intervals up to a tick: at a deadline one more, and the stretch before it
  unfoldable pub up_to : ℕ → List Interval
  up_to zero = []
  up_to (suc e) = pick (is_deadline (suc e)) (up_to e ++ (stretch (last_deadline e) (begins (suc e)) ++ (ending (suc e) ∷ []))) (up_to e)

  -- the intervals of the cycle, with the stretch behind the last deadline
  unfoldable pub intervals : List Interval
  intervals = up_to h ++ stretch (last_deadline h) h

-- what an interval takes from the one before it: its capacity where that is negative
abbrev pub borrowed : ℤ → ℤ
borrowed (pos n) = pos 0
borrowed (negsuc n) = negsuc n

-- an interval's capacity: its length minus declared times, plus the next one's capacity where that is negative
abbrev pub capacity : Interval → ℤ → ℤ
capacity x next = (pos (x.end - x.begin) -ℤ pos x.work) +ℤ borrowed next

-- the capacities of intervals in order of time, before one with a capacity
abbrev pub capacities : List Interval → ℤ → List ℤ
capacities [] next = []
capacities (x ∷ xs) next = capacity x (get_or (capacities xs next) 0 next) ∷ capacities xs next

-- the spare capacities of a set's cycle; the last interval has no next
unfoldable pub spare : Set → ℕ → List ℤ
spare ts h = capacities (intervals ts h) (pos 0)
