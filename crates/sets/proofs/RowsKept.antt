-- The rows that are kept of a set: filled from the last task to the first, they are those of a good set. Assumes nothing.
use mathlib.Core.Path.{◌≡◌, sym, ◌∙◌, ap}
use mathlib.Core.List.{List}
use Prim.Native.Nat.{ℕ, ◌-◌, ◌≤◌, ◌<◌}
use native.Mathlib.Omega.{arith}
use lib.ListN.{length, set}
use Rattle.rules.specs.declared.Task.{Task}
use Rattle.rules.specs.declared.TaskSet.{TaskSet}
use Rattle.rules.specs.Tasks.{limits, task, jobs, sum_of_jobs, GoodSet, memory_set}
use Rattle.rules.proofs.Arrays.{task_in_slot, memory_many}
use Rattle.sets.specs.Sets.{first_tasks, InSlots}
use Rattle.sets.specs.declared.Kept.{Kept}
use Rattle.sets.specs.Kept.{jobs_in, slack_in, times_in, periods_in, first_in, Keeps, slack_of, Filled}
use Rattle.sets.proofs.Slots.{no_slot, slot}
use Rattle.sets.proofs.Arrays.{filled_none, filled_front}

-- rows of sixteen slots
pub record Sixteen (kept : Kept) : Type 0 where
  pub jobs : length kept.jobs ≡ limits.tasks
  pub slack : length kept.slack ≡ limits.tasks
  pub times : length kept.times ≡ limits.tasks
  pub periods : length kept.periods ≡ limits.tasks
  pub first : length kept.first ≡ limits.tasks

module _ (before : Kept) (s : TaskSet) where
  -- a row whose slots of the tasks from place i on hold a value of them, and the others what they held before
  abbrev RowFrom : ℕ → Kept → (Kept → List ℕ) → (Task → ℕ) → Type 0
  RowFrom i now row value = Filled (row before) (λ (k : ℕ). value (task (memory_set s) k)) i s.n (row now)

  -- such rows, in a cycle of h ticks
  pub record RowsFrom (h i : ℕ) (now : Kept) : Type 0 where
    pub shape : Sixteen before
    pub jobs_row : RowFrom i now jobs_in (jobs h)
    pub slack_row : RowFrom i now slack_in slack_of
    pub times_row : RowFrom i now times_in (λ (t : Task). t.time)
    pub periods_row : RowFrom i now periods_in (λ (t : Task). t.period)
    pub first_row : RowFrom i now first_in (λ (t : Task). t.offset)

module _ {before : Kept} {s : TaskSet} (m : InSlots s) (h : ℕ) where
  -- behind the last task they are as before
  pub rows_start : Sixteen before → RowsFrom before s h s.n before
  rows_start shape = record {
    shape = shape;
    jobs_row = filled_none _ _ _;
    slack_row = filled_none _ _ _;
    times_row = filled_none _ _ _;
    periods_row = filled_none _ _ _;
    first_row = filled_none _ _ _;
  }

  -- what is kept of the task before goes in front
  pub rows_more : {i : ℕ} {now : Kept} → RowsFrom before s h i now → 0 < i → i ≤ s.n → (t : Task) → t ≡ slot s.tasks (i - 1) →
      (many : ℕ) → many ≡ jobs h t → RowsFrom before s h (i - 1)
      (record now {
        jobs = set now.jobs (i - 1) many;
        slack = set now.slack (i - 1) (slack_of t);
        times = set now.times (i - 1) t.time;
        periods = set now.periods (i - 1) t.period;
        first = set now.first (i - 1) t.offset;
      })
  rows_more {i} f p l t here many e =
      let same : t ≡ task (memory_set s) (i - 1) = here ∙ sym (task_in_slot s (i - 1) no_slot (omega arith) (omega arith)) in
      record {
        shape = f.shape;
        jobs_row = filled_front f.jobs_row many p l (omega (arith, f.shape.jobs)) (e ∙ ap (jobs h) same);
        slack_row = filled_front f.slack_row (slack_of t) p l (omega (arith, f.shape.slack)) (ap slack_of same);
        times_row = filled_front f.times_row t.time p l (omega (arith, f.shape.times)) (ap (λ (u : Task). u.time) same);
        periods_row = filled_front f.periods_row t.period p l (omega (arith, f.shape.periods)) (ap (λ (u : Task). u.period) same);
        first_row = filled_front f.first_row t.offset p l (omega (arith, f.shape.first)) (ap (λ (u : Task). u.offset) same);
      }

  -- at the first task, with the figures, they are kept of the set where it is good
  pub rows_kept : {now : Kept} → RowsFrom before s h 0 now → (sum : ℕ) → sum ≡ sum_of_jobs h (first_tasks s) → GoodSet (memory_set s) h →
      Keeps (memory_set s) (record now { tasks = s.n; hyperperiod = h; all_jobs = sum })
  unfolding memory_set
  rows_kept f sum e good = record {
    good = good;
    n_tasks = sym (memory_many s (omega arith));
    few = m.few_tasks;
    all_there = e;
    jobs_there = λ i l. f.jobs_row.inside i (omega arith) l;
    slack_there = λ i l. f.slack_row.inside i (omega arith) l;
    times_there = λ i l. f.times_row.inside i (omega arith) l;
    periods_there = λ i l. f.periods_row.inside i (omega arith) l;
    first_there = λ i l. f.first_row.inside i (omega arith) l;
    first_slots = f.first_row.slots ∙ f.shape.first;
  }
