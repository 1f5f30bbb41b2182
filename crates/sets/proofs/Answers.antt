-- Judging a set in memory: the answer at each of its tests, in their order. Assumes nothing.
use mathlib.Core.Path.{◌≡◌, sym, ◌∙◌}
use mathlib.Core.Bool.{true}
use mathlib.Core.Option.{none, some}
use Prim.Native.Nat.{ℕ, suc, ◌≤◌, ◌<◌}
use native.Mathlib.Omega.{arith}
use borrow.Author.Tests.{le-leb, lt-leb}
use lib.Dec.{leb}
use lib.ListN.{length, length-take}
use Rattle.std.specs.Prelude.{Err}
use Rattle.rules.specs.declared.Task.{Task}
use Rattle.rules.specs.declared.TaskSet.{TaskSet}
use Rattle.rules.specs.declared.Figures.{Figures}
use Rattle.rules.specs.declared.Refusal.{Refusal}
use Rattle.rules.specs.Refusals.{refusal, gives, or_else, first, unless}
use Rattle.rules.specs.Tasks.{limits, KeepsItsRule, GoodSet, sum_of_jobs, hyperperiod, memory_set, few_enough, tasks_fault, figures, set_answer, judge_set, memory_fault}
use Rattle.rules.proofs.Cases.{by_le, by_option, both_in, clash}
use Rattle.rules.proofs.Arrays.{task_in_slot}
use Rattle.rules.proofs.Hyperperiod.{Positive, hyperperiod_is, hyperperiod_positive, one_hyperperiod}
use Rattle.sets.specs.Sets.{first_tasks, InSlots, HasCycle, limited, GoodInMemory}
use Rattle.sets.proofs.Slots.{no_slot, slot}
use Rattle.sets.proofs.Faults.{own_rules, periods_rise}

module _ (s : TaskSet) where
  -- no task
  pub refused_empty : s.n < 1 → judge_set s ≡ Err (refusal 5 0)
  unfolding judge_set
  refused_empty l = rw (lt-leb 1 s.n l)

  -- more tasks than slots
  pub refused_crowded : 1 ≤ s.n → limits.tasks < s.n → judge_set s ≡ Err (refusal 5 0)
  unfolding judge_set
  refused_crowded l m = rw (le-leb 1 s.n l, lt-leb s.n limits.tasks m)

-- tasks with no fault have periods of at least 1
positive : (s : TaskSet) → tasks_fault 1 0 (first_tasks s) ≡ none → Positive (memory_set s).tasks
unfolding memory_set
positive s e i l = let r = own_rules (first_tasks s) e i l in omega arith

-- so a cycle has a tick at least
pub cycle_positive : {s : TaskSet} {h : ℕ} → HasCycle s h → 1 ≤ h
cycle_positive {s} g = hyperperiod_positive (memory_set s) (positive s g.faultless) g.ticks

-- and is the hyperperiod that the rule book finds
cycle_is : {s : TaskSet} {h : ℕ} → HasCycle s h → h ≡ hyperperiod (memory_set s)
cycle_is {s} g = one_hyperperiod g.ticks (hyperperiod_is (memory_set s) (positive s g.faultless))

module _ {s : TaskSet} (m : InSlots s) where
  -- it is judged by the tests after those of the number of tasks
  judged : judge_set s
      ≡ set_answer (or_else
      (first (tasks_fault 1 0 (first_tasks s))
      (first (unless (leb (hyperperiod (memory_set s)) limits.ticks) 8 0)
      (unless (leb (sum_of_jobs (hyperperiod (memory_set s)) (first_tasks s)) limits.jobs) 9 0)))
      (gives (figures (memory_set s))))
  unfolding judge_set memory_set
  judged =
      let size : length (first_tasks s) ≡ s.n = simp length-take (omega arith) in
      let few : few_enough s.n ≡ true = both_in _ _ (le-leb 1 s.n m.some_tasks) (le-leb s.n limits.tasks m.few_tasks) in
      rw (few, size, few)

  -- a task's fault
  pub refused_task : (r : Refusal) → tasks_fault 1 0 (first_tasks s) ≡ some r → judge_set s ≡ Err r
  refused_task r e = judged ∙ rw e

  -- a hyperperiod above the limit: no task has a fault, and yet there is no cycle
  pub refused_long : tasks_fault 1 0 (first_tasks s) ≡ none → ((h : ℕ) → HasCycle s h → ⊥) → judge_set s ≡ Err (refusal 8 0)
  refused_long no_fault no_cycle =
      by_le (hyperperiod (memory_set s)) limits.ticks
      (λ l. absurd (no_cycle _ (record { in_slots = m; faultless = no_fault; ticks = hyperperiod_is (memory_set s) (positive s no_fault); short = l })))
      (λ above. judged ∙ rw (no_fault, lt-leb _ limits.ticks above))

-- a set that has a cycle is judged by its jobs
pub by_jobs : {s : TaskSet} {h : ℕ} → HasCycle s h → (k : ℕ) → k ≡ sum_of_jobs h (first_tasks s) → limited h k ≡ judge_set s
unfolding memory_set
by_jobs {s} {h} g k e = sym (judged g.in_slots ∙ rw (g.faultless, ← cycle_is g, le-leb h limits.ticks g.short, ← e))

-- its tasks keep their own rules
pub cycle_rules : {s : TaskSet} {h : ℕ} → HasCycle s h → (t : Task) (i : ℕ) → i < s.n → t ≡ slot s.tasks i → KeepsItsRule t
unfolding memory_set
cycle_rules {s} g t i l here =
    let size : length (first_tasks s) ≡ s.n = simp length-take (omega arith) in
    rw (here, ← task_in_slot s i no_slot (omega arith) l) (own_rules (first_tasks s) g.faultless i (omega arith))

-- and no period is below the one before
pub cycle_order : {s : TaskSet} {h : ℕ} → HasCycle s h → (i : ℕ) → suc i < s.n → (slot s.tasks i).period ≤ (slot s.tasks (suc i)).period
unfolding memory_set
cycle_order {s} g i l =
    let size : length (first_tasks s) ≡ s.n = simp length-take (omega arith) in
    rw (← task_in_slot s i no_slot (omega arith) (omega arith), ← task_in_slot s (suc i) no_slot (omega arith) l)
    (periods_rise (first_tasks s) g.faultless i (omega arith))

-- and where it is good, it is so with that cycle
pub good_cycle : {s : TaskSet} {h : ℕ} {f : Figures} → HasCycle s h → GoodInMemory s f → GoodSet (memory_set s) h
good_cycle {s} {h} {f} c g = rw (one_hyperperiod c.ticks g.good.is_hyperperiod) g.good

-- a set that is refused has that fault
pub refused_fault : (s : TaskSet) (r : Refusal) → judge_set s ≡ Err r → memory_fault s ≡ some r
unfolding judge_set
refused_fault s r e =
    by_option (memory_fault s) (λ z. clash (let y = rw z at e in cc)) (λ q z. z ∙ (let y = rw z at e in cc))
