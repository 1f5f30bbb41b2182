-- A good set is a set with no fault, and the first fault of a set is that of the first of the document's tests that refuses. Assumes nothing.
use mathlib.Core.Path.{◌≡◌}
use mathlib.Core.Bool.{true}
use mathlib.Core.List.{List, [], ◌∷◌}
use mathlib.Core.Option.{none}
use Prim.Native.Nat.{ℕ, zero, suc, ◌+◌, ◌≤◌, ◌<◌}
use native.Mathlib.Omega.{arith}
use native.Mathlib.Nat.{le_of_dvd, le-div_iff_mul-le}
use lib.Dec.{leb}
use lib.ListN.{length, drop, drop_of_length-le, get_or-eq_default}
use lib.Seq.{drop-cons}
use borrow.Author.Tests.{leb-true, leb-false, le-leb}
use Rattle.rules.specs.declared.Task.{Task}
use Rattle.rules.specs.declared.TaskSet.{TaskSet}
use Rattle.rules.specs.Refusals.{test, First, no_test, unless, in_turn}
use Rattle.rules.specs.Tasks.{sum_of_jobs, task_in, Set, limits, no_task, task, jobs, all_jobs, KeepsItsRule, IsHyperperiod, GoodSet, hyperperiod, keeps_its_rule, few_enough, tasks_fault, set_fault, period_falls, task_tests, set_tests, memory_fault, memory_tests, memory_set}
use Rattle.rules.proofs.Cases.{by_le, both_true, both_in}
use Rattle.rules.proofs.FirstTests.{NoneHolds, none_holds_at, none_holds_in_turn, none_holds, none_refuses, none_holds_both, both_none_hold, first_then, first_unless, first_rule, not_broken}
use Rattle.rules.proofs.Hyperperiod.{Positive, hyperperiod_is, hyperperiod_positive, one_hyperperiod}

-- a task that passes the test of its own rule keeps it
pub task_keeps : (t : Task) → keeps_its_rule t ≡ true → KeepsItsRule t
task_keeps t e =
    let a = both_true (leb 1 t.time) _ e in
    let b = both_true (leb t.time t.deadline) _ a.1 in
    record { takes_time = leb-true _ _ a.0; fits = leb-true _ _ b.0; within = leb-true _ _ b.1 }

-- and back
pub keeps_task : (t : Task) → KeepsItsRule t → keeps_its_rule t ≡ true
keeps_task t r = both_in _ _ (le-leb _ _ r.takes_time) (both_in _ _ (le-leb _ _ r.fits) (le-leb _ _ r.within))

-- a task that keeps its rule has a period of at least 1
keeps_period : (t : Task) → KeepsItsRule t → 1 ≤ t.period
keeps_period t r = omega (arith, r.takes_time, r.fits, r.within)

-- a number of tasks from 1 to 16, and its test
abbrev Few : ℕ → Type 0
Few n = (1 ≤ n) × (n ≤ limits.tasks)

few_tested : (n : ℕ) → few_enough n ≡ true → Few n
few_tested n e = let a = both_true (leb 1 n) _ e in (leb-true _ _ a.0, leb-true _ _ a.1)

tested_few : (n : ℕ) → Few n → few_enough n ≡ true
tested_few n r = both_in _ _ (le-leb _ _ r.0) (le-leb _ _ r.1)

-- number 5, of a number of tasks
few_order : (n : ℕ) → First (test 5 0 (Few n → ⊥) ∷ []) (unless (few_enough n) 5 0)
few_order n = first_rule (few_enough n) (few_tested n) (tested_few n) 5 0

-- the period before task i, 0 for the first
abbrev period_before : Set → ℕ → ℕ
period_before ts zero = 0
period_before ts (suc i) = (task ts i).period

module _ (ts : Set) where
  -- number 6, of task i
  own_order : (i : ℕ) → First (test 6 (suc i) (KeepsItsRule (task ts i) → ⊥) ∷ []) (unless (keeps_its_rule (task ts i)) 6 (suc i))
  own_order i = first_rule (keeps_its_rule (task ts i)) (task_keeps (task ts i)) (keeps_task (task ts i)) 6 (suc i)

  -- number 7, of task i
  period_order : (i : ℕ) → First (test 7 (suc i) (period_falls ts i) ∷ []) (unless (leb (period_before ts i) (task ts i).period) 7 (suc i))
  period_order zero = first_unless (leb 0 (task ts 0).period) 7 1 (λ e c. c) (λ e. omega (arith, leb-false 0 (task ts 0).period e))
  period_order (suc i) =
      first_unless (leb (task ts i).period (task ts (suc i)).period) 7 (suc (suc i))
      (λ e c. omega (arith, leb-true (task ts i).period (task ts (suc i)).period e)) (λ e. leb-false _ _ e)

  -- tasks in turn, from task i on
  pub tasks_order : (i left : ℕ) → i + left ≡ length ts.tasks → First (in_turn (task_tests ts) i left) (tasks_fault (suc i) (period_before ts i) (drop i ts.tasks))
  tasks_order i zero e = rw (drop_of_length-le ts.tasks {i = i} (omega arith)) no_test
  tasks_order i (suc left) e =
      rw (drop-cons ts.tasks i no_task (omega arith))
      (first_then (own_order i) (λ z. first_then (period_order i) (λ y. tasks_order (suc i) left (omega arith))))

  -- a task that passes keeps its rule, and its period is not below the one before
  pub tasks_keep : NoneHolds (in_turn (task_tests ts) 0 (length ts.tasks)) → (i : ℕ) → i < length ts.tasks → KeepsItsRule (task ts i) × (period_falls ts i → ⊥)
  tasks_keep z i l =
      let a = none_holds_at (task_tests ts) 0 (length ts.tasks) z i (omega arith) (omega arith) in
      (not_broken (keeps_its_rule (task ts i)) (task_keeps (task ts i)) (keeps_task (task ts i)) a.0, a.1.0)

  pub periods_positive : NoneHolds (in_turn (task_tests ts) 0 (length ts.tasks)) → Positive ts.tasks
  periods_positive z i l = keeps_period (task ts i) (tasks_keep z i l).0

  -- number 8, of a set whose periods are at least 1
  long_order : Positive ts.tasks → First (test 8 0 ((h : ℕ) × IsHyperperiod ts h × (limits.ticks < h)) ∷ []) (unless (leb (hyperperiod ts) limits.ticks) 8 0)
  long_order pos =
      first_unless (leb (hyperperiod ts) limits.ticks) 8 0
      (λ e c. omega (arith, leb-true (hyperperiod ts) limits.ticks e, c.2, one_hyperperiod c.1 (hyperperiod_is ts pos)))
      (λ e. (hyperperiod ts, hyperperiod_is ts pos, leb-false _ _ e))

  -- number 9, of such a set
  many_order : Positive ts.tasks →
      First (test 9 0 ((h : ℕ) × IsHyperperiod ts h × (limits.jobs < all_jobs h ts)) ∷ []) (unless (leb (all_jobs (hyperperiod ts) ts) limits.jobs) 9 0)
  many_order pos =
      first_unless (leb (all_jobs (hyperperiod ts) ts) limits.jobs) 9 0
      (λ e c. let m : limits.jobs < all_jobs (hyperperiod ts) ts = rw (one_hyperperiod c.1 (hyperperiod_is ts pos)) at c.2 in
      omega (arith, leb-true (all_jobs (hyperperiod ts) ts) limits.jobs e))
      (λ e. (hyperperiod ts, hyperperiod_is ts pos, leb-false _ _ e))

  -- the first fault of a set is that of the first test that refuses
  pub set_order : First (set_tests ts) (set_fault ts)
  set_order =
      first_then (few_order (length ts.tasks))
      (λ n. first_then (tasks_order 0 (length ts.tasks) (omega arith))
      (λ z. first_then (long_order (periods_positive z)) (λ y. many_order (periods_positive z))))

  -- a set with no fault is good
  pub good_set : set_fault ts ≡ none → GoodSet ts (hyperperiod ts)
  good_set e =
      let a = none_holds set_order e in
      let b = none_holds_both (in_turn (task_tests ts) 0 (length ts.tasks)) _ a.1 in
      let is : IsHyperperiod ts (hyperperiod ts) = hyperperiod_is ts (periods_positive b.0) in
      let n : Few (length ts.tasks) = not_broken (few_enough (length ts.tasks)) (few_tested (length ts.tasks)) (tested_few (length ts.tasks)) a.0 in
      record {
        some_tasks = n.0;
        few_tasks = n.1;
        own_rules = λ i l. (tasks_keep b.0 i l).0;
        periods_rise = λ i l. omega (arith, (tasks_keep b.0 (suc i) l).1);
        is_hyperperiod = is;
        short = by_le (hyperperiod ts) limits.ticks (λ l. l) (λ g. absurd (b.1.0 (hyperperiod ts, is, g)));
        few_jobs = by_le (all_jobs (hyperperiod ts) ts) limits.jobs (λ l. l) (λ g. absurd (b.1.1.0 (hyperperiod ts, is, g)));
      }

  good_periods : {h : ℕ} → GoodSet ts h → Positive ts.tasks
  good_periods g i l = keeps_period (task ts i) (g.own_rules i l)

  not_falling : {h : ℕ} → GoodSet ts h → (i : ℕ) → i < length ts.tasks → period_falls ts i → ⊥
  not_falling g zero l c = c
  not_falling g (suc i) l c = omega (arith, g.periods_rise i l)

  -- no test refuses a good set
  good_tasks : {h : ℕ} → GoodSet ts h → NoneHolds (in_turn (task_tests ts) 0 (length ts.tasks))
  good_tasks g =
      none_holds_in_turn (task_tests ts) 0 (length ts.tasks)
      (λ i lo hi. (λ c. c (g.own_rules i (omega arith)), (not_falling g i (omega arith), tt)))

  good_none_holds : {h : ℕ} → GoodSet ts h → NoneHolds (set_tests ts)
  good_none_holds {h} g =
      let same : (m : ℕ) → IsHyperperiod ts m → m ≡ h = λ m o. one_hyperperiod o g.is_hyperperiod in (
        λ c. c (g.some_tasks, g.few_tasks),
        both_none_hold (in_turn (task_tests ts) 0 (length ts.tasks)) _ (good_tasks g) (
          λ c. omega (arith, c.2, g.short, same c.0 c.1),
          (λ c. let m : limits.jobs < all_jobs h ts = rw (same c.0 c.1) at c.2 in omega (arith, g.few_jobs), tt),
        ),
      )

  -- a good set has no fault, and its hyperperiod is the one worked out
  pub set_good : (h : ℕ) → GoodSet ts h → (set_fault ts ≡ none) × (h ≡ hyperperiod ts)
  set_good h g = (none_refuses set_order (good_none_holds g), one_hyperperiod g.is_hyperperiod (hyperperiod_is ts (good_periods g)))

-- the hyperperiod of a good set is at least 1
pub good_positive : {ts : Set} {h : ℕ} → GoodSet ts h → 1 ≤ h
good_positive {ts} g = hyperperiod_positive ts (good_periods ts g) g.is_hyperperiod

-- task i of a good set keeps its rule, past the end too
pub good_rules : {ts : Set} {h : ℕ} → GoodSet ts h → (i : ℕ) → KeepsItsRule (task ts i)
good_rules {ts} g i =
    by_le (length ts.tasks) i
    (λ past. rw (get_or-eq_default ts.tasks no_task {n = i} past) (record { takes_time = omega arith; fits = omega arith; within = omega arith }))
    (λ l. g.own_rules i l)

-- a task of a good set has at least one job
pub some_jobs : {ts : Set} {h : ℕ} → GoodSet ts h → (i : ℕ) → i < length ts.tasks → 1 ≤ jobs h (task ts i)
some_jobs {ts} {h} g i l =
    (le-div_iff_mul-le {k = (task ts i).period} {x = 1} {y = h} (good_periods ts g i l)).1
    (omega (arith, le_of_dvd {m = (task ts i).period} {n = h} (good_positive g) (g.is_hyperperiod.common i l)))

-- a task's jobs are among those of all tasks
all_jobs_above : (h : ℕ) (ts : List Task) (i : ℕ) → i < length ts → jobs h (task_in ts i) ≤ sum_of_jobs h ts
all_jobs_above h [] i l = absurd (omega arith)
all_jobs_above h (t ∷ ts) zero l = omega arith
all_jobs_above h (t ∷ ts) (suc i) l = omega (arith, all_jobs_above h ts i (omega arith))

-- a cycle of a good set has a job
pub a_job : {ts : Set} {h : ℕ} → GoodSet ts h → 1 ≤ all_jobs h ts
a_job {ts} {h} g = omega (arith, some_jobs g 0 g.some_tasks, all_jobs_above h ts.tasks 0 g.some_tasks)

-- a set in memory: the number of tasks, then the set in its first slots
pub memory_order : (s : TaskSet) → First (memory_tests s) (memory_fault s)
memory_order s = first_then (few_order s.n) (λ z. set_order (memory_set s))
