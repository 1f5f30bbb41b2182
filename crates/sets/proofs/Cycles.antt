-- The cycle and the jobs of the first n tasks, worked out from the last task to the first. Assumes nothing.
use mathlib.Core.Path.{◌≡◌, sym, ◌∙◌, ap}
use mathlib.Core.Bool.{true, false}
use mathlib.Core.List.{List, [], ◌∷◌}
use mathlib.Core.Option.{none}
use Prim.Native.Nat.{ℕ, suc, ◌+◌, ◌*◌, ◌/◌, ◌-◌, ◌≤◌, ◌<◌, ◌∣◌}
use native.Mathlib.Omega.{arith}
use native.Mathlib.Nat.{div-le_self, div-zero, dvd_refl, le_of_dvd}
use lib.ListN.{length, take, drop}
use borrow.Author.Tests.{le-leb}
use Rattle.std.specs.Prelude.{Some}
use Rattle.rules.specs.declared.Task.{Task}
use Rattle.rules.specs.declared.TaskSet.{TaskSet}
use Rattle.rules.specs.Tasks.{limits, set_with, jobs, sum_of_jobs, IsLeastMultiple, IsHyperperiod, memory_set, keeps_its_rule, tasks_fault}
use Rattle.rules.proofs.Cases.{differ}
use Rattle.rules.proofs.GoodSets.{task_keeps, keeps_task}
use Rattle.rules.proofs.Hyperperiod.{multiple_positive, with_one, no_periods, one_period, one_period_more, rest_divides}
use Rattle.sets.specs.Sets.{first_tasks, MultipleTold, InSlots, HasCycle}
use Rattle.sets.proofs.Multiples.{told_within, multiple_told}
use Rattle.sets.proofs.Slots.{slot, none_left, one_more}
use Rattle.sets.proofs.Answers.{cycle_positive, cycle_rules, cycle_order}

-- h is the hyperperiod of the first n tasks from place i on, and up to the limit; the period after, the first of them, divides it; and they have no fault
-- behind a period up to it
pub record CycleFrom (slots : List Task) (n i after h : ℕ) : Type 0 where
  pub room : n ≤ length slots
  pub some_ticks : 1 ≤ h
  pub short : h ≤ limits.ticks
  pub next : after ≡ (slot slots i).period
  pub divides : after ∣ h
  pub is : IsHyperperiod (set_with (drop i (take n slots))) h
  pub ordered : (place before : ℕ) → before ≤ after → tasks_fault place before (drop i (take n slots)) ≡ none

-- a task that keeps its own rule has a period of at least 1
pub tested_period : (t : Task) → true ≡ keeps_its_rule t → 1 ≤ t.period
tested_period t kept = let r = task_keeps t (sym kept) in omega arith

-- what a set with a cycle has, at the task before a place
module _ {s : TaskSet} {m : ℕ} (g : HasCycle s m) (i : ℕ) (p : 0 < i) (l : i ≤ s.n) (t : Task) (here : t ≡ slot s.tasks (i - 1)) where
  -- it keeps its own rule
  pub not_broken_before : false ≡ keeps_its_rule t → ⊥
  not_broken_before broken = differ (sym (keeps_task t (cycle_rules g t (i - 1) (omega arith) here)) ∙ sym broken)

  -- its period is not above that of the next
  pub not_falling_before : (after : ℕ) → i < s.n → after ≡ (slot s.tasks i).period → after < t.period → ⊥
  not_falling_before after more next falls =
      let k : suc (i - 1) ≡ i = omega arith in
      let rise = rw (k, ← here) at (cycle_order g (i - 1) (omega arith)) in
      omega arith

  -- and the least common multiple with the hyperperiod from there on is not above the limit
  pub not_long_before : {h k : ℕ} → IsHyperperiod (set_with (drop i (first_tasks s))) h → IsLeastMultiple t.period h k → limits.ticks < k → ⊥
  unfolding memory_set
  not_long_before is both above =
      let room : s.n ≤ length s.tasks = omega (arith, g.in_slots.few_tasks, g.in_slots.slots) in
      let more = rw (← one_more s.tasks s.n i room t p l here) at (one_period_more t is both) in
      omega (arith, le_of_dvd (cycle_positive g) (rest_divides (i - 1) g.ticks more), g.short)

-- at the last task h is its period
module _ (slots : List Task) (n : ℕ) (p : 0 < n) (room : n ≤ length slots) (t : Task) (here : t ≡ slot slots (n - 1)) where
  last_alone : drop (n - 1) (take n slots) ≡ t ∷ []
  last_alone = one_more slots n n room t p (omega arith) here ∙ rw (none_left slots n n (omega arith))

  pub cycle_starts : true ≡ keeps_its_rule t → t.period ≤ limits.ticks → CycleFrom slots n (n - 1) t.period t.period
  cycle_starts kept l = record {
    room = room;
    some_ticks = tested_period t kept;
    short = l;
    next = ap (λ (u : Task). u.period) here;
    divides = dvd_refl t.period;
    is = rw last_alone (one_period t);
    ordered = λ place before low. rw (last_alone, ← kept, le-leb before t.period low);
  }

-- the task before
module _ {slots : List Task} {n i after h : ℕ} (c : CycleFrom slots n i after h) (p : 0 < i) (l : i < n) (t : Task) (here : t ≡ slot slots (i - 1)) (kept : true ≡ keeps_its_rule t) where
  -- with its period, not above the one after it, h goes on to the least common multiple where that is up to the limit
  pub cycle_more : (r : ℕ) → MultipleTold t.period h (Some r) → t.period ≤ after → CycleFrom slots n (i - 1) t.period r
  cycle_more r m low =
      let told = told_within m.multiple r m.told in
      let front = one_more slots n i c.room t p (omega arith) here in
      record {
        room = c.room;
        some_ticks = omega (arith, told, multiple_positive (tested_period t kept) c.some_ticks m.is);
        short = omega (arith, told);
        next = ap (λ (u : Task). u.period) here;
        divides = rw told.0 m.is.left;
        is = rw (front, told.0) (one_period_more t c.is m.is);
        ordered = λ place before k. rw (front, ← kept, le-leb before t.period k) (c.ordered (suc place) t.period low);
      }

  -- it stays where the period is the one after it
  pub cycle_same : t.period ≡ after → CycleFrom slots n (i - 1) after h
  cycle_same e = rw e at (cycle_more h (multiple_told (rw e c.divides) c.short) (omega arith))

-- the last task's period is not above the limit where the set has a cycle
pub last_not_long : {s : TaskSet} {m : ℕ} → HasCycle s m → (t : Task) → t ≡ slot s.tasks (s.n - 1) → limits.ticks < t.period → ⊥
last_not_long {s} g t here above =
    let some = g.in_slots.some_tasks in
    not_long_before g s.n (omega arith) (omega arith) t here
    (rw (none_left s.tasks s.n s.n (omega arith)) no_periods) (with_one t.period) above

-- at the first task it is the hyperperiod, and no task has a fault
pub cycle_ends : {s : TaskSet} {i after h : ℕ} → InSlots s → CycleFrom s.tasks s.n i after h → i ≡ 0 → HasCycle s h
unfolding memory_set
cycle_ends {s} {i} {after} {h} m c z = record {
  in_slots = m;
  faultless = rw z at (c.ordered 1 0 (omega arith));
  ticks = rw z at c.is;
  short = c.short;
}

-- sum is the jobs of the first n tasks from place i on, which leaves room for those of i tasks more; many are the jobs of a task with the period after
pub record JobsFrom (h : ℕ) (slots : List Task) (n i sum after many : ℕ) : Type 0 where
  pub room : n ≤ length slots
  pub leaves_room : sum + limits.ticks * i ≤ limits.ticks * limits.tasks
  pub is : sum ≡ sum_of_jobs h (drop i (take n slots))
  pub each : many ≡ h / after

-- after the last task there are none
pub jobs_start : (h : ℕ) (slots : List Task) (n : ℕ) → n ≤ length slots → n ≤ limits.tasks → JobsFrom h slots n n 0 0 0
jobs_start h slots n room few = record {
  room = room;
  leaves_room = omega arith;
  is = rw (none_left slots n n (omega arith));
  each = sym (div-zero h);
}

-- the task before adds its own
pub jobs_more : {h : ℕ} {slots : List Task} {n i sum after many : ℕ} → JobsFrom h slots n i sum after many → 0 < i → i ≤ n → h ≤ limits.ticks →
    (t : Task) → t ≡ slot slots (i - 1) → (now r : ℕ) → now ≡ t.period → r ≡ jobs h t → JobsFrom h slots n (i - 1) (sum + r) now r
jobs_more {h} {slots} {n} {i} {sum} {after} {many} j p inside l t here now r same e =
    let few = div-le_self h t.period in
    record {
      room = j.room;
      leaves_room = omega arith;
      is = rw (one_more slots n i j.room t p inside here) (omega arith);
      each = rw same e;
    }
