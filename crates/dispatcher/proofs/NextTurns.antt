-- Going on: what each test of the code says of a state, and the turn that follows from it. Assumes nothing.
use mathlib.Core.Path.{◌≡◌, refl, sym, ◌∙◌, ap}
use mathlib.Core.Bool.{Bool, true, false, not}
use mathlib.Core.List.{List, []}
use Prim.Native.Nat.{ℕ, suc, ◌+◌, ◌*◌, ◌≤◌, ◌<◌}
use native.Mathlib.Omega.{arith}
use lib.ListN.{length, take}
use borrow.Author.Tests.{lt-ltb, le-ltb, le-leb}
use Rattle.rules.specs.declared.Task.{Task}
use Rattle.rules.specs.declared.Figures.{Figures}
use Rattle.rules.specs.declared.Refusal.{Refusal}
use Rattle.rules.specs.declared.Dispatcher.{Dispatcher as State}
use Rattle.std.specs.Prelude.{Result, Ok, Err, Option, Some, None, MatchOption, is_some, is_err, nat_lt}
use Rattle.std.specs.List.{position}
use Rattle.std.specs.Bool.{then_some}
use Rattle.rules.specs.Refusals.{refusal}
use Rattle.rules.specs.Tasks.{Set, both, limits, task, jobs, hyperperiod, few_enough, figures, memory_fault, judge_set}
use Rattle.rules.specs.Priority.{slot, all_started, setting}
use Rattle.rules.specs.Located.{located}
use Rattle.rules.specs.Offsets.{NextStart, next_is, stuck, next_start, lent as lent_by}
use Rattle.rules.specs.Dispatcher.{number_count, stopped, is_stopped, set_of, running_possible, possible, began, latest_end, refused, front, last_cycle}
use Rattle.rules.specs.Dispatcher.{started, at_cycle_start, next_turn, go_on}
use Rattle.rules.specs.GoingOn.{PossibleState}
use Rattle.rules.proofs.Cases.{by_option, by_le, clash, both_in}
use Rattle.rules.proofs.PriorityLaws.{slot_empty, left_not_all, due_in_cycle}
use Rattle.rules.proofs.PossibleStates.{is_possible, all_have_started}
use Rattle.rules.proofs.ForcedIdle.{released_in_cycle}
use Rattle.rules.proofs.GoodSets.{set_good, good_rules}
use Rattle.rules.proofs.Shown.{slot_front}
use Rattle.rules.proofs.Arrays.{memory_many}
use Rattle.decision.specs.declared.Standing.{Standing}
use Rattle.sets.specs.declared.Kept.{Kept}
use Rattle.sets.specs.Kept.{tasks_in, hyperperiod_in, first_in, Keeps, JudgedKept}
use Rattle.sets.proofs.Promises.{good_exactly}
use Rattle.sets.proofs.Scans.{passed, first_told, found_below, none_before}
use Rattle.numbers.specs.Numbers.{state_from}
use Rattle.decision.specs.Fits.{next_in, releases_in, Fits}
use Rattle.decision.proofs.Fitting.{left_before}
use Rattle.dispatcher.specs.Tested.{running_task, AllStarted}
use Rattle.dispatcher.specs.Stored.{in_next_cycle, start_from}
use Rattle.dispatcher.specs.States.{WithGoodSet, counts, Measured, stands_at, CanGoOn, CanStart}
use Rattle.dispatcher.proofs.Lent.{room}
use Rattle.dispatcher.proofs.Zeros.{fails_first, fails_later}

-- a state that is not stopped, and whose set is judged good
judged_good : (r : Result Figures Refusal) → false ≡ is_err r → (f : Figures) × (r ≡ Ok f)
judged_good (Ok f) e = (f, refl)
judged_good (Err q) e = clash (cc)

pub with_good_set : {lent : List ℕ} {kept : Kept} {r : Result Figures Refusal} → length lent ≡ number_count → false ≡ is_stopped (state_from lent) →
    JudgedKept (state_from lent).set r kept → false ≡ is_err r → WithGoodSet lent kept
with_good_set {lent} {kept} {r} long running j e =
    let (f, is) = judged_good r e in
    let in_memory = (good_exactly (state_from lent).set r j.answer f).0 is in
    let keeps = j.keeps f is in
    record {
      long = long;
      not_stopped = sym running;
      some_tasks = in_memory.some_tasks;
      n_tasks = keeps.n_tasks ∙ memory_many (state_from lent).set (room lent in_memory.few_tasks);
      keeps = keeps;
    }

module _ (bytes : List ℕ) (d : State) (end : ℕ) where
  -- a stopped state stays so: 23
  pub stays_stopped : true ≡ is_stopped d → refused (located bytes (refusal 23 0)) d ≡ go_on bytes d end
  unfolding go_on
  stays_stopped e = rw (← e, go_on)

  -- an impossible state: 25
  impossible : false ≡ is_stopped d → possible d ≡ false → refused (located bytes (refusal 25 0)) stopped ≡ go_on bytes d end
  unfolding go_on
  impossible s e = rw (← s, e, go_on)

  -- so is one whose set is refused
  pub impossible_set : {r : Result Figures Refusal} → false ≡ is_stopped d → r ≡ judge_set d.set → true ≡ is_err r →
      refused (located bytes (refusal 25 0)) stopped ≡ go_on bytes d end
  unfolding judge_set
  impossible_set {r} s j e =
      by_option (memory_fault d.set) (λ n. let good : r ≡ Ok (figures (set_of d)) = j ∙ rw n in clash (cc (ap is_err good))) (λ q n. impossible s (rw n))

-- a task that is told where a test passes
untold : (test : Bool) (t : Task) → None ≡ then_some test t → test ≡ false
untold true t e = clash (cc)
untold false t e = refl

told : (test : Bool) (t u : Task) → Some u ≡ then_some test t → (test ≡ true) × (u ≡ t)
told true t u e = (refl, cc)
told false t u e = clash (cc)

-- a state with a good set
module _ {lent : List ℕ} {kept : Kept} (g : WithGoodSet lent kept) where
  abbrev d : State
  d = state_from lent

  abbrev h : ℕ
  h = hyperperiod_in kept

  -- there are at most sixteen tasks
  pub few_tasks : (state_from lent).set.n ≤ limits.tasks
  few_tasks = omega (arith, g.n_tasks, g.keeps.few)

  -- h is the hyperperiod
  cycle_is : h ≡ hyperperiod (set_of d)
  cycle_is = (set_good (set_of d) h g.keeps.good).1

  -- the state is possible where the next job numbers and the running job are
  tested : possible d ≡ both (counts lent kept) (running_possible (set_of d) d)
  tested =
      let few : few_enough d.set.n ≡ true =
      both_in _ _ (le-leb 1 d.set.n g.some_tasks) (le-leb d.set.n limits.tasks few_tasks) in
      rw (few, (set_good (set_of d) h g.keeps.good).0, ← cycle_is)

  -- a next job number that is above its task's jobs, or a running job that is impossible: 25
  pub too_many : {releases : List ℕ} → Measured lent kept false releases → (bytes : List ℕ) (end : ℕ) →
      refused (located bytes (refusal 25 0)) stopped ≡ go_on bytes d end
  too_many m bytes end = impossible bytes d end (sym g.not_stopped) (tested ∙ fails_first (counts lent kept) _ (sym m.told))

  pub no_such_job : None ≡ running_task d → (bytes : List ℕ) (end : ℕ) → refused (located bytes (refusal 25 0)) stopped ≡ go_on bytes d end
  no_such_job e bytes end = impossible bytes d end (sym g.not_stopped) (tested ∙ fails_later (counts lent kept) _ (untold _ _ e))

  -- else it is possible
  module _ {releases : List ℕ} (m : Measured lent kept true releases) {t : Task} (runs : Some t ≡ running_task d) where
    possible_here : possible d ≡ true
    possible_here = tested ∙ both_in _ _ (sym m.told) (told _ _ t runs).0

    its_task : t ≡ task (set_of d) d.running.task
    its_task = (told (running_possible (set_of d) d) _ t runs).1

    -- and the running job leaves the processor free by the end of the cycle
    pub free_by_end : d.running.start + t.time ≤ h
    free_by_end =
        let p : PossibleState d = is_possible d possible_here in
        let many : length (set_of d).tasks ≡ d.set.n = memory_many d.set (room lent few_tasks) in
        let same : p.h ≡ h = (set_good (set_of d) p.h p.good_set).1 ∙ sym cycle_is in
        let count = p.counts d.running.task (omega (arith, p.a_task, many)) in
        let by-due = due_in_cycle p.h d.running.job (task (set_of d) d.running.task) (good_rules p.good_set d.running.task) (omega (arith, count, p.last_started)) in
        omega (arith, by-due, p.in_time, same, ap (λ (u : Task). u.time) its_task)

    pub can_go_on : CanGoOn lent kept releases (d.running.start + t.time)
    can_go_on = record {
      possible = is_possible d possible_here;
      starts = record { long = g.long; n_tasks = g.n_tasks; stands = record { fits = m.fits refl; by_end = free_by_end } };
      free_from = ap (λ (u : Task). d.running.start + u.time) its_task;
    }

    -- with a reported end
    module _ (bytes : List ℕ) (end : ℕ) where
      -- an end before the job's start: 21
      pub too_early : end < d.cycle * h + d.running.start → refused (located bytes (refusal 21 0)) d ≡ go_on bytes d end
      unfolding go_on
      too_early l = rw (g.not_stopped, possible_here, lt-ltb end (began d) (rw (← cycle_is) l), go_on)

      module _ (not_early : d.cycle * h + d.running.start ≤ end) where
        -- an end after start + C: 22
        pub too_late : d.cycle * h + d.running.start + t.time < end → refused (located bytes (refusal 22 0)) stopped ≡ go_on bytes d end
        unfolding go_on
        too_late l =
            rw (
              g.not_stopped,
              possible_here,
              le-ltb end (began d) (rw (← cycle_is) not_early),
              lt-ltb (latest_end d) end (rw (← cycle_is, ← its_task) l),
              go_on,
            )

        -- else the next turn
        pub goes_on : end ≤ d.cycle * h + d.running.start + t.time → next_turn bytes d ≡ go_on bytes d end
        unfolding go_on
        goes_on l =
            rw (
              g.not_stopped,
              possible_here,
              le-ltb end (began d) (rw (← cycle_is) not_early),
              le-ltb (latest_end d) end (rw (← cycle_is, ← its_task) l),
              go_on,
            )

-- whether all jobs of a cycle have started, by the releases of the next ones
module _ {ts : Set} {kept : Kept} {at : Standing} (fits : Fits ts kept at) where
  -- one is before the end of the cycle
  one_left : (i : ℕ) → i < tasks_in kept → slot (releases_in at) i < hyperperiod_in kept → false ≡ all_started (hyperperiod_in kept) ts.tasks (next_in at)
  one_left i l before = sym (left_not_all (hyperperiod_in kept) ts.tasks (next_in at) i (omega (arith, fits.set.n_tasks)) (left_before fits i l before))

  -- or none is
  none_left : ((i : ℕ) → i < tasks_in kept → hyperperiod_in kept ≤ slot (releases_in at) i) → true ≡ all_started (hyperperiod_in kept) ts.tasks (next_in at)
  none_left past =
      let h = hyperperiod_in kept in
      let x = next_in at in
      sym
      (all_have_started h ts.tasks x
      (λ i l.
      by_le (jobs h (task ts i)) (slot x i) (λ done. done)
      (λ left.
      let a_task : i < tasks_in kept = omega (arith, fits.set.n_tasks) in
      absurd
      (omega (
        arith,
        past i a_task,
        released_in_cycle h (task ts i) (slot x i) (good_rules fits.set.good i) left,
        fits.releases_there i a_task,
      )))))

  -- as a scan for one tells
  module _ (room : tasks_in kept ≤ length (releases_in at)) where
    abbrev before : ℕ
    before = passed (tasks_in kept) (hyperperiod_in kept) (releases_in at) room

    scanned : (o : Option ℕ) (test : Bool) → MatchOption o (before ≡ tasks_in kept) (λ i. (i < tasks_in kept) × (i ≡ before)) → is_some o ≡ not test →
        test ≡ all_started (hyperperiod_in kept) ts.tasks (next_in at)
    scanned None true all e = none_left (λ k l. none_before (tasks_in kept) (hyperperiod_in kept) (releases_in at) room k (omega (arith, all)))
    scanned None false all e = clash (cc)
    scanned (Some i) true m e = clash (cc)
    scanned (Some i) false (l, here) e =
        one_left i l (rw here (found_below (tasks_in kept) (hyperperiod_in kept) (releases_in at) room (omega (arith, l, here))))

    pub by_scan : (test : Bool) → is_some (position (λ r. nat_lt r (hyperperiod_in kept)) (take (tasks_in kept) (releases_in at))) ≡ not test →
        test ≡ all_started (hyperperiod_in kept) ts.tasks (next_in at)
    by_scan test = scanned _ test (first_told (tasks_in kept) (hyperperiod_in kept) (releases_in at) room)

-- a start makes the same of a state as its next cycle begins and of the state before: it keeps the set and the first offsets alone
begun_alike : (bytes : List ℕ) (d : State) (n : ℕ) (x : NextStart) →
    started bytes (in_next_cycle d n) (suc d.cycle) (at_cycle_start d) x ≡ started bytes d (suc d.cycle) (at_cycle_start d) x
begun_alike bytes d n (next_is i t o) = refl
begun_alike bytes d n (stuck number) = refl

-- a state in which nothing has started in its cycle, with each job 0 released at its task's offset
pub at_start : {lent : List ℕ} {kept : Kept} → length lent ≡ number_count → tasks_in kept ≡ (state_from lent).set.n →
    Keeps (set_of (state_from lent)) kept → ((i : ℕ) → i < tasks_in kept → slot (state_from lent).next i ≡ 0) → CanStart lent kept (first_in kept) 0
at_start long n_tasks keeps none = record {
  long = long;
  n_tasks = n_tasks;
  stands = record {
    fits = record {
      set = keeps;
      counts = λ i l. omega (arith, none i l);
      releases_there = λ i l. rw (none i l) (keeps.first_there i l ∙ omega arith);
    };
    by_end = omega arith;
  };
}

-- a state's numbers with what is kept of its set and of its next jobs
module _ {lent : List ℕ} {kept : Kept} {releases : List ℕ} {free : ℕ} (c : CanGoOn lent kept releases free) where
  abbrev here : State
  here = state_from lent

  -- what the first start of the next cycle is made from
  pub next_cycle : {after : List ℕ} → length after ≡ number_count → state_from after ≡ in_next_cycle here (tasks_in kept) →
      CanStart after kept (first_in kept) 0
  next_cycle {after} long is =
      let next_is : (state_from after).next ≡ front (tasks_in kept) [] here.next = ap (λ (d : State). d.next) is in
      at_start long (c.starts.n_tasks ∙ sym (ap (λ (d : State). d.set.n) is)) (rw (ap set_of is) c.starts.stands.fits.set)
      (λ i l. rw (next_is, slot_front (tasks_in kept) [] here.next i l, slot_empty i))

  -- the next turn, by whether all jobs of the cycle have started
  module _ (bytes : List ℕ) where
    as_tested : (test : Bool) → AllStarted kept releases test → all_started (hyperperiod (set_of here)) (set_of here).tasks here.next ≡ test
    as_tested test is =
        rw (← (set_good (set_of here) (hyperperiod_in kept) c.starts.stands.fits.set.good).1)
        (sym (is (set_of here) (stands_at here releases) c.starts.stands.fits refl))

    -- they have not: the next job of this cycle
    pub in_this_cycle : AllStarted kept releases false → start_from bytes here free ≡ next_turn bytes here
    in_this_cycle left = rw (as_tested false left, c.free_from, next_turn)

    module _ (all : AllStarted kept releases true) where
      -- they have: the first job of the next cycle
      pub in_the_next : {after : State} → here.cycle < last_cycle → after ≡ in_next_cycle here (tasks_in kept) →
          start_from bytes after 0 ≡ next_turn bytes here
      in_the_next l e =
          ap (λ (d : State). start_from bytes d 0) (e ∙ ap (in_next_cycle here) c.starts.n_tasks)
          ∙ begun_alike bytes here here.set.n (next_start (setting (set_of here)) (lent_by bytes (set_of here)) (at_cycle_start here))
          ∙ rw (as_tested true all, lt-ltb here.cycle last_cycle l, next_turn)

      -- and there is no next cycle: 24
      pub after_last_cycle : last_cycle ≤ here.cycle → refused (located bytes (refusal 24 0)) here ≡ next_turn bytes here
      after_last_cycle l = rw (as_tested true all, le-ltb here.cycle last_cycle l, next_turn)
