-- The own rules of ID and PV records, test by test. Assumes nothing.
use mathlib.Core.Path.{◌≡◌, sym, ◌∙◌}
use mathlib.Core.Bool.{true, false}
use Prim.Native.Nat.{ℕ, ◌+◌, ◌-◌, ◌≤◌, ◌<◌}
use native.Mathlib.Omega.{arith}
use native.Mathlib.Nat.{div-le_self}
use lib.Dec.{leb, ltb}
use lib.ListN.{length, get_or}
use borrow.Author.Tests.{lt-ltb, le-ltb, le-leb, lt-leb, ltb-true}
use Rattle.rules.specs.declared.Idle.{Idle}
use Rattle.rules.specs.declared.Inversion.{Inversion}
use Rattle.rules.specs.Tasks.{Set, task, jobs}
use Rattle.rules.specs.Judging.{idle_in_range, inversion_in_range}
use Rattle.rules.proofs.Cases.{by_le, both_true}
use Rattle.rules.proofs.Arrays.{slot_element}
use Rattle.sets.specs.declared.Kept.{Kept}
use Rattle.sets.specs.Kept.{tasks_in, hyperperiod_in, jobs_in, slack_in, Keeps}

module _ (h : ℕ) (r : Idle) where
  -- an ID without a length
  pub idle_empty : r.length < 1 → false ≡ idle_in_range h r
  idle_empty l = rw (lt-leb 1 r.length l)

  -- one that starts at or behind the end of the cycle
  pub idle_behind : 1 ≤ r.length → h ≤ r.start → false ≡ idle_in_range h r
  idle_behind l m = rw (le-leb 1 r.length l, le-ltb (r.start + r.length) h (omega arith))

  -- any other has to end before it
  pub idle_ends : 1 ≤ r.length → r.start < h → ltb r.length (h - r.start) ≡ idle_in_range h r
  idle_ends l m =
      rw (le-leb 1 r.length l)
      (by_le h (r.start + r.length)
      (λ q. le-ltb r.length (h - r.start) (omega arith) ∙ sym (le-ltb (r.start + r.length) h q))
      (λ q. lt-ltb r.length (h - r.start) (omega arith) ∙ sym (lt-ltb (r.start + r.length) h q)))

module _ {ts : Set} {kept : Kept} (s : Keeps ts kept) (r : Inversion) where
  -- the hyperperiod
  abbrev h : ℕ
  h = hyperperiod_in kept

  -- a PV of no task of the set
  pub task_out : tasks_in kept ≤ r.task → false ≡ inversion_in_range ts h r
  task_out l = rw (le-ltb r.task (length ts.tasks) (omega (arith, s.n_tasks)))

  module _ (l : r.task < tasks_in kept) where
    -- its task is one of the set's
    task_in : ltb r.task (length ts.tasks) ≡ true
    task_in = lt-ltb r.task (length ts.tasks) (omega (arith, s.n_tasks))

    -- the row has its task's jobs
    jobs_kept : get_or (jobs_in kept) r.task 0 ≡ jobs h (task ts r.task)
    jobs_kept = sym (slot_element (jobs_in kept) r.task) ∙ s.jobs_there r.task l

    -- a PV of a job that its task does not have
    pub job_out : get_or (jobs_in kept) r.task 0 ≤ r.job → false ≡ inversion_in_range ts h r
    job_out m = rw (task_in, le-ltb r.job (jobs h (task ts r.task)) (omega (arith, jobs_kept)))

    -- any other has to have a delay up to D − C
    pub delay_tested : r.job < get_or (jobs_in kept) r.task 0 → leb r.delay (get_or (slack_in kept) r.task 0) ≡ inversion_in_range ts h r
    delay_tested m =
        rw (task_in, lt-ltb r.job (jobs h (task ts r.task)) (omega (arith, jobs_kept)), ← slot_element (slack_in kept) r.task, s.slack_there r.task l)

  -- a job of a PV in its range can be counted on
  pub job_small : inversion_in_range ts h r ≡ true → r.job < 65536
  job_small e =
      let a = both_true (ltb r.task (length ts.tasks)) _ e in
      let b = both_true (ltb r.job (jobs h (task ts r.task))) _ a.1 in
      omega (arith, ltb-true r.job (jobs h (task ts r.task)) b.0, div-le_self h (task ts r.task).period, s.good.short)
