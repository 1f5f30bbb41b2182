-- What is kept of a good set, as it is read from its rows: what stands in a task's slots, that no sum of it is large, and that it tells the set.
-- Assumes nothing.
use mathlib.Core.Path.{◌≡◌, sym, ◌∙◌, ap}
use Prim.Native.Nat.{ℕ, ◌+◌, ◌-◌, ◌≤◌, ◌<◌}
use native.Mathlib.Omega.{arith}
use native.Mathlib.Nat.{le_of_dvd}
use lib.ListN.{get_or}
use lib.Seq.{ext_get_or}
use Rattle.rules.specs.Tasks.{Set, set_with, no_task, largest_number, task, jobs, hyperperiod, GoodSet}
use Rattle.rules.proofs.Arrays.{slot_element}
use Rattle.rules.proofs.GoodSets.{good_set, set_good, good_rules, good_positive}
use Rattle.sets.specs.declared.Kept.{Kept}
use Rattle.sets.specs.Kept.{tasks_in, hyperperiod_in, jobs_in, slack_in, times_in, periods_in, first_in, Keeps}

module _ {ts : Set} {kept : Kept} (keeps : Keeps ts kept) where
  -- the hyperperiod that is kept is the one worked out
  pub kept_cycle : hyperperiod_in kept ≡ hyperperiod ts
  kept_cycle = (set_good ts (hyperperiod_in kept) keeps.good).1

  -- with which the set is good
  pub kept_good : GoodSet ts (hyperperiod ts)
  kept_good = good_set ts (set_good ts (hyperperiod_in kept) keeps.good).0

  module _ (i : ℕ) (l : i < tasks_in kept) where
    -- a task's slots hold its jobs a cycle, D − C, C, T and O
    pub jobs_kept : get_or (jobs_in kept) i 0 ≡ jobs (hyperperiod_in kept) (task ts i)
    jobs_kept = sym (slot_element (jobs_in kept) i) ∙ keeps.jobs_there i l

    pub slack_kept : get_or (slack_in kept) i 0 ≡ (task ts i).deadline - (task ts i).time
    slack_kept = sym (slot_element (slack_in kept) i) ∙ keeps.slack_there i l

    pub time_kept : get_or (times_in kept) i 0 ≡ (task ts i).time
    time_kept = sym (slot_element (times_in kept) i) ∙ keeps.times_there i l

    pub period_kept : get_or (periods_in kept) i 0 ≡ (task ts i).period
    period_kept = sym (slot_element (periods_in kept) i) ∙ keeps.periods_there i l

    pub first_kept : get_or (first_in kept) i 0 ≡ (task ts i).offset
    first_kept = sym (slot_element (first_in kept) i) ∙ keeps.first_there i l

    -- a period is no longer than the cycle
    pub period_short : (task ts i).period ≤ hyperperiod_in kept
    period_short =
        let good = keeps.good in
        let divides = good.is_hyperperiod.common i (omega (arith, keeps.n_tasks)) in
        le_of_dvd {m = (task ts i).period} {n = hyperperiod_in kept} (good_positive good) divides

    -- the end of the cycle and D − C together fit 32 bits
    pub slack_short : hyperperiod_in kept + get_or (slack_in kept) i 0 ≤ largest_number
    slack_short = omega (arith, slack_kept, period_short, (good_rules keeps.good i).within, keeps.good.short)

-- what is kept of two sets is not the same
pub one_set : {ts us : Set} {kept : Kept} → Keeps ts kept → Keeps us kept → ts ≡ us
one_set {ts} {us} {kept} a b =
    ap set_with (ext_get_or no_task ts.tasks us.tasks (sym a.n_tasks ∙ b.n_tasks) (λ i l. one_task i (omega (arith, a.n_tasks))))
  where
    one_task : (i : ℕ) → i < tasks_in kept → task ts i ≡ task us i
    one_task i l =
        let offset = sym (first_kept a i l) ∙ first_kept b i l in
        let time = sym (time_kept a i l) ∙ time_kept b i l in
        let period = sym (period_kept a i l) ∙ period_kept b i l in
        let deadline : (task ts i).deadline ≡ (task us i).deadline =
        omega (arith, slack_kept a i l, slack_kept b i l, (good_rules a.good i).fits, (good_rules b.good i).fits) in
        λ k. record { offset = offset k; time = time k; period = period k; deadline = deadline k }
