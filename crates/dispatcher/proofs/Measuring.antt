-- The releases of a state's next jobs, worked out task by task from what is kept of its set. Assumes nothing.
use mathlib.Core.Path.{◌≡◌, sym, ◌∙◌}
use mathlib.Core.Logic.{◌≢◌}
use mathlib.Core.Bool.{false}
use mathlib.Core.Bool.{true, false}
use mathlib.Core.List.{List}
use Prim.Native.Nat.{ℕ, ◌+◌, ◌*◌, ◌≤◌, ◌<◌}
use native.Mathlib.Omega.{arith}
use native.Mathlib.Nat.{div-mul-le_self, mul-le-mul_right}
use lib.ListN.{length, get_or, set, length-set}
use lib.Seq.{get_or-set_same, get_or-set_other}
use borrow.Author.Count.{below_more}
use Rattle.rules.specs.declared.Task.{Task}
use Rattle.rules.specs.Tasks.{limits, task, jobs, release}
use Rattle.rules.specs.Priority.{slot}
use Rattle.rules.specs.Dispatcher.{set_of, next_position}
use Rattle.rules.proofs.Cases.{by_bool, clash}
use Rattle.rules.proofs.Arrays.{slot_element}
use Rattle.rules.proofs.GoodSets.{good_rules}
use Rattle.rules.proofs.PossibleStates.{counts_say, say_counts}
use Rattle.numbers.specs.Numbers.{number_at, state_from}
use Rattle.sets.specs.declared.Kept.{Kept}
use Rattle.sets.specs.Kept.{tasks_in, hyperperiod_in, jobs_in, periods_in, first_in}
use Rattle.sets.proofs.SetKept.{jobs_kept, period_kept, first_kept, period_short}
use Rattle.dispatcher.specs.States.{CanMeasure, counts, Measured}
use Rattle.dispatcher.proofs.Lent.{next_lent}

-- what was worked out of the first i tasks
pub record SoFar (lent : List ℕ) (kept : Kept) (releases : List ℕ) (i : ℕ) : Type 0 where
  pub slots : length releases ≡ limits.tasks
  pub counts : (k : ℕ) → k < i → slot (state_from lent).next k ≤ jobs (hyperperiod_in kept) (task (set_of (state_from lent)) k)
  pub filled : (k : ℕ) → k < i → get_or releases k 0 ≡ release (task (set_of (state_from lent)) k) (slot (state_from lent).next k)

module _ {lent : List ℕ} {kept : Kept} {before : List ℕ} (m : CanMeasure lent kept before) where
  -- the hyperperiod, a task of the set, and the number of its next job
  abbrev h : ℕ
  h = hyperperiod_in kept

  abbrev at : ℕ → Task
  at i = task (set_of (state_from lent)) i

  abbrev next : ℕ → ℕ
  next i = slot (state_from lent).next i

  module _ (i : ℕ) (l : i < tasks_in kept) where
    -- the next job number that is read
    next_here : number_at lent (next_position + i) ≡ slot (state_from lent).next i
    next_here = next_lent lent i (omega (arith, m.keeps.few))

    -- the parts of its next job's release are at most a cycle each, where the job's number is at most its jobs
    pub release_here : number_at lent (next_position + i) ≤ get_or (jobs_in kept) i 0 →
        (number_at lent (next_position + i) * get_or (periods_in kept) i 0 ≤ 65535) × (get_or (first_in kept) i 0 ≤ 65535)
    release_here few =
        let good = m.keeps.good in
        let possible : next i ≤ jobs h (at i) = omega (arith, few, next_here, jobs_kept m.keeps i l) in (
          rw (next_here, period_kept m.keeps i l) (omega (arith, mul-le-mul_right (at i).period possible, div-mul-le_self h (at i).period, good.short)),
          omega (arith, first_kept m.keeps i l, period_short m.keeps i l, (good_rules good i).within, good.short),
        )

    -- and together they are it
    pub released_here : get_or (first_in kept) i 0 + number_at lent (next_position + i) * get_or (periods_in kept) i 0
        ≡ release (task (set_of (state_from lent)) i) (slot (state_from lent).next i)
    released_here = rw (next_here, period_kept m.keeps i l, first_kept m.keeps i l)

    -- a next job number is above its task's jobs
    pub too_many_here : {releases : List ℕ} → get_or (jobs_in kept) i 0 < number_at lent (next_position + i) → Measured lent kept false releases
    too_many_here above =
        let d = state_from lent in
        record {
          told = by_bool (counts lent kept)
              (λ e. absurd (omega (arith, counts_say h (set_of d).tasks d.next e i (omega (arith, m.keeps.n_tasks)), next_here, jobs_kept m.keeps i l))) sym;
          fits = λ e. clash (cc);
        }

  module _ {releases : List ℕ} {i : ℕ} (f : SoFar lent kept releases i) where
    -- one task more
    pub more_so_far : i < tasks_in kept → number_at lent (next_position + i) ≤ get_or (jobs_in kept) i 0 →
        SoFar lent kept (set releases i (get_or (first_in kept) i 0 + number_at lent (next_position + i) * get_or (periods_in kept) i 0)) (i + 1)
    more_so_far l few = record {
      slots = length-set releases i _ ∙ f.slots;
      counts = below_more _ _ f.counts (omega (arith, next_here i l, jobs_kept m.keeps i l));
      filled = below_more _ _ (λ k b. let other : k ≢ i = omega arith in rw get_or-set_other (f.filled k b))
          (let inside : i < length releases = omega (arith, m.keeps.few) in rw get_or-set_same (released_here i l));
    }

    -- with all tasks worked out the next job numbers are possible, and the rows fit them
    pub all_so_far : tasks_in kept ≤ i → Measured lent kept true releases
    all_so_far past =
        let d = state_from lent in
        record {
          told = sym (say_counts h (set_of d).tasks d.next (λ k l. f.counts k (omega (arith, m.keeps.n_tasks))));
          fits = λ _. record {
            set = m.keeps;
            counts = λ k l. f.counts k (omega arith);
            releases_there = λ k l. slot_element releases k ∙ f.filled k (omega arith);
          };
        }
