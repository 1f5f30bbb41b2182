-- The order of the dispatcher's refusals and the state that each leaves: document 01, "The dispatcher". Each condition is a predicate of its own.
-- Assumes nothing.
use Rattle.std.specs.Prelude.{◌≡◌, List, [], ◌∷◌, ℕ, suc, ◌+◌, ◌≤◌, ◌<◌, length, Result, Ok, Err}
use Rattle.std.proofs.Math.Option.{Option, none, some}
use Rattle.rules.specs.declared.Idle.{Idle}
use Rattle.rules.specs.declared.Inversion.{Inversion}
use Rattle.rules.specs.declared.Refusal.{Refusal}
use Rattle.rules.specs.declared.Dispatcher.{Dispatcher as State}
use Rattle.rules.specs.declared.Located.{Located}
use Rattle.rules.specs.declared.Start.{Start}
use Rattle.rules.specs.Refusals.{Test, test}
use Rattle.rules.specs.Tasks.{Set, limits, task, release, due, jobs, hyperperiod, GoodSet}
use Rattle.rules.specs.Priority.{slot}
use Rattle.rules.specs.Decision.{Choice, idle_for, start_task}
use Rattle.rules.specs.DecisionRule.{NextInstant, Decides, TooLate}
use Rattle.rules.specs.Located.{bare}
use Rattle.rules.specs.Offsets.{unreadable, shows, Source, Standing, lent}
use Rattle.rules.specs.Dispatcher.{numbers, stopped, set_of, began, latest_end, last_cycle, after_running, at_cycle_start}

-- 23: every number is 0
abbrev pub Stopped : State → Type 0
Stopped s = (j : ℕ) → slot (numbers s) j ≡ 0

-- 25 for the state: where one of these does not hold
pub record PossibleState (s : State) : Type 0 where
  pub some_tasks : 1 ≤ s.set.n
  pub few_tasks : s.set.n ≤ limits.tasks
  pub h : ℕ
  pub good_set : GoodSet (set_of s) h
  pub counts : (i : ℕ) → i < length (set_of s).tasks → slot s.next i ≤ jobs h (task (set_of s) i)
  pub a_task : s.running.task < s.set.n
  pub last_started : slot s.next s.running.task ≡ suc s.running.job
  pub released : release (task (set_of s) s.running.task) s.running.job ≤ s.running.start
  pub in_time : s.running.start + (task (set_of s) s.running.task).time ≤ due (task (set_of s) s.running.task) s.running.job

-- all jobs of the cycle have started
pub record CycleDone (s : State) : Type 0 where
  pub h : ℕ
  pub good_set : GoodSet (set_of s) h
  pub done : (i : ℕ) → i < length (set_of s).tasks → jobs h (task (set_of s) i) ≤ slot s.next i

-- the decision by the records that offsets show: the first unused idle record at the ID offset, a task's inversion record at the task's
abbrev pub DecidesAt : Set → ℕ → Source → Standing (List ℕ) → ℕ → Choice → Type 0
DecidesAt ts h S a t c =
    Decides ts h (λ (r : Idle). (after : ℕ) × (S.idle_shown a.idle ≡ shows r after))
    (λ (r : Inversion). (after : ℕ) × (S.inversion_shown (slot a.offsets r.task) ≡ shows r after)) a.next t c

-- 25 for bytes: a decision meets an offset that shows nothing that may stand there, or a job that is too late, at once or after idling
module _ (ts : Set) (h : ℕ) (S : Source) where
  -- nothing that may stand there: at the ID offset, or at that of a task below n
  pub data Unreadable (a : Standing (List ℕ)) : Type 0 where
    at_idle : S.idle_shown a.idle ≡ unreadable → Unreadable a
    at_task : {i : ℕ} → i < length ts.tasks → S.inversion_shown (slot a.offsets i) ≡ unreadable → Unreadable a

  -- what is decided next, and at which instant: all current offsets are read at every decision
  pub record DecidesFrom (a : Standing (List ℕ)) (t : ℕ) (c : Choice) : Type 0 where
    pub all_read : Unreadable a → ⊥
    pub at_instant : NextInstant ts h a.next a.free t
    pub decides : DecidesAt ts h S a t c

  -- a used ID moves its offset to the record after it
  pub data StuckAt : Standing (List ℕ) → Type 0 where
    unreadable_record : {a : Standing (List ℕ)} → Unreadable a → StuckAt a
    late_job : {a : Standing (List ℕ)} {t i : ℕ} → DecidesFrom a t (start_task i) → TooLate ts a.next i t → StuckAt a
    after_idle : {a : Standing (List ℕ)} {t after : ℕ} {r : Idle} → S.idle_shown a.idle ≡ shows r after → DecidesFrom a t (idle_for r.length) →
        StuckAt (record { next = a.next; free = t + r.length; offsets = a.offsets; idle = after }) → StuckAt a

-- the search for the next start is stuck: in the next cycle from its start on, in the same cycle from the running job's start + C
pub data StuckNext (bytes : List ℕ) (s : State) : Type 0 where
  next_cycle : CycleDone s → StuckAt (set_of s) (hyperperiod (set_of s)) (lent bytes (set_of s)) (at_cycle_start s) → StuckNext bytes s
  same_cycle : (CycleDone s → ⊥) → StuckAt (set_of s) (hyperperiod (set_of s)) (lent bytes (set_of s)) (after_running s) → StuckNext bytes s

-- the tests of going on, in the document's order
abbrev pub going_tests : List ℕ → State → ℕ → List Test
going_tests bytes s end =
    test 23 0 (Stopped s)
    ∷ test 25 0 (PossibleState s → ⊥)
    ∷ test 21 0 (end < began s)
    ∷ test 22 0 (latest_end s < end)
    ∷ test 24 0 (CycleDone s × (last_cycle ≤ s.cycle))
    ∷ test 25 0 (StuckNext bytes s)
    ∷ []

-- the refusal of a start answer, if it is one
abbrev pub start_refusal : Result Start Located → Option Refusal
start_refusal (Ok s) = none
start_refusal (Err r) = some (bare r)

-- the state that each refusal of going on leaves
pub data Leaves (s : State) : ℕ → State → Type 0 where
  end_before_start : Leaves s 21 s
  end_too_late : Leaves s 22 stopped
  was_stopped : Leaves s 23 s
  all_done : Leaves s 24 s
  impossible : Leaves s 25 stopped
