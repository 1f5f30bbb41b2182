-- The first fault of a set's tasks, found in one scan. Assumes nothing.
use mathlib.Core.Path.{◌≡◌, refl, ◌∙◌}
use mathlib.Core.Bool.{true, false}
use mathlib.Core.List.{List}
use mathlib.Core.Option.{Option, none, some}
use Prim.Native.Nat.{ℕ, suc, ◌+◌, ◌≤◌, ◌<◌}
use native.Mathlib.Omega.{arith}
use native.Mathlib.Numerals.{add-one}
use borrow.Author.Tests.{le-leb, lt-leb}
use lib.ListN.{length, take, drop}
use Rattle.std.specs.Prelude.{Ok, Err}
use Rattle.rules.specs.declared.Task.{Task}
use Rattle.rules.specs.declared.Refusal.{Refusal}
use Rattle.rules.specs.Refusals.{refusal}
use Rattle.rules.specs.Tasks.{set_with, task_in, KeepsItsRule, keeps_its_rule, tasks_fault, period_falls}
use Rattle.rules.proofs.Cases.{by_option}
use Rattle.rules.proofs.FirstTests.{none_holds}
use Rattle.rules.proofs.GoodSets.{tasks_order, tasks_keep}
use Rattle.sets.specs.Sets.{fault_answer}
use Rattle.sets.proofs.Slots.{slot, none_left, one_off}

-- the first fault of the first n tasks is that of those from place i on, where before is the period of the one before
pub record FaultsFrom (slots : List Task) (n i before : ℕ) : Type 0 where
  pub room : n ≤ length slots
  pub same : tasks_fault 1 0 (take n slots) ≡ tasks_fault (suc i) before (drop i (take n slots))

-- so at the first task
pub faults_start : (slots : List Task) (n : ℕ) → n ≤ length slots → FaultsFrom slots n 0 0
faults_start slots n room = record { room = room; same = refl }

module _ {slots : List Task} {n i before : ℕ} (f : FaultsFrom slots n i before) where
  -- there is none where no task is left
  pub faults_end : n ≤ i → tasks_fault 1 0 (take n slots) ≡ none
  faults_end l = f.same ∙ rw (none_left slots n i l)

  module _ (l : i < n) (t : Task) (here : t ≡ slot slots i) where
    -- a task that breaks its own rule
    pub own_fault : false ≡ keeps_its_rule t → tasks_fault 1 0 (take n slots) ≡ some (refusal 6 (i + 1))
    own_fault b = f.same ∙ rw (one_off slots n i f.room t l here, ← b, add-one)

    -- a task whose period is below the one before
    pub period_fault : true ≡ keeps_its_rule t → t.period < before → tasks_fault 1 0 (take n slots) ≡ some (refusal 7 (i + 1))
    period_fault b below = f.same ∙ rw (one_off slots n i f.room t l here, ← b, lt-leb before t.period below, add-one)

    -- a task without a fault is passed
    pub faults_on : true ≡ keeps_its_rule t → before ≤ t.period → FaultsFrom slots n (i + 1) t.period
    faults_on b rises = record {
      room = f.room;
      same = f.same ∙ rw (one_off slots n i f.room t l here, ← b, le-leb before t.period rises, add-one);
    }

-- of tasks without a fault each keeps its own rule
module _ (ts : List Task) (no_fault : tasks_fault 1 0 ts ≡ none) (i : ℕ) where
  keep_all : i < length ts → KeepsItsRule (task_in ts i) × (period_falls (set_with ts) i → ⊥)
  keep_all l = tasks_keep (set_with ts) (none_holds (tasks_order (set_with ts) 0 (length ts) (omega arith)) no_fault) i l

  pub own_rules : i < length ts → KeepsItsRule (task_in ts i)
  own_rules l = (keep_all l).0

-- and no period is below the one before
pub periods_rise : (ts : List Task) → tasks_fault 1 0 ts ≡ none → (i : ℕ) → suc i < length ts → (task_in ts i).period ≤ (task_in ts (suc i)).period
periods_rise ts no_fault i l = omega (arith, (keep_all ts no_fault (suc i) l).1)

module _ (o : Option Refusal) where
  -- the answer that is no fault
  pub told_none : Ok tt ≡ fault_answer o → o ≡ none
  told_none e = by_option o (λ z. z) (λ r z. cc)

  -- the answer that is one
  pub told_fault : (r : Refusal) → Err r ≡ fault_answer o → o ≡ some r
  told_fault r e = by_option o (λ z. cc) (λ q z. cc)
