-- A state's numbers as they are lent: which of them are a task's, and which a next job number. Assumes nothing.
use mathlib.Core.Path.{◌≡◌, sym, ◌∙◌}
use mathlib.Core.List.{List}
use Prim.Native.Nat.{ℕ, ◌+◌, ◌*◌, ◌≤◌, ◌<◌}
use native.Mathlib.Omega.{arith}
use lib.ListN.{length}
use Rattle.rules.specs.declared.TaskSet.{TaskSet}
use Rattle.rules.specs.Tasks.{limits, task, no_task}
use Rattle.rules.specs.Priority.{slot}
use Rattle.rules.specs.Dispatcher.{numbers_a_task, set_of, next_position}
use Rattle.rules.proofs.Arrays.{slot_element, task_in_slot}
use Rattle.numbers.specs.Numbers.{number_at, task_from, state_from}
use Rattle.numbers.proofs.FilledSlots.{sixteen, in_slot}

module _ (lent : List ℕ) where
  -- a next job number
  pub next_lent : (i : ℕ) → i < limits.tasks → number_at lent (next_position + i) ≡ slot (state_from lent).next i
  next_lent i l = sym (slot_element (state_from lent).next i ∙ in_slot (λ (k : ℕ). number_at lent (next_position + k)) 0 i l)

  module _ (few : (state_from lent).set.n ≤ limits.tasks) where
    -- there are sixteen slots, of which the set has the first n
    pub room : (state_from lent).set.n ≤ length (state_from lent).set.tasks
    room = omega (arith, sixteen (λ (k : ℕ). task_from lent (1 + numbers_a_task * k)))

    -- a task of the set
    pub task_lent : (i : ℕ) → i < (state_from lent).set.n → task_from lent (1 + numbers_a_task * i) ≡ task (set_of (state_from lent)) i
    task_lent i l =
        let s : TaskSet = (state_from lent).set in
        sym (task_in_slot s i no_task room l ∙ in_slot (λ (k : ℕ). task_from lent (1 + numbers_a_task * k)) no_task i (omega arith))
