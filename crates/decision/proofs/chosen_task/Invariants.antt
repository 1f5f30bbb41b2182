-- `decision::chosen_task` meets its contract. The invariant: what is left of the mask are waiting tasks, with every one that has a record for this
-- instant. The measure: the bits from the lowest that is left on. Assumes nothing.
use Rattle.std.proofs.Common.{◌-◌}
use Rattle.std.specs.Int.Count.{count_trailing_zeros}
use Rattle.rules.specs.Tasks.{Set}
use Rattle.sets.specs.declared.Kept.{Kept}
use Rattle.decision.specs.Next.{Choosing}
use Rattle.decision.proofs.Looking.{Left}
use Rattle.decision.proofs.chosen_task.Given as goal

abbrev pub invariant-tasks : goal.invariant-tasks
invariant-tasks l = (ts : Set) (kept : Kept) → Choosing ts l.image kept l.at l.t l.mask → Left ts l.image kept l.at l.t l.left

abbrev pub decreases-tasks : goal.decreases-tasks
decreases-tasks l = 16 - count_trailing_zeros 16 l.left
