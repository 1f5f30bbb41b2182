-- `sets::all_jobs` meets its contract. The invariant: sum is the jobs of the tasks from i on, many those of a task with period after. Assumes nothing.
use mathlib.Core.Path.{◌≡◌, sym, ◌∙◌, ap}
use Prim.Native.Nat.{ℕ, ◌/◌, ◌-◌, ◌+◌}
use native.Mathlib.Omega.{arith}
use Rattle.rules.specs.Tasks.{jobs}
use Rattle.numbers.specs.Numbers.{set_from}
use Rattle.numbers.proofs.SetNumbers.{sixteen_tasks, task_in}
use Rattle.sets.proofs.Slots.{no_slot}
use Rattle.sets.proofs.Cycles.{JobsFrom, jobs_start, jobs_more}
use Rattle.sets.proofs.all_jobs.Goals as goal
use Rattle.sets.proofs.all_jobs.Goals.{Joined-t-after, else-t-after, then-t-after}

pub loop-i-init : goal.loop-i-init
loop-i-init c =
    let a = c.args in
    jobs_start a.h (set_from a.n a.numbers.now a.at).tasks a.n (omega (arith, sixteen_tasks a.n a.numbers.now a.at)) (omega arith)

-- the task's own jobs are added
more : (c : Joined-t-after) → let a = c.args in
    JobsFrom a.h (set_from a.n a.numbers.now a.at).tasks a.n (c.loop-i.i - 1) (c.loop-i.sum + c.if-t-after.many) c.if-t-after.after c.if-t-after.many
more c =
    let a = c.args in
    let here = c.task_from-t.ensures ∙ task_in a.n a.numbers.now a.at no_slot (c.loop-i.i - 1) (omega arith) in
    let counted : (c.if-t-after.after ≡ c.task_from-t.result.period) × (c.if-t-after.many ≡ jobs a.h c.task_from-t.result) =
    elim c.if-t-after.branch [
      | then-t-after w ↦ (w.after-is, w.many-is ∙ w.jobs-many.ensures)
      | else-t-after w ↦ (w.after-is ∙ sym w.if-t-after.false, w.many-is ∙ c.loop-i.invariant.each ∙ ap (λ (k : ℕ). a.h / k) (sym w.if-t-after.false))
    ] in
    jobs_more c.loop-i.invariant (omega arith) (omega arith) (omega arith) _ here _ _ counted.0 counted.1

pub overflow_add-sum : goal.overflow_add-sum
overflow_add-sum c = omega (arith, (more (goal.at.overflow_add-sum c).Joined-t-after).leaves_room)

pub loop-i-preserved : goal.loop-i-preserved
loop-i-preserved c = more (goal.at.loop-i-preserved c).Joined-t-after
