-- `spare::take_due` meets its contract. The invariant: the jobs of the tasks passed are taken. Assumes nothing.
use mathlib.Core.Path.{◌∙◌, ap}
use Prim.Native.Nat.{max, ◌<◌}
use native.Mathlib.Omega.{arith}
use lib.ListN.{length}
use Rattle.spare.proofs.Taking.{time_short, work_small, taken_more, taken_skip}
use Rattle.spare.proofs.take_due.Goals as goal
use Rattle.spare.proofs.take_due.Goals.{else-dues-i, then-dues-i}

pub overflow_add-work : goal.overflow_add-work
overflow_add-work c =
    let keeps = c.requires.a_set.1 in
    let i = c.loop-i.i in
    omega (arith, c.loop-i.invariant.work_is, work_small keeps c.args.dues.now c.args.e i (omega arith), time_short keeps i (omega arith), keeps.few)

pub loop-i-preserved : goal.loop-i-preserved
loop-i-preserved c =
    let T = c.loop-i.invariant in
    let inside : c.loop-i.i < length c.args.dues.now = omega (arith, c.requires.a_set.1.few) in
    elim c.if-dues-i.branch [
      | then-dues-i w ↦ taken_more T inside w.if-dues-i.true w.work-is (w.longest-is ∙ w.max-longest.ensures ∙ ap (max c.loop-i.longest) w.relative_deadline.ensures)
          w.a_period_before.ensures w.dues-is
      | else-dues-i w ↦ rw (w.dues-is, w.work-is, w.longest-is) (taken_skip T inside w.if-dues-i.false)
    ]
