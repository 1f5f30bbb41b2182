-- `records::first_offsets` meets its contract. Assumes nothing.
use Rattle.std.proofs.Common.{◌<◌, refl, arith, rules}
use Rattle.rules.proofs.Arrays.{slot_zeros}
use Rattle.records.proofs.OffsetsTold.{told_none_yet, told_up_to, told_already, told_all, task_here}
use Rattle.records.proofs.first_offsets.Goals as goal
use Rattle.records.proofs.first_offsets.Goals.{else-filled-to, then-filled-to}

pub loop-j-init : goal.loop-j-init
loop-j-init c = told_none_yet _ _ _ _ _ refl (slot_zeros 16)

pub fill-requires-clause-few : goal.fill-requires-clause-few
fill-requires-clause-few c =
    omega (arith, task_here c.loop-j.invariant (omega arith) c.loop-j-test.true c.inversion_at-r.result (search rules) c.requires.tasks, c.requires.few)

pub loop-j-preserved : goal.loop-j-preserved
loop-j-preserved c =
    let r = c.inversion_at-r.result in
    let few : r.task < c.args.n = task_here c.loop-j.invariant (omega arith) c.loop-j-test.true r (search rules) c.requires.tasks in
    elim c.if-filled-to.branch [
      | then-filled-to w ↦ rw (w.offsets-is, w.filled-is)
          (told_up_to c.loop-j.invariant (omega arith) _ (search rules) _ _ w.fill.ensures r (search rules) refl w.if-filled-to.true (omega arith))
      | else-filled-to w ↦ rw (w.offsets-is, w.filled-is) (told_already c.loop-j.invariant (omega arith) r (search rules) w.if-filled-to.false)
    ]

pub returns : goal.returns
returns c = λ ts e. told_all c.loop-j.invariant (omega arith) (omega arith) c.requires.few _ (search rules) _ c.fill-2.ensures ts e _ c.head_length-2.ensures
