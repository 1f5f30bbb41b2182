-- `spare::last_deadlines` meets its contract. The invariant: the slots passed are filled. Assumes nothing.
use mathlib.Core.Path.{ap}
use Prim.Native.Nat.{ℕ, ◌+◌, ◌-◌}
use native.Mathlib.Omega.{arith}
use lib.ListN.{get_or}
use Rattle.sets.specs.Kept.{hyperperiod_in, periods_in, first_in}
use Rattle.sets.proofs.Arrays.{filled_more}
use Rattle.spare.proofs.Taking.{period_inside, last_short}
use Rattle.spare.proofs.last_deadlines.Goals as goal

pub overflow_sub-dues : goal.overflow_sub-dues
overflow_sub-dues c = period_inside c.requires.1 c.loop-i.i c.loop-i-test.true

pub overflow_add-dues : goal.overflow_add-dues
overflow_add-dues c = omega (arith, last_short c.requires.1 c.loop-i.i c.loop-i-test.true)

pub overflow_add-dues-in-loop-i : goal.overflow_add-dues-in-loop-i
overflow_add-dues-in-loop-i c = omega (arith, last_short c.requires.1 c.loop-i.i c.loop-i-test.true, c.relative_deadline.ensures)

pub loop-i-preserved : goal.loop-i-preserved
loop-i-preserved c =
    let kept = c.args.kept.now in
    let i = c.loop-i.i in
    filled_more c.loop-i.invariant _ (omega arith) (omega (arith, c.requires.1.few))
    (ap (λ (d : ℕ). hyperperiod_in kept - get_or (periods_in kept) i 0 + get_or (first_in kept) i 0 + d) c.relative_deadline.ensures)
