-- `spare::relative_deadline` meets its contract. Assumes nothing.
use native.Mathlib.Omega.{arith}
use Rattle.spare.proofs.Taking.{relative_short, period_inside}
use Rattle.spare.proofs.relative_deadline.Goals as goal

pub overflow_add-result : goal.overflow_add-result
overflow_add-result c =
    let keeps = c.requires.a_set.1 in
    omega (arith, relative_short keeps c.args.i c.requires.a_task, period_inside keeps c.args.i c.requires.a_task, keeps.good.short)
