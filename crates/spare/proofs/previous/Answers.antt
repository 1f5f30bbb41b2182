-- `spare::previous` meets its contract. Assumes nothing.
use native.Mathlib.Omega.{arith}
use Prim.Native.Nat.{◌<◌}
use Rattle.spare.proofs.Stepping.{over_interval, longest_inside}
use Rattle.spare.proofs.previous.Goals as goal

pub overflow_sub-w : goal.overflow_sub-w
overflow_sub-w c =
    let some : 0 < c.args.w.end =
    omega (arith, c.requires.more, c.if-w.false) in
    omega (arith, c.take_due-due.ensures.longest_is, longest_inside c.requires.walks.1 some)

pub returns : goal.returns
returns c =
    let some : 0 < c.args.w.end =
    omega (arith, c.requires.more, c.if-w.false) in
    λ ts W. over_interval W some c.take_due-due.ensures c.if-w.false _ _ c.latest-end.ensures c.max.ensures
