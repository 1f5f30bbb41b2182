-- `sets::common_divisor` meets its contract. The invariant: the greatest common divisor of a and b is that of the two numbers. Assumes nothing.
use mathlib.Core.Path.{◌≡◌}
use native.Mathlib.Omega.{arith}
use native.Mathlib.Nat.{mod-lt}
use Rattle.sets.proofs.Multiples.{with_zero, by_remainder}
use Rattle.sets.proofs.common_divisor.Goals as goal

pub loop-b-init : goal.loop-b-init
loop-b-init c = λ d g. g

pub loop-b-smaller : goal.loop-b-smaller
loop-b-smaller c = mod-lt c.loop-b.a {m = c.loop-b.b} (omega arith)

pub loop-b-preserved : goal.loop-b-preserved
loop-b-preserved c = λ d g. c.loop-b.invariant d (by_remainder g)

pub returns : goal.returns
returns c =
    let l = c.loop-b in
    let done : l.b ≡ 0 = omega arith in
    l.invariant l.a (rw done (with_zero l.a))
