-- `sets::common_divisor` meets its contract. The invariant: the greatest common divisor of a and b is that of the two numbers. Assumes nothing.
use Prim.Native.Nat.{ℕ}
use Rattle.sets.specs.Sets.{IsGreatestDivisor}
use Rattle.sets.proofs.common_divisor.Given as goal

abbrev pub invariant-loop-b : goal.invariant-loop-b
invariant-loop-b l = (d : ℕ) → IsGreatestDivisor l.a l.b d → IsGreatestDivisor l.t l.h d

abbrev pub decreases-loop-b : goal.decreases-loop-b
decreases-loop-b l = l.b
