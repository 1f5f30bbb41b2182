-- `spare::a_period_before` meets its contract. Assumes nothing.
use native.Mathlib.Omega.{arith}
use Rattle.spare.proofs.a_period_before.Goals as goal

pub returns : goal.returns
returns c = omega arith
