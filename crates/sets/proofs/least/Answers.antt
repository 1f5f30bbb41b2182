-- `sets::least` meets its contract. The invariant: the least of the numbers passed. Assumes nothing.
use native.Mathlib.Omega.{arith}
use Rattle.sets.proofs.Scans.{least_more}
use Rattle.sets.proofs.least.Goals as goal

pub loop-i-preserved : goal.loop-i-preserved
loop-i-preserved c = grind (arith, least_more c.loop-i.i c.args.bound c.args.numbers.now)
