-- `records::fill` meets its contract. Assumes nothing.
use Rattle.std.proofs.Common.{refl, arith}
use Rattle.sets.proofs.Arrays.{filled_more}
use Rattle.records.proofs.fill.Goals as goal

pub loop-i-preserved : goal.loop-i-preserved
loop-i-preserved c = filled_more c.loop-i.invariant c.args.at (omega arith) (omega arith) refl
