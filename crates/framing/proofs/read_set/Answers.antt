-- `framing::read_set` meets its contract. The loop's invariant: as many slots as records were read hold their tasks, and the next record begins behind them.
-- Assumes nothing.
use native.Mathlib.Omega.{arith}
use Rattle.framing.proofs.SetLaws.{slots_empty, slots_more, set_filled}
use Rattle.framing.proofs.read_set.Goals as goal

pub loop-i-init : goal.loop-i-init
loop-i-init c = (omega arith, slots_empty _)

pub loop-i-preserved : goal.loop-i-preserved
loop-i-preserved c =
    let i = c.loop-i.invariant in
    (omega arith, rw (i.1, c.read.ensures) (slots_more c.args.image.now c.loop-i.at c.loop-i.i (omega arith) i.0))

pub returns : goal.returns
returns c = set_filled _ _ c.loop-i.i _ (omega arith) c.loop-i.invariant.1
