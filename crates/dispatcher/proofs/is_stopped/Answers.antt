-- `dispatcher::is_stopped` meets its contract: one number is not 0, or all are. Assumes nothing.
use Rattle.std.proofs.Common.{arith}
use Rattle.dispatcher.proofs.Zeros.{stopped_by, not_stopped_by}
use Rattle.dispatcher.proofs.is_stopped.Goals as goal

pub returns-then-numbers-i-ne0 : goal.returns-then-numbers-i-ne0
returns-then-numbers-i-ne0 c = not_stopped_by _ c.requires c.loop-i.i (omega (arith, c.requires)) c.if-numbers-i-ne0.true

pub returns : goal.returns
returns c = stopped_by _ c.requires (λ k l. c.loop-i.invariant k (omega (arith, l, c.requires)))
