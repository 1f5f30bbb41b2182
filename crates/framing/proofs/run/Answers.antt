-- `framing::run` meets its contract. The loop's invariant: the records counted stand one behind the other and end here. Assumes nothing.
use mathlib.Core.Path.{sym, ◌∙◌}
use native.Mathlib.Omega.{arith}
use Rattle.framing.proofs.Runs.{one_more}
use Rattle.framing.proofs.run.Goals as goal

pub loop-count-preserved : goal.loop-count-preserved
loop-count-preserved c =
    one_more _ _ _ _ _ _ _ c.size-size.ensures c.loop-count.invariant.0 c.loop-count.invariant.1 (omega (arith, c.loop-count-test.true))
    (sym c.stands.ensures ∙ c.if-not-stands.false)
