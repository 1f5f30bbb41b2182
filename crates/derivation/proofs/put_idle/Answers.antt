-- `derivation::put_idle` meets its contract. Assumes nothing.
use Rattle.std.proofs.Common.{sym, ◌∙◌}
use Rattle.derivation.proofs.Putting.{one_put}
use Rattle.derivation.proofs.put_idle.Goals as goal

pub returns : goal.returns
returns c = one_put (sym c.idles_before.ensures ∙ c.if-not-idles_before.false) (rw c.instant-now.ensures at c.put.ensures)
