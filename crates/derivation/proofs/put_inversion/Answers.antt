-- `derivation::put_inversion` meets its contract. Assumes nothing.
use Rattle.std.proofs.Common.{sym, ◌∙◌}
use Rattle.derivation.proofs.Putting.{one_put}
use Rattle.derivation.proofs.put_inversion.Goals as goal

pub returns : goal.returns
returns c = one_put (sym c.lower_waits.ensures ∙ c.if-not-lower_waits.false) c.put.ensures
