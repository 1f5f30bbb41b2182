-- The field stored at a place, nothing where it does not fit. Assumes nothing.
use Rattle.std.proofs.Common.{sym, arith}
use Rattle.fields.proofs.Places.{stored_cut}
use Rattle.fields.proofs.store.Goals as goal

pub returns-else-at-out : goal.returns-else-at-out
returns-else-at-out g c = sym (stored_cut _ _ _ _ (grind (arith, c.else-at-out.branch)))

pub save-requires : goal.save-requires
save-requires g c = omega arith
