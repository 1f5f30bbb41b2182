-- The field at a place, 0 where it does not stand there whole. Assumes nothing.
use Rattle.std.proofs.Common.{sym, arith}
use Rattle.fields.proofs.Places.{field_at_cut}
use Rattle.fields.proofs.read.Goals as goal

pub returns-else-at-bytes : goal.returns-else-at-bytes
returns-else-at-bytes g c = sym (field_at_cut _ _ _ (grind (arith, c.else-at-bytes.branch)))

pub load-requires : goal.load-requires
load-requires g c = omega arith
