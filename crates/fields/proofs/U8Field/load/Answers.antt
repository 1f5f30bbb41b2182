-- The byte loaded is the field of width 1. Assumes nothing.
use Rattle.std.proofs.Common.{arith}
use native.Mathlib.Nat.{add-zero}
use Rattle.fields.proofs.Places.{field_loads}
use Rattle.fields.proofs.U8Field.load.Goals as goal

pub returns : goal.returns
returns c = omega (arith, c.from.ensures, simp add-zero at (field_loads 1 c.args.bytes.now c.args.at c.requires))
