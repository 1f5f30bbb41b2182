-- The four bytes loaded are the field of width 4. Assumes nothing.
use Rattle.std.proofs.Common.{arith}
use native.Mathlib.Nat.{add-zero}
use Rattle.fields.proofs.Places.{field_loads}
use Rattle.fields.proofs.U32Field.load.Goals as goal

pub returns : goal.returns
returns c = omega (arith, c.from_be_bytes.ensures, simp add-zero at (field_loads 4 c.args.bytes.now c.args.at c.requires))
