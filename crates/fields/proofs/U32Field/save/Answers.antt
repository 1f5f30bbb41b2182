-- The four bytes saved are the field of width 4. Assumes nothing.
use native.Mathlib.Nat.{add-zero, div-one}
use Rattle.fields.proofs.Places.{stored_stores}
use Rattle.fields.proofs.U32Field.save.Goals as goal

pub returns : goal.returns
returns c = rw c.to_be_bytes.ensures (simp (add-zero, div-one) at (stored_stores 4 c.args.out.now c.args.at c.args.x c.requires))
