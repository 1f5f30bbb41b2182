-- The byte saved is the field of width 1. Assumes nothing.
use native.Mathlib.Nat.{add-zero, div-one}
use Rattle.fields.proofs.Places.{stored_stores}
use Rattle.fields.proofs.U8Field.save.Goals as goal

pub returns : goal.returns
returns c = simp (add-zero, div-one) at (stored_stores 1 c.args.out.now c.args.at c.args.x c.requires)
