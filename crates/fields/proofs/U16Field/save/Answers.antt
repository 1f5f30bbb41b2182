-- The two bytes saved are the field of width 2. Assumes nothing.
use Rattle.std.proofs.Common.{arith, ◌≡◌, ◌/◌, ◌%◌}
use native.Mathlib.Nat.{add-zero}
use Rattle.fields.proofs.Places.{stored_stores}
use Rattle.fields.proofs.U16Field.save.Goals as goal

pub returns : goal.returns
returns c =
    let high : c.args.x % 65536 / 256 % 256 ≡ c.args.x / 256 % 256 = omega arith in
    let low : c.args.x % 65536 % 256 ≡ c.args.x / 1 % 256 = omega arith in
    rw (c.to_be_bytes.ensures, high, low) (simp add-zero at (stored_stores 2 c.args.out.now c.args.at c.args.x c.requires))
