-- `images::part` meets its contract: the part that is lent has the length that was asked for. Assumes nothing.
use mathlib.Core.Path.{ap}
use Prim.Native.Nat.{ℕ}
use native.Mathlib.Nat.{add-sub_cancel_left}
use lib.ListN.{take, drop}
use Rattle.images.proofs.part.Goals as goal

pub returns : goal.returns
returns c =
    let a = c.args in
    ap (λ (many : ℕ). take many (drop a.at a.image.now)) (add-sub_cancel_left a.at a.len)
