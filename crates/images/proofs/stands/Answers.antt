-- `images::stands` meets its contract: the bytes left are compared with the record's, then its mark is looked at. Assumes nothing.
use native.Mathlib.Omega.{arith}
use Rattle.images.proofs.TableLaws.{stands_cut}
use Rattle.images.proofs.stands.Goals as goal

pub returns-then-image-at : goal.returns-then-image-at
returns-then-image-at g c = rw (← c.mark-mark.ensures) (stands_cut _ _ _ (omega (arith, c.if-image-at.true, c.size.ensures)))

pub returns : goal.returns
returns g c = rw c.mark-mark.ensures at c.marked.ensures

pub marked-requires : goal.marked-requires
marked-requires g c = omega arith
