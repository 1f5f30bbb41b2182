-- `writing::put` meets its contract: the mark and the body behind it are the record, where it fits. Assumes nothing.
use Rattle.std.proofs.Common.{arith}
use Rattle.writing.proofs.Puts.{row_size, record_fits, record_cut}
use Rattle.writing.proofs.put.Goals as goal

pub returns-then-row-saturating_sub : goal.returns-then-row-saturating_sub
returns-then-row-saturating_sub g c =
    let long = row_size _ _ _ c.row-row.ensures c.MARK.ensures in
    rw (c.to_body.ensures, c.row-row.ensures, c.MARK.ensures) (record_fits _ _ _ _ (omega arith) _ (omega arith))

pub returns-else-row-saturating_sub : goal.returns-else-row-saturating_sub
returns-else-row-saturating_sub g c =
    record_cut _ _ _ _ (omega (arith, row_size _ _ _ c.row-row.ensures c.MARK.ensures))
