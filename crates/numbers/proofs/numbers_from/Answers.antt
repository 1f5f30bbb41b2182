-- `numbers::numbers_from` meets its contract. The loop's invariant: as many slots as turns were made hold their numbers. Assumes nothing.
use native.Mathlib.Omega.{arith}
use Rattle.std.proofs.lemmas.List.Edits.{fill_by_more}
use Rattle.numbers.proofs.FilledSlots.{all_slots}
use Rattle.numbers.proofs.numbers_from.Goals as goal

pub loop-k-preserved : goal.loop-k-preserved
loop-k-preserved c = fill_by_more _ c.loop-k.slot-items c.loop-k.k 0 (omega arith) c.loop-k.invariant

pub returns : goal.returns
returns c = all_slots _ c.loop-k.slot-items 0 c.loop-k-test.array_long (λ i l. c.loop-k.invariant i (omega arith))
