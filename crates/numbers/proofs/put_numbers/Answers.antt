-- `numbers::put_numbers` meets its contract. The loop's invariant: as many numbers as turns were made are stored. Assumes nothing.
use native.Mathlib.Omega.{arith}
use Rattle.numbers.proofs.StoredNumbers.{number_more}
use Rattle.numbers.proofs.put_numbers.Goals as goal

pub loop-j-preserved : goal.loop-j-preserved
loop-j-preserved c = rw (← c.loop-j.invariant) at (number_more c.args.numbers.now c.args.slots c.args.at c.loop-j.j (omega arith))
