-- `numbers::put_numbers` meets its contract. The loop's invariant: as many numbers as turns were made are stored. Assumes nothing.
use mathlib.Core.Path.{◌≡◌}
use lib.ListN.{take}
use lib.Seq.{sets}
use Rattle.numbers.proofs.put_numbers.Given as goal

abbrev pub invariant-loop-j : goal.invariant-loop-j
invariant-loop-j l = l.numbers ≡ sets l.initial.numbers l.at (take l.j l.number-items)
