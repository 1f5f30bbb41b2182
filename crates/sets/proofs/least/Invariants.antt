-- `sets::least` meets its contract. The invariant: the least of the numbers passed. Assumes nothing.
use mathlib.Core.Path.{◌≡◌}
use Rattle.sets.specs.Scans.{least_of}
use Rattle.sets.proofs.least.Given as goal

abbrev pub invariant-loop-i : goal.invariant-loop-i
invariant-loop-i l = l.least ≡ least_of l.i l.bound l.numbers
