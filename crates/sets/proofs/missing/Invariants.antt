-- `sets::missing` meets its contract. The invariant: no release that was passed is before the end of the cycle. Assumes nothing.
use Prim.Native.Nat.{ℕ, ◌≤◌, ◌<◌}
use lib.ListN.{get_or}
use Rattle.sets.proofs.missing.Given as goal

abbrev pub invariant-loop-i : goal.invariant-loop-i
invariant-loop-i l = (k : ℕ) → k < l.i → l.h ≤ get_or l.r-items k 0
