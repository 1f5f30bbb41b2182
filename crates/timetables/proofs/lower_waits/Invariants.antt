-- `timetables::lower_waits` meets its contract. The invariant: none of the releases passed has come. Assumes nothing.
use Rattle.std.proofs.Common.{ℕ, ◌<◌, get_or}
use Rattle.timetables.proofs.lower_waits.Given as goal

abbrev pub invariant-loop-r : goal.invariant-loop-r
invariant-loop-r l = (k : ℕ) → k < l.r-index → l.start < get_or l.r-items k 0
