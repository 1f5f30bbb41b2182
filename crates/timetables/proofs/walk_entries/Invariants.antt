-- `timetables::walk_entries` meets its contract. The invariant: for every set that the rows are kept of, however many entries are listed, what is judged
-- and counted from j on is the whole. Assumes nothing.
use Rattle.std.proofs.Common.{◌-◌, length}
use Rattle.rules.specs.Tasks.{Set}
use Rattle.timetables.specs.Judged.{EntriesStand}
use Rattle.timetables.proofs.Walking.{Walking}
use Rattle.timetables.proofs.walk_entries.Given as goal

abbrev pub invariant-entries : goal.invariant-entries
invariant-entries l = (ts : Set) → EntriesStand ts l.image l.kept 0 → Walking ts l.image l.kept l.count l.release l.free l.counts l.at l.entries

abbrev pub decreases-entries : goal.decreases-entries
decreases-entries l = length l.image - l.at
