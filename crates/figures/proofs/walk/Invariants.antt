-- `figures::walk` meets its contract. The loop's invariant: of a set that the rows are kept of, whose valid timetable's entries stand in the image, so much
-- is added up so far. Assumes nothing.
use Rattle.rules.specs.Tasks.{Set}
use Rattle.figures.proofs.Walking.{WalkedTo}
use Rattle.figures.proofs.walk.Given as goal

abbrev pub invariant-loop-entry : goal.invariant-loop-entry
invariant-loop-entry l =
    (ts : Set) × WalkedTo ts l.image l.kept l.all l.release l.worst l.busy l.forced l.free l.at l._entry
