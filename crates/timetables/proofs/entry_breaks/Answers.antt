-- `timetables::entry_breaks` meets its contract. Assumes nothing.
use Rattle.sets.proofs.SetKept.{slack_short}
use Rattle.timetables.proofs.entry_breaks.Goals as goal

pub start_breaks-requires : goal.start_breaks-requires
start_breaks-requires c = slack_short c.requires.1 _ c.if-kept-e.false
