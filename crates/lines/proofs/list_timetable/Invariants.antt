-- The starts passed are listed.
use Rattle.lines.proofs.Listing.{ListedSoFar}
use Rattle.lines.proofs.list_timetable.Given as goal

abbrev pub invariant-loop-j : goal.invariant-loop-j
invariant-loop-j l = ListedSoFar l.image l.s l.first l.starts l.initial.page l.jobs l.j l.page
