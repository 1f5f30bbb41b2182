-- Where the report stands. The measure: what is left of it.
use Rattle.std.proofs.Common.{◌≡◌, length}
use Rattle.reporting.specs.Turns.{room}
use Rattle.report.specs.Stands.{Stands, left}
use Rattle.report.proofs.report.Given as goal

abbrev pub invariant-loop-next : goal.invariant-loop-next
invariant-loop-next g l = record { stands : Stands l.s l.buffer; room : length l.text ≡ room }

abbrev pub decreases-loop-next : goal.decreases-loop-next
decreases-loop-next g l = left l.s
