-- A read, an image, or the end.
use Rattle.std.proofs.Common.{arith}
use Rattle.reporting.proofs.Answers.{waits_so, goes_so}
use Rattle.report.proofs.Standing.{many_held, used_inside, not_last, image_drives}
use Rattle.report.proofs.step.Goals as goal

pub read_more-requires : goal.read_more-requires
read_more-requires g c =
    let known = waits_so c.turn.ensures c.requires.room c.in-Waits.is in
    let stands = c.requires.stands in
    record { stands = stands; can_come = known.can_come; has_room = omega (arith, known.has_room, many_held stands) }

pub go_on-requires-clause-inside : goal.go_on-requires-clause-inside
go_on-requires-clause-inside g c =
    used_inside c.requires.stands c.in-GoesOn.told.used (goes_so c.turn.ensures c.requires.room c.in-GoesOn.is).goes

pub go_on-requires-clause-few : goal.go_on-requires-clause-few
go_on-requires-clause-few g c =
    not_last c.requires.stands c.in-GoesOn.told.used (goes_so c.turn.ensures c.requires.room c.in-GoesOn.is).goes

pub returns-in_ok-next-in-GoesOn : goal.returns-in_ok-next-in-GoesOn
returns-in_ok-next-in-GoesOn g c =
    let known = goes_so c.turn.ensures c.requires.room c.in-GoesOn.is in
    image_drives c.requires.stands c.in-GoesOn.told.used known.goes known.turned c.in_ok-next-in-GoesOn.ensures
