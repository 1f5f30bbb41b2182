-- `framing::frame_from` meets its contract. The loop's invariant: framing comes to this place. The measure is the number of bytes left. Assumes nothing.
use native.Mathlib.Omega.{arith}
use Rattle.framing.proofs.StepLaws.{reached, refused_frame, refused_as, followed, framed}
use Rattle.framing.proofs.frame_from.Goals as goal

pub returns-in-Err : goal.returns-in-Err
returns-in-Err c = refused_as c.args.whole _ (refused_frame c.records.invariant c.in-Err.ensures)

pub records-smaller : goal.records-smaller
records-smaller c = let f = rw c.in-Ok-GoesOn.field-0-is at c.in-Ok-GoesOn.ensures in omega (arith, f.0.inside, f.1)

pub records-preserved : goal.records-preserved
records-preserved c = reached c.records.invariant (rw c.in-Ok-GoesOn.field-0-is at c.in-Ok-GoesOn.ensures)

pub returns-then-l-image : goal.returns-then-l-image
returns-then-l-image c =
    rw c.refusal_at.ensures
    (followed c.records.invariant (rw c.in-Ok-Ended.field-0-is at c.in-Ok-Ended.ensures) c.if-whole.true c.if-l-image.true)

pub returns-in-Ok-Ended : goal.returns-in-Ok-Ended
returns-in-Ok-Ended c = framed c.records.invariant (rw c.in-Ok-Ended.field-0-is at c.in-Ok-Ended.ensures) c.else-whole.either
