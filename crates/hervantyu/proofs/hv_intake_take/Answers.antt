-- `hervantyu::hv_intake_take` meets its contract: it tells whether the fragment was taken, and the intake's numbers. Assumes nothing.
use mathlib.Core.Path.{sym, ap}
use Rattle.rules.specs.declared.Intake.{Intake}
use Rattle.rules.specs.Refusals.{take_tells}
use Rattle.hervantyu.proofs.FaceIntakes.{taken_so}
use Rattle.hervantyu.proofs.hv_intake_take.Goals as goal

pub returns-in-Shut : goal.returns-in-Shut
returns-in-Shut c =
    taken_so c.intake_from.ensures c.take-after.ensures c.intake_numbers.ensures (sym (ap (λ (k : Intake). (take_tells k).number) c.in-Shut.is))

pub returns-in-Open : goal.returns-in-Open
returns-in-Open c =
    taken_so c.intake_from.ensures c.take-after.ensures c.intake_numbers.ensures (sym (ap (λ (k : Intake). (take_tells k).number) c.in-Open.is))
