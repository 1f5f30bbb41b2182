-- `hervantyu::intake_numbers` meets its contract, by the intake. Assumes nothing.
use mathlib.Core.Path.{sym, ap}
use Rattle.rules.specs.Intake.{intake_numbers}
use Rattle.hervantyu.proofs.intake_numbers.Goals as goal

pub returns-in-Open : goal.returns-in-Open
returns-in-Open c = sym (ap intake_numbers c.in-Open.is)
