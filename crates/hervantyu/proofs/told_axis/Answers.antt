-- `hervantyu::told_axis` meets its contract: the count and the bytes are those that were measured. Assumes nothing.
use Rattle.std.proofs.Common.{[], ◌∷◌}
use Rattle.rules.specs.declared.Axis.{Axis}
use Rattle.hervantyu.proofs.told_axis.Goals as goal

pub returns-in-Ok : goal.returns-in-Ok
returns-in-Ok c =
    record { answered = c.told-number.ensures (λ (a : Axis). a.figures ∷ a.used ∷ []); its_count = rw c.in-Ok.is; its_used = rw c.in-Ok.is }
