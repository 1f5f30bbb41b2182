-- `hervantyu::told_make` meets its contract: the length is kept where the answer is a refusal. Assumes nothing.
use Rattle.std.proofs.Common.{[], ◌∷◌}
use Rattle.hervantyu.proofs.told_make.Goals as goal

pub returns-in_default : goal.returns-in_default
returns-in_default c = record { answered = c.told-number.ensures (λ n. n ∷ []); its_length = rw c.in_default.is }
