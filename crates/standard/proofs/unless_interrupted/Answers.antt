-- By the kind of the error, and so by errno. The error of one that was interrupted is kept.
use Rattle.std.proofs.Common.{None, Some, Err, arith, refl}
use Rattle.std.proofs.lemmas.Grind.{common_steps}
use Rattle.standard.proofs.Errno.{as_errno}
use Rattle.standard.proofs.unless_interrupted.Goals as goal

pub returns-then-eq-clause-errno : goal.returns-then-eq-clause-errno
returns-then-eq-clause-errno c = as_errno c.args.got None (grind (arith, common_steps))

pub returns-then-eq-clause-last : goal.returns-then-eq-clause-last
returns-then-eq-clause-last c = rw c.in-Err.is refl

pub returns-else-eq-clause-errno : goal.returns-else-eq-clause-errno
returns-else-eq-clause-errno c = as_errno c.args.got (Some (Err c.in-Err.error)) (grind (arith, common_steps))
