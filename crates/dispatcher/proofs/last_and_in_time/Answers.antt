-- `dispatcher::last_and_in_time` meets its contract: each of its tests is one of the rule's. Assumes nothing.
use Rattle.std.proofs.Common.{arith}
use Rattle.std.proofs.lemmas.Bool.Decides.{nat_tests}
use Rattle.dispatcher.proofs.last_and_in_time.Goals as goal

pub returns-then-release-from : goal.returns-then-release-from
returns-then-release-from c = grind (arith, nat_tests)
