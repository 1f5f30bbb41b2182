-- What was held is at the front, and what came behind it.
use Rattle.std.proofs.Common.{arith, rules}
use Rattle.report.proofs.Standing.{read_on}
use Rattle.report.proofs.read_more.Goals as goal

pub returns : goal.returns
returns g c = read_on c.requires (search rules) c.in_ok-end.end (omega arith) c.in_ok-end.ensures.read
