-- `decision::without_lowest` meets its contract: the number before has all bits but the lowest in common. Assumes nothing.
use Rattle.std.proofs.Common.{arith}
use Rattle.decision.proofs.Masks.{lowest_cleared}
use Rattle.decision.proofs.without_lowest.Goals as goal

pub returns : goal.returns
returns c = lowest_cleared _ c.requires (omega arith)
