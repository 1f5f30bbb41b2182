-- TS tells it.
use Rattle.std.proofs.Common.{ap}
use Rattle.images.specs.declared.Head.{Head}
use Rattle.lines.proofs.tasks_in.Goals as goal

pub returns : goal.returns
returns c = ap (λ (h : Head). h.n) c.read.ensures
