-- `replay::one_start` meets its contract: a run of one start, of which the last answer is the next start. Assumes nothing.
use mathlib.Core.Path.{◌∙◌}
use Rattle.replay.proofs.Running.{one_may_run, one_answer}
use Rattle.replay.proofs.one_start.Goals as goal

pub starts-requires : goal.starts-requires
starts-requires c = (c.requires.0, one_may_run _ c.requires.1)

pub returns : goal.returns
returns c = λ ts stands. (c.starts.ensures ts (one_may_run _ stands)).last ∙ one_answer ts _ _ _
