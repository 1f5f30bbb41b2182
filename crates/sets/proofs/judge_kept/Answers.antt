-- `sets::judge_kept` meets its contract: a set with a cycle is judged by its jobs, and where it is good its rows are filled. Assumes nothing.
use mathlib.Core.Path.{◌∙◌}
use Rattle.sets.proofs.Answers.{by_jobs, good_cycle}
use Rattle.sets.proofs.Promises.{good_exactly}
use Rattle.sets.proofs.judge_kept.Goals as goal

pub returns : goal.returns
returns c =
    let judged = c.limited.ensures ∙ by_jobs c.in_ok-h.ensures _ c.keep.ensures.jobs in
    record { answer = judged; keeps = λ f e. c.keep.ensures.filled (good_cycle c.in_ok-h.ensures ((good_exactly _ _ judged f).0 e)) }
