-- `sets::judge_numbers` meets its contract: a set with a cycle is judged by its jobs. Assumes nothing.
use mathlib.Core.Path.{◌∙◌}
use Rattle.sets.proofs.Answers.{by_jobs}
use Rattle.sets.proofs.judge_numbers.Goals as goal

pub returns : goal.returns
returns c = c.limited.ensures ∙ by_jobs c.in_ok-h.ensures _ c.all_jobs.ensures
