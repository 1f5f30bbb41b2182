-- `numbers::put_tasks` meets its contract. The loop's invariant: the numbers of as many tasks as turns were made are stored. Assumes nothing.
use mathlib.Core.Path.{◌∙◌}
use native.Mathlib.Omega.{arith}
use Rattle.numbers.proofs.StoredNumbers.{task_more}
use Rattle.numbers.proofs.put_tasks.Goals as goal

pub loop-k-preserved : goal.loop-k-preserved
loop-k-preserved c =
    let more = task_more c.args.numbers.now c.args.s.tasks c.args.at c.loop-k.k (omega arith) in
    c.put_task.ensures ∙ rw (← c.loop-k.invariant) at more
