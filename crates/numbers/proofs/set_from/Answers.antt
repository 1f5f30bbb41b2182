-- `numbers::set_from` meets its contract. The loop's invariant: as many slots as turns were made hold their tasks. Assumes nothing.
use mathlib.Core.Path.{◌∙◌, ap}
use mathlib.Core.List.{List}
use lib.ListN.{length-set}
use native.Mathlib.Omega.{arith}
use Rattle.std.proofs.lemmas.List.Edits.{fill_by_more}
use Rattle.rules.specs.declared.Task.{Task}
use Rattle.rules.specs.Dispatcher.{zero_task}
use Rattle.numbers.proofs.FilledSlots.{all_slots}
use Rattle.numbers.proofs.set_from.Goals as goal

pub loop-i-preserved : goal.loop-i-preserved
loop-i-preserved c =
    let l = c.loop-i in
    record {
      long = length-set l.task-items l.i c.task_from.result ∙ l.invariant.long;
      filled = rw c.task_from.ensures (fill_by_more _ l.task-items l.i zero_task (omega (arith, l.invariant.long)) l.invariant.filled);
    }

pub returns : goal.returns
returns c =
    let l = c.loop-i in
    let n = c.args.n in
    ap (λ (ts : List Task). record { n = n; tasks = ts }) (all_slots _ l.task-items zero_task l.invariant.long (λ i b. l.invariant.filled i (omega arith)))
