-- `dispatcher::running_task` meets its contract: below n, the task and the next job number that are read are the running job's. Assumes nothing.
use Rattle.std.proofs.Common.{arith, ◌≡◌, ◌∙◌, lt-ltb}
use Rattle.rules.specs.Tasks.{task}
use Rattle.rules.specs.Priority.{slot}
use Rattle.rules.specs.Dispatcher.{set_of}
use Rattle.numbers.specs.Numbers.{state_from}
use Rattle.dispatcher.specs.Tested.{last_and_in_time}
use Rattle.dispatcher.proofs.Lent.{next_lent, task_lent}
use Rattle.dispatcher.proofs.running_task.Goals as goal

pub returns : goal.returns
returns c =
    let x = c.args.numbers.now in
    let d = state_from x in
    let i = d.running.task in
    let its_task : c.task_from-t.result ≡ task (set_of d) i = c.task_from-t.ensures ∙ task_lent x c.requires.few i c.if-numbers-running.false in
    let tested : c.last_and_in_time.result ≡ last_and_in_time (task (set_of d) i) (slot d.next i) d.running =
    c.last_and_in_time.ensures ∙ rw (its_task, next_lent x i (omega arith)) in
    c.then_some.ensures ∙ rw (tested, its_task, lt-ltb i d.set.n (omega arith))
