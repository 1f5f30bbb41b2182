-- `dispatcher::begin_again` meets its contract: after the loop all n tasks are in the next cycle. Assumes nothing.
use Rattle.std.proofs.Common.{arith, ◌≡◌}
use Rattle.numbers.specs.Numbers.{state_from}
use Rattle.dispatcher.proofs.StoredStarts.{one_task_more, cycle_counted}
use Rattle.dispatcher.proofs.begin_again.Goals as goal

pub loop-i-init : goal.loop-i-init
loop-i-init c = cycle_counted c.args.numbers.now c.requires.long

pub loop-i-preserved : goal.loop-i-preserved
loop-i-preserved c = one_task_more (state_from c.args.numbers.now) c.loop-i.i (omega arith) c.loop-i.invariant

pub returns : goal.returns
returns c =
    let all : c.loop-i.i ≡ c.args.n = omega arith in
    record { state = rw all at c.loop-i.invariant.is; long = c.loop-i.invariant.long }
