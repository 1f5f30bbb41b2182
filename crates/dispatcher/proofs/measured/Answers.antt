-- `dispatcher::measured` meets its contract: task by task, and a count that is too high ends it. Assumes nothing.
use Rattle.std.proofs.Common.{arith}
use Rattle.dispatcher.proofs.Measuring.{release_here, too_many_here, more_so_far, all_so_far}
use Rattle.dispatcher.proofs.measured.Goals as goal

pub overflow_mul-release : goal.overflow_mul-release
overflow_mul-release c = omega (arith, release_here c.requires c.loop-k.k (omega arith) c.if-kept-i.false)

pub overflow_add-release : goal.overflow_add-release
overflow_add-release c = omega (arith, release_here c.requires c.loop-k.k (omega arith) c.if-kept-i.false)

pub loop-k-preserved : goal.loop-k-preserved
loop-k-preserved c = more_so_far c.requires c.loop-k.invariant (omega arith) c.if-kept-i.false

pub returns-then-kept-i : goal.returns-then-kept-i
returns-then-kept-i c = too_many_here c.requires c.loop-k.k (omega arith) c.if-kept-i.true

pub returns : goal.returns
returns c = all_so_far c.requires c.loop-k.invariant (omega arith)
