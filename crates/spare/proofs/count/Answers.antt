-- `spare::count` meets its contract. The invariant: for every set that the rows are kept of, what is counted and what is still to come are all intervals.
-- Assumes nothing.
use Rattle.spare.proofs.Counting.{counting_none, counting_all}
use Rattle.spare.proofs.count.Goals as goal

pub loop-w-init : goal.loop-w-init
loop-w-init c = λ ts keeps. rw c.begin-w.ensures (counting_none keeps c.last_deadlines-dues.ensures)

pub returns : goal.returns
returns c = λ ts keeps. counting_all (c.loop-w.invariant ts keeps) c.loop-w-test.false
