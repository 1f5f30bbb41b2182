-- `dispatcher::begin_again` meets its contract. The loop's invariant: as many tasks as turns were made are in the next cycle. Assumes nothing.
use Rattle.numbers.specs.Numbers.{state_from}
use Rattle.dispatcher.specs.Stored.{in_next_cycle}
use Rattle.dispatcher.proofs.StoredStarts.{Holds}
use Rattle.dispatcher.proofs.begin_again.Given as goal

abbrev pub invariant-loop-i : goal.invariant-loop-i
invariant-loop-i l = Holds l.numbers (in_next_cycle (state_from l.fn.numbers) l.i)
