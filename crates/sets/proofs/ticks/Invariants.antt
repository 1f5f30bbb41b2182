-- `sets::ticks` meets its contract. The invariant: h is the hyperperiod of the tasks from i on, and they have no fault. Assumes nothing.
use Rattle.numbers.specs.Numbers.{set_from}
use Rattle.sets.proofs.Cycles.{CycleFrom}
use Rattle.sets.proofs.ticks.Given as goal

abbrev pub invariant-loop-i : goal.invariant-loop-i
invariant-loop-i l = CycleFrom (set_from l.n l.numbers l.at).tasks l.n l.i l.after l.h
