-- `decision::past_idles` meets its contract. The invariant: the next start from here is the one asked for. The measure: what is left of the cycle.
-- Assumes nothing.
use Prim.Native.Nat.{◌-◌}
use Rattle.sets.specs.Kept.{hyperperiod_in}
use Rattle.decision.proofs.Deciding.{Decides}
use Rattle.decision.proofs.past_idles.Given as goal

abbrev pub invariant-decisions : goal.invariant-decisions
invariant-decisions l = Decides l.image l.judged l.kept l.at (record { free = l.initial.from; idle = l.initial.o }) l.from l.o

abbrev pub decreases-decisions : goal.decreases-decisions
decreases-decisions l = hyperperiod_in l.kept - l.from
