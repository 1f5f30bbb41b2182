-- `replay::starts` meets its contract. The invariant: for every set that the run may be of, the run stands behind the starts made so far. The measure: the
-- starts that are wanted beyond them. Assumes nothing.
use Prim.Native.Nat.{◌-◌}
use Rattle.rules.specs.Tasks.{Set}
use Rattle.replay.specs.Runs.{CanRun}
use Rattle.replay.proofs.Running.{RunAt}
use Rattle.replay.proofs.starts.Given as goal

abbrev pub invariant-loop-f : goal.invariant-loop-f
invariant-loop-f l = (ts : Set) → CanRun ts l.image l.judged l.kept l.initial.at l.initial.front l.wanted → RunAt ts l.image l.judged l.kept l.initial.at l.initial.front l.wanted l.initial.out l.at l.front l.wasted l.out l.place l.made

abbrev pub decreases-loop-f : goal.decreases-loop-f
decreases-loop-f l = l.wanted - l.made
