-- `framing::frame_tasks` meets its contract. The loop's invariant: framing comes to this place, which is on the way to the one behind the tasks. The
-- measure is the number of bytes left. Assumes nothing.
use Prim.Native.Nat.{◌-◌}
use lib.ListN.{length}
use Rattle.framing.specs.Frames.{Reached, TowardsTasks}
use Rattle.framing.proofs.frame_tasks.Given as goal

abbrev pub invariant-records : goal.invariant-records
invariant-records l = Reached l.kind l.image l.s × TowardsTasks l.image l.s

abbrev pub decreases-records : goal.decreases-records
decreases-records l = length l.image - l.s.offset
