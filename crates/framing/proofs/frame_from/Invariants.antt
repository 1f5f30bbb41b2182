-- `framing::frame_from` meets its contract. The loop's invariant: framing comes to this place. The measure is the number of bytes left. Assumes nothing.
use Prim.Native.Nat.{◌-◌}
use lib.ListN.{length}
use Rattle.framing.specs.Frames.{Reached}
use Rattle.framing.proofs.frame_from.Given as goal

abbrev pub invariant-records : goal.invariant-records
invariant-records l = Reached l.kind l.image l.s

abbrev pub decreases-records : goal.decreases-records
decreases-records l = length l.image - l.s.offset
