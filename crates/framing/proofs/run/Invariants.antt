-- `framing::run` meets its contract. The loop's invariant: the records counted stand one behind the other and end here. Assumes nothing.
use mathlib.Core.Path.{◌≡◌}
use Prim.Native.Nat.{◌+◌, ◌*◌}
use Rattle.rules.specs.Marks.{size}
use Rattle.images.specs.Table.{mark_of}
use Rattle.framing.specs.Frames.{RunOf}
use Rattle.framing.proofs.run.Given as goal

abbrev pub invariant-loop-count : goal.invariant-loop-count
invariant-loop-count l = (l.at ≡ l.from + l.count * size (mark_of l.mark)) × RunOf l.image l.from (mark_of l.mark) l.most l.count
