-- `framing::read_set` meets its contract. The loop's invariant: as many slots as records were read hold their tasks, and the next record begins behind them.
-- Assumes nothing.
use mathlib.Core.Path.{◌≡◌}
use Prim.Native.Nat.{◌+◌, ◌*◌}
use Rattle.rules.specs.Marks.{TS, TK, size}
use Rattle.framing.proofs.SetLaws.{slots}
use Rattle.framing.proofs.read_set.Given as goal

abbrev pub invariant-loop-i : goal.invariant-loop-i
invariant-loop-i l = (l.at ≡ size TS + l.i * size TK) × (l.tasks ≡ slots l.image l.i)
