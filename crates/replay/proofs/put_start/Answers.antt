-- `replay::put_start` meets its contract: the entry is put, or its place is behind the output's end. Assumes nothing.
use mathlib.Core.Path.{refl}
use Rattle.replay.proofs.Running.{puts_entry, puts_none}
use Rattle.replay.proofs.put_start.Goals as goal

pub returns-then-out-place : goal.returns-then-out-place
returns-then-out-place c = puts_none _ _ _ c.if-out-place.true

pub returns : goal.returns
returns c = puts_entry _ c.put.ensures refl
