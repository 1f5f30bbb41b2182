-- `sets::jobs` meets its contract, also at a period of 0. Assumes nothing.
use mathlib.Core.Path.{sym}
use native.Mathlib.Nat.{div-zero}
use Rattle.sets.proofs.jobs.Goals as goal

pub returns-then-t-eq0 : goal.returns-then-t-eq0
returns-then-t-eq0 c = rw c.if-t-eq0.true (sym (div-zero _))
