-- `sets::missing` meets its contract. The invariant: no release that was passed is before the end of the cycle. Assumes nothing.
use mathlib.Core.Path.{sym}
use native.Mathlib.Omega.{arith}
use lib.ListN.{take}
use lib.Seq.{length-take-le}
use Rattle.sets.proofs.Scans.{found_at, found_none}
use Rattle.sets.proofs.missing.Goals as goal

pub returns-then-r-h : goal.returns-then-r-h
returns-then-r-h c =
    let a = c.args in
    sym (found_at a.h (take a.n a.release.now) c.loop-i.i (omega (arith, length-take-le a.n a.release.now (omega arith))) c.if-r-h.true c.loop-i.invariant)

pub returns : goal.returns
returns c =
    let a = c.args in
    sym (found_none a.h (take a.n a.release.now) (λ k b. c.loop-i.invariant k (omega (arith, length-take-le a.n a.release.now (omega arith)))))
