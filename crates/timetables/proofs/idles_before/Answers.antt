-- `timetables::idles_before` meets its contract. Assumes nothing.
use Rattle.std.proofs.Common.{◌<◌, max, take, sym, arith, lt-ltb}
use Rattle.timetables.specs.Instants.{least_of}
use Rattle.timetables.proofs.Instants.{least_of_first}
use Rattle.timetables.proofs.idles_before.Goals as goal

pub returns-then-release-i : goal.returns-then-release-i
returns-then-release-i c =
    let a = c.args in
    let later : max a.free (least_of (take a.n a.release.now)) < a.start =
    omega (arith, least_of_first a.release.now a.n a.i (omega arith) (omega arith), c.if-release-i.true) in
    sym (lt-ltb _ _ later)
