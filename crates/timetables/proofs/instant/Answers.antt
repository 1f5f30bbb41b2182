-- `timetables::instant` meets its contract. Assumes nothing.
use Rattle.std.proofs.Common.{max, ap, ◌∙◌, arith}
use Rattle.timetables.proofs.Instants.{least_first}
use Rattle.timetables.proofs.instant.Goals as goal

pub returns : goal.returns
returns c =
    let a = c.args in
    c.later.ensures ∙ ap (max a.free) (c.least.ensures ∙ least_first a.n a.release.now (omega arith))
