-- `figures::worsen` meets its contract. Assumes nothing.
use Rattle.std.proofs.Common.{◌≡◌, false, get_or, pos, ◌-ℤ◌, sym, arith}
use Rattle.std.proofs.lemmas.Int.{ints}
use lib.Seq.{set-get_or}
use lib.Signed.{lt_z}
use Rattle.figures.proofs.worsen.Goals as goal

pub returns-else-worst-i : goal.returns-else-worst-i
returns-else-worst-i c =
    let a = c.args in
    let no_larger : lt_z (get_or a.worst.now a.i (pos 0)) (pos a.start -ℤ pos a.latest) ≡ false =
    grind (arith, ints, c.if-worst-i.false, c.lateness-late.ensures) in
    rw (c.if-first.false, no_larger) (sym (set-get_or a.worst.now a.i (pos 0)))
