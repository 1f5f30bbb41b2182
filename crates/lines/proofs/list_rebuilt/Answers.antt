-- `lines::list_rebuilt` meets its contract: the refusal, or the listing of the timetable that is rebuilt. Assumes nothing.
use mathlib.Core.Path.{sym}
use native.Mathlib.Omega.{arith}
use lib.Seq.{length-take-le}
use Rattle.text.proofs.Lengths.{refused_short}
use Rattle.lines.specs.Lists.{Lists}
use Rattle.lines.proofs.TextLengths.{text_short}
use Rattle.lines.proofs.Rebuilt.{refused_so, made_so}
use Rattle.lines.proofs.list_rebuilt.Goals as goal

pub put_refused-requires : goal.put_refused-requires
put_refused-requires c = omega (arith, refused_short c.in-Err.r (omega arith) (omega arith) (omega arith))

pub slice_bounds-list_timetable-end : goal.slice_bounds-list_timetable-end
slice_bounds-list_timetable-end c = let made = made_so c.type_inv.image c.requires.long c.rebuild.ensures c.in-Ok.is in made.inside

pub slice_bounds-list_timetable-end-in-Ok : goal.slice_bounds-list_timetable-end-in-Ok
slice_bounds-list_timetable-end-in-Ok c =
    let made = made_so c.type_inv.image c.requires.long c.rebuild.ensures c.in-Ok.is in
    sym (length-take-le _ _ made.inside)

pub list_timetable-requires : goal.list_timetable-requires
list_timetable-requires c =
    let made = made_so c.type_inv.image c.requires.long c.rebuild.ensures c.in-Ok.is in
    record { set = made.set; entries = made.entries; image = made.image; room = omega (arith, text_short made.image.good made.image.valid) }

pub returns-in-Err : goal.returns-in-Err
returns-in-Err c = rw (refused_so c.type_inv.image c.requires.long c.rebuild.ensures c.in-Err.is) c.put_refused.ensures

pub returns-in-Ok : goal.returns-in-Ok
unfolding Lists
returns-in-Ok c =
    let made = made_so c.type_inv.image c.requires.long c.rebuild.ensures c.in-Ok.is in
    rw made.listed (c.list_timetable.ensures made.set made.entries made.image)
