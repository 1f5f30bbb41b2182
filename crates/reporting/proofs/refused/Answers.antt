-- `reporting::refused` meets its contract: which of its lines is told, or that more is needed. Assumes nothing.
use native.Mathlib.Omega.{arith}
use Rattle.text.specs.Text.{too_long}
use Rattle.text.proofs.Lengths.{refused_short}
use Rattle.reporting.proofs.TurnLaws.{other_so, beyond_so, waits_so, cut_so}
use Rattle.reporting.proofs.refused.Goals as goal

pub put_refused-requires : goal.put_refused-requires
put_refused-requires c =
    omega (arith, refused_short c.args.r (omega arith) (omega arith) (omega arith))

pub returns-then-r-ne1 : goal.returns-then-r-ne1
returns-then-r-ne1 c =
    let a = c.args in
    other_so a.more a.beyond a.r c.if-r-ne1.true c.put_refused.ensures

pub put_too_long-requires : goal.put_too_long-requires
put_too_long-requires c = omega (arith, refused_short too_long (omega arith) (omega arith) (omega arith))

pub returns-then-beyond : goal.returns-then-beyond
returns-then-beyond c =
    let a = c.args in
    beyond_so a.more a.beyond a.r c.if-r-ne1.false c.if-beyond.true c.put_too_long.ensures

pub returns-then-more : goal.returns-then-more
returns-then-more c =
    let a = c.args in
    waits_so a.more a.beyond a.r c.if-r-ne1.false c.if-beyond.false c.if-more.true

pub put_refused-requires-2 : goal.put_refused-requires-2
put_refused-requires-2 c =
    omega (arith, refused_short c.args.r (omega arith) (omega arith) (omega arith))

pub returns : goal.returns
returns c =
    let a = c.args in
    cut_so a.more a.beyond a.r c.if-r-ne1.false c.if-beyond.false c.if-more.false c.put_refused-2.ensures
