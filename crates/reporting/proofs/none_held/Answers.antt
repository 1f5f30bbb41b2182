-- `reporting::none_held` meets its contract: more is needed, no bytes at all are refused, or the report ends. Assumes nothing.
use mathlib.Core.Path.{refl}
use mathlib.Core.List.{[]}
use native.Mathlib.Omega.{arith}
use borrow.Author.Tests.{eq-eqb, ne_eqb}
use Rattle.rules.specs.Refusals.{refusal}
use Rattle.rules.specs.Located.{located}
use Rattle.text.proofs.Lengths.{refused_short}
use Rattle.reporting.specs.Report.{turn}
use Rattle.reporting.proofs.TurnLaws.{stops_left}
use Rattle.reporting.proofs.none_held.Goals as goal

pub returns-then-more : goal.returns-then-more
unfolding turn
returns-then-more c = rw c.if-more.true (record { answer = refl; output = refl })

pub put_refused-requires : goal.put_refused-requires
put_refused-requires c = omega (arith, refused_short (located [] (refusal 1 0)) (omega arith) (omega arith) (omega arith))

pub returns-then-images-eq0 : goal.returns-then-images-eq0
unfolding turn
returns-then-images-eq0 c =
    rw (c.if-more.false, eq-eqb _ 0 c.if-images-eq0.true) (stops_left c.put_refused.ensures)

pub returns : goal.returns
unfolding turn
returns c = rw (c.if-more.false, ne_eqb _ 0 c.if-images-eq0.false) (record { answer = refl; output = refl })
