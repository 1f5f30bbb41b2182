-- `framing::in_kind` meets its contract: the row read is that of the mark. Assumes nothing.
use native.Mathlib.Omega.{arith}
use borrow.Author.Tests.{eq-eqb, ne_eqb}
use Rattle.rules.specs.Framing.{in_kind}
use Rattle.framing.proofs.in_kind.Goals as goal

pub returns-then-kind-number : goal.returns-then-kind-number
returns-then-kind-number c = rw (c.row-row.ensures, eq-eqb c.args.kind 1 (omega (arith, c.if-kind-number.true, c.number.ensures)), in_kind)

pub returns : goal.returns
returns c = rw (c.row-row.ensures, ne_eqb c.args.kind 1 (omega (arith, c.if-kind-number.false, c.number.ensures)), in_kind)
