-- `records::at_most` meets its contract: jobs decide where the tasks are equal. Assumes nothing.
use borrow.Author.Tests.{eq-eqb, ne_eqb}
use Rattle.rules.specs.Irregularities.{at_most}
use Rattle.records.proofs.at_most.Goals as goal

pub returns-then-i-j : goal.returns-then-i-j
returns-then-i-j c = rw (eq-eqb c.args.i c.args.j c.if-i-j.true, at_most)

pub returns : goal.returns
returns c = rw (ne_eqb c.args.i c.args.j c.if-i-j.false, at_most)
