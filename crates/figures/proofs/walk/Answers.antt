-- `figures::walk` meets its contract. Assumes nothing.
use mathlib.Core.Path.{◌∙◌}
use native.Mathlib.Omega.{arith}
use Rattle.timetables.proofs.Turns.{at_first}
use Rattle.figures.proofs.Walking.{walked_none, waits_from, walked_on, walked_all}
use Rattle.figures.proofs.walk.Goals as goal

pub loop-entry-init : goal.loop-entry-init
loop-entry-init c =
    let keeps = c.requires.1.stand.keeps in
    (_, walked_none c.requires.1 (at_first keeps (c.head_length-at.ensures ∙ omega (arith, keeps.n_tasks))))

pub overflow_sub-forced : goal.overflow_sub-forced
overflow_sub-forced c = omega (arith, waits_from c.loop-entry.invariant.1 c.loop-entry-test.true c.read-e.ensures)

pub loop-entry-preserved : goal.loop-entry-preserved
loop-entry-preserved c =
    (_, walked_on c.loop-entry.invariant.1 c.loop-entry-test.true c.read-e.ensures c.worsen.ensures c.instant.ensures)

pub returns : goal.returns
returns c = λ ts valid. walked_all c.loop-entry.invariant.1 (omega arith) valid.stand.keeps
