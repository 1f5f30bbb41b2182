-- `derivation::put_irregularities` meets its contract. Assumes nothing.
use mathlib.Core.Path.{◌∙◌}
use native.Mathlib.Omega.{arith}
use Rattle.timetables.proofs.Turns.{at_first}
use Rattle.derivation.proofs.Putting.{can_few, put_first, idle_room, inversion_room, few_numbers, put_next, put_all}
use Rattle.derivation.proofs.put_irregularities.Goals as goal

pub first_offsets-offsets-requires : goal.first_offsets-offsets-requires
first_offsets-offsets-requires c = can_few c.requires.1

pub loop-entry-init : goal.loop-entry-init
loop-entry-init c =
    let can = c.requires.1 in
    let n_tasks = can.valid.stand.keeps.n_tasks in (
      _,
      put_first can c.first_offsets-offsets.ensures (at_first can.valid.stand.keeps (c.head_length-at.ensures ∙ omega (arith, n_tasks)))
          (c.head_length-idle_at.ensures ∙ omega (arith, n_tasks)),
    )

pub put_idle-idle_at-requires-clause-room : goal.put_idle-idle_at-requires-clause-room
put_idle-idle_at-requires-clause-room c = idle_room c.loop-entry.invariant.1 c.loop-entry-test.true c.read-e.ensures

pub put_inversion-requires-clause-room : goal.put_inversion-requires-clause-room
put_inversion-requires-clause-room c = inversion_room c.loop-entry.invariant.1 c.loop-entry-test.true c.read-e.ensures c.put_idle-idle_at.ensures

pub overflow_add-next : goal.overflow_add-next
overflow_add-next c = omega (arith, few_numbers c.loop-entry.invariant.1 c.loop-entry-test.true c.read-e.ensures)

pub loop-entry-preserved : goal.loop-entry-preserved
loop-entry-preserved c =
    (_, put_next c.loop-entry.invariant.1 c.loop-entry-test.true c.read-e.ensures c.put_idle-idle_at.ensures c.put_inversion.ensures)

pub returns : goal.returns
returns c = λ ts can. put_all c.loop-entry.invariant.1 can.valid.stand.keeps (omega arith)
