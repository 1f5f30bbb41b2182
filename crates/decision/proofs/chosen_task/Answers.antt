-- `decision::chosen_task` meets its contract. Assumes nothing.
use Rattle.decision.proofs.Looking.{cleared, choosing_read, left_all, chosen_none, chosen_lowest, left_below, left_slot, left_released, chosen_shown, left_unshown, fewer_left}
use Rattle.decision.proofs.chosen_task.Goals as goal

pub returns-then-mask-eq0 : goal.returns-then-mask-eq0
returns-then-mask-eq0 c = λ ts kept choosing. chosen_none choosing c.if-mask-eq0.true

pub tasks-init : goal.tasks-init
tasks-init c = λ ts kept choosing. left_all choosing

pub bounds-offsets-j : goal.bounds-offsets-j
bounds-offsets-j c = left_slot c.requires.2 (c.tasks.invariant _ _ c.requires.2) c.tasks-test.true c.lowest-task.ensures

pub bounds-next-j : goal.bounds-next-j
bounds-next-j c = left_slot c.requires.2 (c.tasks.invariant _ _ c.requires.2) c.tasks-test.true c.lowest-task.ensures

pub bounds-release-j : goal.bounds-release-j
bounds-release-j c = left_slot c.requires.2 (c.tasks.invariant _ _ c.requires.2) c.tasks-test.true c.lowest-task.ensures

pub overflow_sub-t : goal.overflow_sub-t
overflow_sub-t c = left_released c.requires.2 (c.tasks.invariant _ _ c.requires.2) c.tasks-test.true c.lowest-task.ensures

pub shows_delay-requires : goal.shows_delay-requires
shows_delay-requires c =
    let below = left_below c.requires.2 (c.tasks.invariant _ _ c.requires.2) c.tasks-test.true c.lowest-task.ensures in
    (c.requires.0, choosing_read c.requires.2 below)

pub returns-then-shows_delay : goal.returns-then-shows_delay
returns-then-shows_delay c = λ ts kept choosing.
    let left = c.tasks.invariant ts kept choosing in
    let below = left_below choosing left c.tasks-test.true c.lowest-task.ensures in
    chosen_shown choosing left c.tasks-test.true c.lowest-task.ensures (c.shows_delay.ensures ts (choosing_read choosing below)) c.if-shows_delay.true

pub tasks-smaller : goal.tasks-smaller
tasks-smaller c =
    let left = c.tasks.invariant _ _ c.requires.2 in
    fewer_left c.requires.2 left c.tasks-test.true c.lowest-task.ensures
    (cleared c.requires.2 left c.tasks-test.true c.lowest-task.ensures c.without_lowest-left.ensures)

pub tasks-preserved : goal.tasks-preserved
tasks-preserved c = λ ts kept choosing.
    let left = c.tasks.invariant ts kept choosing in
    let below = left_below choosing left c.tasks-test.true c.lowest-task.ensures in
    rw (cleared choosing left c.tasks-test.true c.lowest-task.ensures c.without_lowest-left.ensures)
    (left_unshown choosing left c.tasks-test.true c.lowest-task.ensures (c.shows_delay.ensures ts (choosing_read choosing below)) c.if-shows_delay.false)

pub own_delay-requires : goal.own_delay-requires
own_delay-requires c =
    (c.requires.0, choosing_read c.requires.2 (left_below c.requires.2 (left_all c.requires.2) c.if-mask-eq0.false c.lowest-first.ensures))

pub returns : goal.returns
returns c = λ ts kept choosing.
    let below = left_below choosing (left_all choosing) c.if-mask-eq0.false c.lowest-first.ensures in
    chosen_lowest choosing (c.tasks.invariant ts kept choosing) c.tasks-test.false c.lowest-first.ensures c.is_some-own.ensures
    (c.own_delay.ensures ts (choosing_read choosing below))
