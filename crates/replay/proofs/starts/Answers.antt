-- `replay::starts` meets its contract. The invariant: for every set that the run may be of, the run stands behind the starts made so far. The measure: the
-- starts that are wanted beyond them. Assumes nothing.
use mathlib.Core.Path.{sym, ◌∙◌}
use native.Mathlib.Omega.{arith}
use Rattle.replay.proofs.Running.{run_begins, run_reads, run_stuck, run_task, run_ends, run_steps, run_on}
use Rattle.replay.proofs.starts.Goals as goal

pub loop-f-init : goal.loop-f-init
loop-f-init c = λ ts can. run_begins can _

pub next_start-last-requires : goal.next_start-last-requires
next_start-last-requires c =
    let r = c.loop-f.invariant c.requires.0 c.requires.1 in
    (c.requires.0, r.stands, run_reads c.requires.1 _ r)

-- the task of the start that is found has a slot
pub bounds-at-f : goal.bounds-at-f
bounds-at-f c =
    let r = c.loop-f.invariant c.requires.0 c.requires.1 in
    run_task c.requires.1 _ r c.in-Ok.f (sym (c.in-Ok.ensures c.requires.0 r.stands))

pub overflow_add-made : goal.overflow_add-made
overflow_add-made c = omega (arith, (c.loop-f.invariant c.requires.0 c.requires.1).left)

pub step-front-requires : goal.step-front-requires
step-front-requires c =
    let r = c.loop-f.invariant c.requires.0 c.requires.1 in
    run_steps c.requires.1 _ r c.in-Ok.f (sym (c.in-Ok.ensures c.requires.0 r.stands)) c.if-wanted-made.false

pub loop-f-preserved : goal.loop-f-preserved
loop-f-preserved c = λ ts can.
    let r = c.loop-f.invariant ts can in
    run_on can _ r c.in-Ok.f (sym (c.in-Ok.ensures ts r.stands)) c.if-wanted-made.false c.step-front.ensures.rows c.step-front.ensures.front
    c.wasted_after-wasted.ensures c.put_start-place.ensures

pub returns-in_default : goal.returns-in_default
returns-in_default c = λ ts can.
    let r = c.loop-f.invariant ts can in
    rw c.in_default.is (run_stuck can _ r _ (sym (c.in_default.ensures ts r.stands)))

pub shape_of-out-then-wanted-made : goal.shape_of-out-then-wanted-made
shape_of-out-then-wanted-made c =
    c.put_start-place.ensures.same_length ∙ (c.loop-f.invariant c.requires.0 c.requires.1).same_length

pub returns-then-wanted-made : goal.returns-then-wanted-made
returns-then-wanted-made c = λ ts can.
    let r = c.loop-f.invariant ts can in
    rw c.wasted_after-wasted.ensures
    (run_ends can _ r c.in-Ok.f (sym (c.in-Ok.ensures ts r.stands)) c.put_start-place.ensures c.if-wanted-made.true)
