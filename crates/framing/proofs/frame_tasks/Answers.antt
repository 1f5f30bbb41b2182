-- `framing::frame_tasks` meets its contract. The loop's invariant: framing comes to this place, which is on the way to the one behind the tasks. The
-- measure is the number of bytes left. Assumes nothing.
use mathlib.Core.Path.{refl}
use native.Mathlib.Omega.{arith}
use Rattle.std.proofs.lemmas.Result.{err_from_is_err_and}
use Rattle.framing.proofs.PlaceLaws.{placed_at_start}
use Rattle.framing.proofs.StepLaws.{reached}
use Rattle.framing.proofs.TaskLaws.{towards_at_start, behind_last, leads_on, refused_tasks}
use Rattle.framing.proofs.frame_tasks.Goals as goal

pub records-init : goal.records-init
records-init c = (record { placed = placed_at_start _; same = refl }, towards_at_start _)

pub returns-in_err-t : goal.returns-in_err-t
returns-in_err-t c =
    let i = c.records.invariant in
    let p = err_from_is_err_and c.from_residual.result c.from_residual.ensures.1 in
    rw (p.1, p.2) (refused_tasks i.0 i.1 c.records-test.true c.in_err-t.ensures)

pub past_tasks-s-requires : goal.past_tasks-s-requires
past_tasks-s-requires c =
    let i = c.records.invariant in
    let f = rw c.in-GoesOn.is at c.in_ok-t.ensures in
    record { placed = f.0; towards = leads_on i.0 i.1 c.records-test.true f }

pub records-smaller : goal.records-smaller
records-smaller c =
    let f = rw c.in-GoesOn.is at c.in_ok-t.ensures in
    let p = c.past_tasks-s.ensures _ (reached c.records.invariant.0 f) in
    omega (arith, f.1, p.reached.placed.inside, p.onwards)

pub records-preserved : goal.records-preserved
records-preserved c =
    let p = c.past_tasks-s.ensures _ (reached c.records.invariant.0 (rw c.in-GoesOn.is at c.in_ok-t.ensures)) in (p.reached, p.towards)

pub returns-in-Ended : goal.returns-in-Ended
returns-in-Ended c = absurd (omega (arith, (rw c.in-Ended.is at c.in_ok-t.ensures).2))

pub returns : goal.returns
returns c = behind_last c.records.invariant.0 c.records.invariant.1 c.records-test.false
