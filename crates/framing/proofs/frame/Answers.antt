-- `framing::frame` meets its contract: behind the tasks, framing goes on behind the runs that follow them. Assumes nothing.
use native.Mathlib.Omega.{arith}
use Rattle.framing.proofs.Runs.{behind_idles, inversions_passed}
use Rattle.framing.proofs.frame.Goals as goal

pub run-inversions-requires : goal.run-inversions-requires
run-inversions-requires c = (behind_idles (rw c.number-kind.ensures at c.in_ok-s.ensures) c.run-idles.ensures c.past-t.ensures).0.placed.inside

pub overflow_add-t : goal.overflow_add-t
overflow_add-t c =
    let p = (behind_idles (rw c.number-kind.ensures at c.in_ok-s.ensures) c.run-idles.ensures c.past-t.ensures).0.placed in
    omega (arith, c.run-inversions.ensures.inside, p.few, p.few_listed)

pub past-behind-requires : goal.past-behind-requires
past-behind-requires c =
    let p = (behind_idles (rw c.number-kind.ensures at c.in_ok-s.ensures) c.run-idles.ensures c.past-t.ensures).0.placed in
    let i = c.run-inversions.ensures.inside in
    record { index = omega (arith, i, p.few); offset = omega (arith, i) }

pub frame_from-requires : goal.frame_from-requires
frame_from-requires c =
    let idles = behind_idles (rw c.number-kind.ensures at c.in_ok-s.ensures) c.run-idles.ensures c.past-t.ensures in
    rw (c.past-behind.ensures, c.number-kind.ensures) (inversions_passed idles.0 idles.1 idles.2 _ _ c.run-inversions.ensures)
