-- `decision::past_idles` meets its contract. Assumes nothing.
use Rattle.std.proofs.Common.{refl, arith}
use Rattle.decision.proofs.Deciding.{judged_readable, idled_none, idled_other, used_fits, less_left, decides_again}
use Rattle.decision.proofs.past_idles.Goals as goal

pub decisions-init : goal.decisions-init
decisions-init c = record {
  by_end = c.requires.by_end;
  same = λ ts i. refl;
  idles_read = λ judged. (c.requires.idling.0, c.requires.idling.1.fits.set, c.requires.idling.2 judged);
}

pub idle_shown-requires-clause-read : goal.idle_shown-requires-clause-read
idle_shown-requires-clause-read c = judged_readable c.decisions.invariant

pub overflow_add-from : goal.overflow_add-from
overflow_add-from c =
    let given = c.requires.idling.1 in
    let shown = rw c.in-Some.is at (c.in_ok-r.ensures _ given.fits.set) in
    omega (arith, (used_fits c.decisions.invariant c.later-t.ensures c.least-first.ensures _ given shown c.if-r-t.true).1, given.fits.set.good.short)

pub overflow_add-o : goal.overflow_add-o
overflow_add-o c =
    let given = c.requires.idling.1 in
    let shown = rw c.in-Some.is at (c.in_ok-r.ensures _ given.fits.set) in
    omega (arith, (used_fits c.decisions.invariant c.later-t.ensures c.least-first.ensures _ given shown c.if-r-t.true).2)

pub decisions-smaller : goal.decisions-smaller
decisions-smaller c =
    let given = c.requires.idling.1 in
    let shown = rw c.in-Some.is at (c.in_ok-r.ensures _ given.fits.set) in
    less_left c.decisions.invariant c.later-t.ensures c.least-first.ensures _ given shown c.if-r-t.true

pub decisions-preserved : goal.decisions-preserved
decisions-preserved c =
    decides_again c.decisions.invariant c.later-t.ensures c.least-first.ensures _ c.requires.idling.1
    (λ ts keeps. rw c.in-Some.is at (c.in_ok-r.ensures ts keeps)) c.if-r-t.true

pub returns-in_default : goal.returns-in_default
returns-in_default c = λ ts i.
    idled_other c.decisions.invariant c.later-t.ensures c.least-first.ensures ts i (rw c.in-Some.is at (c.in_ok-r.ensures ts i.fits.set)) c.if-r-t.false

pub returns-in_default-2 : goal.returns-in_default-2
returns-in_default-2 c = λ ts i.
    idled_none c.decisions.invariant c.later-t.ensures c.least-first.ensures ts i (rw c.in_default.is at (c.in_ok-r.ensures ts i.fits.set))
