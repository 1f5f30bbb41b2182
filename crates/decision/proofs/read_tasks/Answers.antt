-- `decision::read_tasks` meets its contract. Assumes nothing.
use Rattle.std.proofs.Common.{◌≡◌, false, below_more, arith}
use Rattle.std.proofs.lemmas.Result.{err_from_is_err_and}
use Rattle.rules.specs.Priority.{slot}
use Rattle.rules.specs.Offsets.{lent, readable}
use Rattle.sets.specs.Kept.{tasks_in}
use Rattle.rules.proofs.Arrays.{slot_element}
use Rattle.decision.proofs.WholeRecords.{read_shown, unread_shown}
use Rattle.decision.proofs.Reading.{same_readable, all_read, not_read}
use Rattle.decision.proofs.read_tasks.Goals as goal

pub returns-then-judged : goal.returns-then-judged
returns-then-judged c = λ ts fits.
    let given = c.requires.read c.if-judged.true in
    rw (same_readable given.1 fits _ _ given.2)

pub returns-in_err-inversion_shown : goal.returns-in_err-inversion_shown
returns-in_err-inversion_shown c = λ ts fits.
    let a = c.args in
    let e = err_from_is_err_and c.from_residual.result c.from_residual.ensures.1 in
    let unread : readable ((lent a.image.now ts).inversion_shown (slot a.offsets.now c.loop-i.i)) ≡ false =
    rw slot_element (unread_shown _ _ (c.in_err-inversion_shown.ensures ts fits)) in
    rw (e.1) (not_read (lent a.image.now ts) (tasks_in a.kept.now) a.offsets.now c.loop-i.i c.loop-i-test.true unread _)

pub loop-i-preserved : goal.loop-i-preserved
loop-i-preserved c = λ ts fits.
    below_more _ _ (c.loop-i.invariant ts fits) (rw slot_element (read_shown _ _ (c.in_ok-inversion_shown.ensures ts fits)))

pub returns : goal.returns
returns c = λ ts fits.
    let a = c.args in
    all_read (lent a.image.now ts) (tasks_in a.kept.now) a.offsets.now (λ i l. c.loop-i.invariant ts fits i (omega arith))
