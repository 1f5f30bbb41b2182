-- `framing::step_at` meets its contract: the tests of a record in their order, and behind them what the record's own function answers. Assumes nothing.
use native.Mathlib.Omega.{arith}
use Rattle.framing.proofs.StepLaws.{too_short, no_mark, not_allowed, cut_off, behind_mark}
use Rattle.framing.proofs.step_at.Goals as goal

pub returns-then-left-lt2 : goal.returns-then-left-lt2
returns-then-left-lt2 c = rw c.refusal_at.ensures (too_short _ _ _ c.if-left-lt2.true)

pub returns-in_default : goal.returns-in_default
returns-in_default c = rw c.refusal_at-in_default.ensures (no_mark _ _ _ c.if-left-lt2.false c.in_default.ensures)

pub returns-then-not-allowed : goal.returns-then-not-allowed
returns-then-not-allowed c = rw c.refusal_at-then-not-allowed.ensures (not_allowed _ _ _ c.if-left-lt2.false c.in-Some.ensures c.if-not-allowed.ensures)

pub returns-then-left-size : goal.returns-then-left-size
returns-then-left-size c =
    rw c.refusal_at-then-left-size.ensures
    (cut_off _ _ _ c.if-left-lt2.false c.in-Some.ensures c.if-not-allowed.ensures (rw c.size.ensures at c.if-left-size.true))

pub returns : goal.returns
returns c =
    behind_mark _ _ _ c.if-left-lt2.false c.in-Some.ensures c.if-not-allowed.ensures
    (record { placed = c.requires; not_cut = omega (arith, c.size.ensures, c.requires.inside) }) _ c.after.ensures
