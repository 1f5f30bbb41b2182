-- `framing::after_head` meets its contract: TS's tests in turn, on the values that the rule book reads. Assumes nothing.
use Rattle.framing.proofs.RecordLaws.{bad_edition, bad_kind, bad_count, good_head}
use Rattle.framing.proofs.after_head.Goals as goal

pub returns-then-h-ne1 : goal.returns-then-h-ne1
returns-then-h-ne1 c = bad_edition c.requires c.read-h.ensures c.refusal_at.ensures c.if-h-ne1.true

pub returns-then-h-kind : goal.returns-then-h-kind
returns-then-h-kind c = bad_kind c.requires c.read-h.ensures c.if-h-ne1.false c.refusal_at-then-h-kind.ensures c.if-h-kind.true

pub returns-then-h-lt1 : goal.returns-then-h-lt1
returns-then-h-lt1 c =
    bad_count c.requires c.read-h.ensures c.if-h-ne1.false c.if-h-kind.false c.refusal_at-then-h-lt1.ensures c.then-h-lt1.either

pub returns : goal.returns
returns c =
    good_head c.requires c.read-h.ensures c.if-h-ne1.false c.if-h-kind.false c.tasks_due.ensures c.if-h-lt1.false c.if-h-gt16.false
