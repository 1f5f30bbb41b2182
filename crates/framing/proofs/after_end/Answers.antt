-- `framing::after_end` meets its contract: EN's test, on the number that the rule book reads. Assumes nothing.
use Rattle.framing.proofs.RecordLaws.{bad_end, good_end}
use Rattle.framing.proofs.after_end.Goals as goal

pub returns-then-number-s : goal.returns-then-number-s
returns-then-number-s c kind = bad_end c.requires c.read-number.ensures c.refusal_at.ensures c.if-number-s.true

pub returns : goal.returns
returns c kind = good_end c.requires c.read-number.ensures c.if-number-s.false
