-- `records::inversion_keeps` meets its contract: each of its tests is one of the rule's, for every set that the rows are kept of. Assumes nothing.
use Rattle.records.proofs.OwnRules.{task_out, job_out, delay_tested}
use Rattle.records.proofs.inversion_keeps.Goals as goal

pub returns-then-n-i : goal.returns-then-n-i
returns-then-n-i c = λ ts s. task_out s c.args.r c.if-n-i.true

pub returns-then-kept-i : goal.returns-then-kept-i
returns-then-kept-i c =
    λ ts s. job_out s c.args.r c.if-n-i.false c.if-kept-i.true

pub returns : goal.returns
returns c =
    λ ts s. delay_tested s c.args.r c.if-n-i.false c.if-kept-i.false
