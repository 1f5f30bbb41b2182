-- `sets::limited` meets its contract: its test is that of 9. Assumes nothing.
use borrow.Author.Tests.{le-leb, lt-leb}
use Rattle.sets.proofs.limited.Goals as goal

pub returns-then-jobs-gt4096 : goal.returns-then-jobs-gt4096
returns-then-jobs-gt4096 c = rw (lt-leb _ _ c.if-jobs-gt4096.true)

pub returns : goal.returns
returns c = rw (le-leb _ _ c.if-jobs-gt4096.false)
