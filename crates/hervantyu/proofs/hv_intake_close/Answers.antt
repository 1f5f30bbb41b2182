-- `hervantyu::hv_intake_close` meets its contract: it tells what closing answers, and the intake is shut. Assumes nothing.
use Rattle.hervantyu.proofs.hv_intake_close.Goals as goal

pub returns : goal.returns
returns c = record { told = rw (c.close.ensures, c.shut.ensures.before) at c.told_make.ensures; its_numbers = c.shut.ensures.after }
