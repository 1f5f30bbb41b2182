-- `hervantyu::hv_derive` meets its contract: it tells what deriving answers, and the output is the rule book's. Assumes nothing.
use Rattle.hervantyu.proofs.hv_derive.Goals as goal

pub returns : goal.returns
returns c =
    record { told = rw c.derive.ensures.answer at c.told_make.ensures; its_output = c.derive.ensures.output }
