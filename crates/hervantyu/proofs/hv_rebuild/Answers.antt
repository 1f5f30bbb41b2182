-- `hervantyu::hv_rebuild` meets its contract: it tells what rebuilding answers, and the output is the rule book's. Assumes nothing.
use Rattle.hervantyu.proofs.hv_rebuild.Goals as goal

pub returns : goal.returns
returns c =
    record { told = rw c.rebuild.ensures.answer at c.told_make.ensures; its_output = c.rebuild.ensures.output }
