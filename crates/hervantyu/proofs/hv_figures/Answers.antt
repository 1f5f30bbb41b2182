-- `hervantyu::hv_figures` meets its contract: it tells what measuring answers, and the figures are the rule book's. Assumes nothing.
use Rattle.hervantyu.proofs.hv_figures.Goals as goal

pub returns : goal.returns
returns c =
    record { told = rw c.measure.ensures.answer at c.told_axis.ensures; its_figures = c.measure.ensures.output }
