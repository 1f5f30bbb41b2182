-- The figures passed are put.
use Rattle.reporting.proofs.FigureLines.{FiguresPut}
use Rattle.reporting.proofs.put_figures.Given as goal

abbrev pub invariant-loop-z : goal.invariant-loop-z
invariant-loop-z l = FiguresPut l.figures l.initial.page l.z-index l.page
