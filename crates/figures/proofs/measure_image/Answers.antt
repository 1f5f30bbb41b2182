-- `figures::measure_image` meets its contract: the image is judged, its figures counted, and put where there is room. Assumes nothing.
use native.Mathlib.Omega.{arith}
use Rattle.rebuilding.proofs.Rebuilding.{behind_good}
use Rattle.figures.proofs.Answers.{few_figures, too_short, measured_so}
use Rattle.figures.proofs.measure_image.Goals as goal

pub overflow_add-figures-2 : goal.overflow_add-figures-2
overflow_add-figures-2 c = let g = c.in_ok-t.ensures in omega (arith, few_figures g (c.count-many.ensures _ g.keeps))

pub returns-then-out-figures : goal.returns-then-out-figures
returns-then-out-figures c = let g = c.in_ok-t.ensures in too_short g (c.count-many.ensures _ g.keeps) _ c.if-out-figures.true

pub returns : goal.returns
returns c =
    let g = c.in_ok-t.ensures in
    measured_so g (c.count-many.ensures _ g.keeps) _ c.if-out-figures.false (c.put_figures.ensures _ _ g.keeps (behind_good g))
