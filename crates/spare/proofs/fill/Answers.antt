-- `spare::fill` meets its contract. The invariant: for every set that the rows are kept of, the capacities of the intervals passed are stored.
-- Assumes nothing.
use mathlib.Core.Path.{◌∙◌}
use mir.Syntax.{w64}
use mir.Facts.{to_z-of_z}
use borrow.Author.Rules.{sfits_of}
use Rattle.spare.proofs.Filling.{can_fill, filling_none, filling_all, filling_more}
use Rattle.spare.proofs.fill.Goals as goal

pub loop-w-init : goal.loop-w-init
loop-w-init c = λ ts can. rw c.begin-w.ensures (filling_none can c.last_deadlines-dues.ensures)

pub loop-w-preserved : goal.loop-w-preserved
loop-w-preserved c =
    λ ts can.
    let F = c.loop-w.invariant ts can in
    filling_more can F (c.previous-p.ensures ts F.walks) (to_z-of_z {w = w64} (sfits_of {w = w64} c.capacity-next.type_inv) ∙ c.capacity-next.ensures)

pub returns : goal.returns
returns c =
    let can = c.requires.1 in
    λ ts keeps.
    let its = can_fill can keeps in filling_all its (c.loop-w.invariant ts its) c.loop-w-test.false
