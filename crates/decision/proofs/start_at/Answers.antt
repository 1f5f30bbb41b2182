-- `decision::start_at` meets its contract: at the end of the cycle, with no task chosen, late, or with a start. Assumes nothing.
use Rattle.std.proofs.Common.{◌∙◌, ap}
use Rattle.std.specs.Int.Count.{count_trailing_zeros}
use Rattle.decision.proofs.Starting.{none_at_end, choosing, none_chosen, chosen_come, chosen_late, chosen_room, chosen_starts}
use Rattle.decision.proofs.start_at.Goals as goal

pub returns-then-kept-t : goal.returns-then-kept-t
returns-then-kept-t c = λ ts f s. none_at_end s c.if-kept-t.true

pub chosen_task-c-requires : goal.chosen_task-c-requires
chosen_task-c-requires c = (c.requires.0, _, choosing c.requires.2 c.if-kept-t.false c.waiting-mask.ensures)

pub returns-then-n-i : goal.returns-then-n-i
returns-then-n-i c = λ ts f s.
    let before = c.if-kept-t.false in
    none_chosen s before c.waiting-mask.ensures (c.chosen_task-c.ensures ts _ (choosing s before c.waiting-mask.ensures)) c.if-n-i.true

pub overflow_sub-t : goal.overflow_sub-t
overflow_sub-t c =
    let before = c.if-kept-t.false in
    chosen_come c.requires.2 before c.waiting-mask.ensures
    (c.chosen_task-c.ensures c.requires.0 _ (choosing c.requires.2 before c.waiting-mask.ensures)) c.if-n-i.false

pub returns-then-slack-i : goal.returns-then-slack-i
returns-then-slack-i c = λ ts f s.
    let before = c.if-kept-t.false in
    chosen_late s before c.waiting-mask.ensures (c.chosen_task-c.ensures ts _ (choosing s before c.waiting-mask.ensures)) c.if-n-i.false c.if-slack-i.true

pub own_offset-inversion-requires : goal.own_offset-inversion-requires
own_offset-inversion-requires c =
    let before = c.if-kept-t.false in
    chosen_room c.requires.2 before c.waiting-mask.ensures
    (c.chosen_task-c.ensures c.requires.0 _ (choosing c.requires.2 before c.waiting-mask.ensures)) c.if-n-i.false

pub returns : goal.returns
returns c = λ ts f s.
    let before = c.if-kept-t.false in
    chosen_starts s before c.waiting-mask.ensures (c.chosen_task-c.ensures ts _ (choosing s before c.waiting-mask.ensures)) c.if-n-i.false c.if-slack-i.false
    c.own_offset-inversion.ensures (c.lowest.ensures ∙ ap (count_trailing_zeros 16) c.without_started-left.ensures)
