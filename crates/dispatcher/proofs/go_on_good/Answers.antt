-- `dispatcher::go_on_good` meets its contract: each of its tests is one of the document's, in its order. Assumes nothing.
use Rattle.std.proofs.Common.{arith}
use Rattle.dispatcher.proofs.NextTurns.{few_tasks, too_many, no_such_job, free_by_end, can_go_on, too_early, too_late, goes_on}
use Rattle.dispatcher.proofs.StoredStarts.{stored_as, refused_kept, refused_stopped}
use Rattle.dispatcher.proofs.go_on_good.Goals as goal

pub returns-then-not-measured : goal.returns-then-not-measured
returns-then-not-measured c = refused_stopped (too_many c.requires c.if-not-measured.ensures _ _) c.refusal.ensures c.stop.ensures

pub running_task-requires : goal.running_task-requires
running_task-requires c = record { few = few_tasks c.requires }

pub returns-in_default : goal.returns-in_default
returns-in_default c = refused_stopped (no_such_job c.requires c.in_default.ensures _ _) c.refusal-in_default.ensures c.stop-in_default.ensures

pub returns-then-end-began : goal.returns-then-end-began
returns-then-end-began c =
    refused_kept (too_early c.requires c.if-not-measured.ensures c.in-Some.ensures _ _ (omega arith)) c.requires.long c.refusal-then-end-began.ensures

pub returns-then-from-end : goal.returns-then-from-end
returns-then-from-end c =
    refused_stopped (too_late c.requires c.if-not-measured.ensures c.in-Some.ensures _ _ (omega arith) (omega arith)) c.refusal-then-from-end.ensures
    c.stop-then-from-end.ensures

pub overflow_add-start : goal.overflow_add-start
overflow_add-start c = omega (arith, free_by_end c.requires c.if-not-measured.ensures c.in-Some.ensures, c.requires.keeps.good.short)

pub next_turn-requires : goal.next_turn-requires
next_turn-requires c = can_go_on c.requires c.if-not-measured.ensures c.in-Some.ensures

pub returns : goal.returns
returns c = stored_as (goes_on c.requires c.if-not-measured.ensures c.in-Some.ensures _ _ (omega arith) (omega arith)) c.next_turn.ensures
