-- `dispatcher::go_on_numbers` meets its contract: 23, or by the set. Assumes nothing.
use Rattle.std.proofs.Common.{rules}
use Rattle.dispatcher.proofs.NextTurns.{stays_stopped, impossible_set, with_good_set}
use Rattle.dispatcher.proofs.StoredStarts.{refused_kept, refused_stopped}
use Rattle.dispatcher.proofs.go_on_numbers.Goals as goal

pub returns-then-is_stopped : goal.returns-then-is_stopped
returns-then-is_stopped c = refused_kept (stays_stopped _ _ _ c.if-is_stopped.ensures) (search rules) c.refusal.ensures

pub returns-then-is_err : goal.returns-then-is_err
returns-then-is_err c =
    refused_stopped
    (impossible_set _ _ _ c.if-is_stopped.ensures c.judge_kept.ensures.answer c.if-is_err.ensures.value)
    c.refusal-then-is_err.ensures c.stop.ensures

pub go_on_good-requires : goal.go_on_good-requires
go_on_good-requires c =
    with_good_set (search rules) c.if-is_stopped.ensures c.judge_kept.ensures c.if-is_err.ensures.value

pub returns : goal.returns
returns c = c.go_on_good.ensures
