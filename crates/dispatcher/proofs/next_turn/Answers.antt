-- `dispatcher::next_turn` meets its contract: after the last cycle, in the next, or in this one. Assumes nothing.
use Rattle.std.proofs.Common.{◌≡◌}
use Rattle.rules.specs.Dispatcher.{next_turn}
use Rattle.numbers.specs.Numbers.{state_from}
use Rattle.dispatcher.specs.Stored.{start_from}
use Rattle.dispatcher.proofs.NextTurns.{next_cycle, in_this_cycle, in_the_next, after_last_cycle}
use Rattle.dispatcher.proofs.StoredStarts.{stored_as, refused_kept}
use Rattle.dispatcher.proofs.next_turn.Goals as goal
use Rattle.dispatcher.proofs.next_turn.Goals.{else-all_started, then-all_started+else-numbers-ge-LAST_CYCLE}

pub returns-then-numbers-ge-LAST_CYCLE : goal.returns-then-numbers-ge-LAST_CYCLE
returns-then-numbers-ge-LAST_CYCLE c =
    refused_kept (after_last_cycle c.requires _ c.if-all_started.ensures c.if-numbers-ge-LAST_CYCLE.true) c.requires.starts.long
    c.refusal.ensures

pub start_next-requires : goal.start_next-requires
start_next-requires c =
    elim c.if-all_started.branch [
      | then-all_started+else-numbers-ge-LAST_CYCLE w ↦
          rw (w.numbers-is, w.from-is) (next_cycle c.requires w.begin_again.ensures.long w.begin_again.ensures.state)
      | else-all_started w ↦ rw (w.numbers-is, w.from-is) c.requires.starts
    ]

pub returns : goal.returns
returns c =
    let image = c.args.image.now in
    let turn : start_from image (state_from c.if-all_started.numbers) c.if-all_started.from.1 ≡ next_turn image (state_from c.args.numbers.now) =
    elim c.if-all_started.branch [
      | then-all_started+else-numbers-ge-LAST_CYCLE w ↦
          rw (w.numbers-is, w.from-is)
          (in_the_next c.requires _ w.if-all_started.ensures w.if-numbers-ge-LAST_CYCLE.false w.begin_again.ensures.state)
      | else-all_started w ↦ rw (w.numbers-is, w.from-is) (in_this_cycle c.requires _ w.if-all_started.ensures)
    ] in
    stored_as turn c.start_next.ensures
