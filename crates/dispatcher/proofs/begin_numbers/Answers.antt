-- `dispatcher::begin_numbers` meets its contract: the image is refused, or the first start is made. Assumes nothing.
use Rattle.std.proofs.Common.{rules, ◌∙◌, ap}
use Rattle.rules.specs.declared.Dispatcher.{Dispatcher as State}
use Rattle.dispatcher.specs.Stored.{start_from}
use Rattle.dispatcher.proofs.Beginning.{refused_beginning, first_turn, can_begin}
use Rattle.dispatcher.proofs.StoredStarts.{stored_as}
use Rattle.dispatcher.proofs.begin_numbers.Goals as goal

pub returns-in-Err : goal.returns-in-Err
returns-in-Err c = stored_as (refused_beginning _ c.in-Err.ensures) c.stop.ensures

pub start_next-requires : goal.start_next-requires
start_next-requires c = can_begin c.in-Ok.ensures (search rules) (c.numbers_of.ensures.state ∙ c.fresh.ensures)

pub returns : goal.returns
returns c =
    let bytes = c.args.image.now in
    stored_as (ap (λ (d : State). start_from bytes d 0) (c.numbers_of.ensures.state ∙ c.fresh.ensures) ∙ first_turn bytes c.in-Ok.ensures) c.start_next.ensures
