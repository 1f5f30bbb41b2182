-- `dispatcher::store_start` meets its contract. Assumes nothing.
use Rattle.dispatcher.proofs.StoredStarts.{start_made}
use Rattle.dispatcher.proofs.store_start.Goals as goal

pub returns : goal.returns
returns c =
    let made = start_made c.args.numbers.now c.args.f c.requires.long c.requires.slot in
    record { state = made.is; long = made.long }
