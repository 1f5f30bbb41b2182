-- `rebuilding::put_entries` meets its contract: the cycle's starts are the entries, put one behind the other behind the tasks. Assumes nothing.
use Rattle.replay.proofs.Cycles.{image_bytes}
use Rattle.rebuilding.proofs.Putting.{can_replay, all_put}
use Rattle.rebuilding.proofs.put_entries.Goals as goal

pub cycle-requires : goal.cycle-requires
cycle-requires c =
    (c.requires.0, can_replay c.requires.1.behind c.requires.1.keeps)

pub returns : goal.returns
returns c =
    λ ts τ keeps b.
    all_put b keeps (image_bytes _ c.type_inv.image) c.requires.1 c.head_length-from.ensures (c.cycle.ensures ts (can_replay b keeps)).output
