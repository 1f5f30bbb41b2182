-- `replay::cycle` meets its contract: a run of as many starts as the cycle has jobs, from where it begins. Assumes nothing.
use Rattle.std.proofs.Common.{ℕ, subst}
use Rattle.replay.specs.Runs.{Ran, run_from, cycle_start, cycle_front}
use Rattle.replay.proofs.Cycles.{image_bytes, all_kept, cycle_can}
use Rattle.replay.proofs.cycle.Goals as goal

pub starts-requires : goal.starts-requires
starts-requires c =
    let (ts, can) = c.requires in
    (ts, cycle_can (image_bytes _ c.type_inv.image) can)

pub returns : goal.returns
returns c = λ ts can.
    let bytes = image_bytes _ c.type_inv.image in
    let a = c.args in
    subst (λ (n : ℕ). Ran (run_from ts a.image.now (cycle_start a.kept.now a.first) (cycle_front a.first) n) a.out.now c.starts.result c.starts.new.out)
    (all_kept bytes can) (c.starts.ensures ts (cycle_can bytes can))
