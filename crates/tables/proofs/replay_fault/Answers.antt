-- `tables::replay_fault` meets its contract: by where replay of the cycle ends. Assumes nothing.
use mathlib.Core.Path.{sym, ◌∙◌, ap}
use Rattle.decision.specs.Next.{numbered}
use Rattle.replay.proofs.Cycles.{image_bytes}
use Rattle.tables.proofs.Replaying.{replay_at_late, replay_at_ends, replay_at_done}
use Rattle.tables.proofs.replay_fault.Goals as goal

pub unused-requires : goal.unused-requires
unused-requires c =
    let ran = c.cycle-run.ensures _ c.requires.1.can in
    rw (c.head_count-before.ensures, ran.wasted)
    (replay_at_ends (image_bytes _ c.type_inv.image) c.requires.1 c.in-Ok.f (sym ran.last ∙ ap numbered c.in-Ok.is))

pub returns-in_default : goal.returns-in_default
returns-in_default c =
    let ran = c.cycle-run.ensures _ c.requires.1.can in
    rw ran.made (replay_at_late (image_bytes _ c.type_inv.image) c.requires.1 _ (sym ran.last ∙ ap numbered c.in_default.is))

pub returns : goal.returns
returns c =
    let ran = c.cycle-run.ensures _ c.requires.1.can in
    rw (c.unused.ensures, c.head_count-before.ensures, ran.wasted)
    (replay_at_done (image_bytes _ c.type_inv.image) c.requires.1 c.in-Ok.f (sym ran.last ∙ ap numbered c.in-Ok.is))
