-- `decision::idle_judged` meets its contract: no ID there, or the one that is shown. Assumes nothing.
use Rattle.rules.specs.Marks.{ID}
use Rattle.decision.proofs.WholeRecords.{whole_inside, idle_inside, no_id_shown, id_stands, id_shown}
use Rattle.decision.proofs.idle_judged.Goals as goal

pub bounds-image-at : goal.bounds-image-at
bounds-image-at c = idle_inside c.requires.0 _ _ c.requires.1

pub returns-then-image-at : goal.returns-then-image-at
returns-then-image-at c = λ ts can. no_id_shown ts _ _ can c.if-image-at.true

pub idle_at-requires : goal.idle_at-requires
idle_at-requires c = whole_inside _ _ ID (id_stands c.requires.0 _ _ c.requires.1 c.if-image-at.false)

pub returns : goal.returns
returns c = λ ts can. id_shown ts _ _ can (id_stands ts _ _ can c.if-image-at.false) _ c.idle_at.ensures
