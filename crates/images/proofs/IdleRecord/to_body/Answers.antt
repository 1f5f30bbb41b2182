-- The fields stored are the body of an ID. Assumes nothing.
use Rattle.fields.proofs.Bodies.{body_stored}
use Rattle.rules.specs.Marks.{ID, row}
use Rattle.rules.specs.Image.{of_idle}
use Rattle.images.proofs.IdleRecord.to_body.Goals as goal

pub returns : goal.returns
returns c = rw (c.store-2.ensures, c.store.ensures) (body_stored (row ID).widths (of_idle c.args.self) c.args.body.now c.requires)
