-- The fields stored are the body of an SL. Assumes nothing.
use Rattle.fields.proofs.Bodies.{body_stored}
use Rattle.rules.specs.Marks.{SL, row}
use Rattle.rules.specs.Image.{of_entry}
use Rattle.images.proofs.EntryRecord.to_body.Goals as goal

pub returns : goal.returns
returns c = rw (c.store-2.ensures, c.store.ensures) (body_stored (row SL).widths (of_entry c.args.self) c.args.body.now c.requires)
