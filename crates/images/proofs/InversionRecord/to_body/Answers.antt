-- The fields stored are the body of a PV. Assumes nothing.
use Rattle.fields.proofs.Bodies.{body_stored}
use Rattle.rules.specs.Marks.{PV, row}
use Rattle.rules.specs.Image.{of_inversion}
use Rattle.images.proofs.InversionRecord.to_body.Goals as goal

pub returns : goal.returns
returns c = rw (c.store-3.ensures, c.store-2.ensures, c.store.ensures) (body_stored (row PV).widths (of_inversion c.args.self) c.args.body.now c.requires)
