-- The fields stored are the body of a TS. Assumes nothing.
use Rattle.fields.proofs.Bodies.{body_stored}
use Rattle.rules.specs.Marks.{TS, row}
use Rattle.images.specs.Bodies.{of_head}
use Rattle.images.proofs.HeadRecord.to_body.Goals as goal

pub returns : goal.returns
returns c = rw (c.store-3.ensures, c.store-2.ensures, c.store.ensures) (body_stored (row TS).widths (of_head c.args.self) c.args.body.now c.requires)
