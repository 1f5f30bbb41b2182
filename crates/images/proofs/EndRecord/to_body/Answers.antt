-- The fields stored are the body of an EN. Assumes nothing.
use Rattle.fields.proofs.Bodies.{body_stored}
use Rattle.rules.specs.Marks.{EN, row}
use Rattle.images.specs.Bodies.{of_end}
use Rattle.images.proofs.EndRecord.to_body.Goals as goal

pub returns : goal.returns
returns c = rw (c.store.ensures) (body_stored (row EN).widths (of_end c.args.self) c.args.body.now c.requires)
