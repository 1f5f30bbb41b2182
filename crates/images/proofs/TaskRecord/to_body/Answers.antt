-- The fields stored are the body of a TK. Assumes nothing.
use Rattle.fields.proofs.Bodies.{body_stored}
use Rattle.rules.specs.Marks.{TK, row}
use Rattle.rules.specs.Image.{of_task}
use Rattle.images.proofs.TaskRecord.to_body.Goals as goal

pub returns : goal.returns
returns c = rw (c.store-4.ensures, c.store-3.ensures, c.store-2.ensures, c.store.ensures) (body_stored (row TK).widths (of_task c.args.self) c.args.body.now c.requires)
