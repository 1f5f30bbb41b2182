-- `records::idle_at` meets its contract: the body is read where the rule book reads it. Assumes nothing.
use Rattle.std.proofs.Common.{◌∙◌}
use Rattle.images.proofs.BodyLaws.{idle_body_is}
use Rattle.records.proofs.idle_at.Goals as goal

pub returns : goal.returns
returns c = c.read.ensures ∙ idle_body_is c.args.image.now c.args.at c.requires
