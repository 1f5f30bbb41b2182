-- `images::marked` meets its contract: the first two bytes, as one number, compared with those of the mark's row. Assumes nothing.
use mathlib.Core.Path.{◌∙◌}
use borrow.Author.Rules.{rules}
use Rattle.images.proofs.TableLaws.{stands_pair}
use Rattle.images.proofs.marked.Goals as goal

pub returns : goal.returns
returns g c = (search rules) ∙ stands_pair _ _ _ c.requires (search rules)
