-- The word is put, and the number behind it.
use Rattle.text.proofs.TextPuts.{both_put}
use Rattle.lines.specs.Text.{ok_line}
use Rattle.lines.proofs.put_ok.Goals as goal

pub returns : goal.returns
unfolding ok_line
returns c = both_put c.requires c.bytes.ensures c.number.ensures
