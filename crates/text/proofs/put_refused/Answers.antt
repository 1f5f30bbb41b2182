-- The line is put at the front.
use Rattle.std.proofs.Common.{arith, ap, length, rules}
use Rattle.text.proofs.TextPuts.{page_front}
use Rattle.text.proofs.put_refused.Goals as goal

pub refused-requires : goal.refused-requires
refused-requires c = omega (arith, ap length c.new-page.ensures.kept)

pub returns : goal.returns
returns c = let front = page_front c.new-page.ensures c.requires c.refused.ensures in search rules
