-- The word is put, and the number, the place and the offset behind it.
use Rattle.std.proofs.Common.{arith, length-append, ◌++◌}
use Rattle.text.specs.Text.{space, line_end, number_then, refused_text}
use Rattle.text.proofs.Lengths.{refused_parts}
use Rattle.text.proofs.TextPuts.{both_put}
use Rattle.text.proofs.Page.refused.Goals as goal

pub returns : goal.returns
unfolding refused_text
returns c =
    let r = c.args.r in
    let last = length-append (number_then r.place space) (number_then r.offset line_end) in
    let numbers = length-append (number_then r.number space) (number_then r.place space ++ number_then r.offset line_end) in
    let fits = refused_parts r in
    both_put c.requires c.bytes.ensures
    (both_put (omega (arith, fits)) c.number.ensures (both_put (omega (arith, fits)) c.number-2.ensures c.number-3.ensures))
