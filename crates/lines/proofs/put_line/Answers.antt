-- Four numbers are put one behind the other.
use Rattle.std.proofs.Common.{arith, length-append, ◌++◌}
use Rattle.text.specs.Text.{space, line_end, number_then}
use Rattle.text.proofs.TextPuts.{both_put}
use Rattle.lines.specs.Text.{line}
use Rattle.lines.proofs.TextLengths.{line_parts}
use Rattle.lines.proofs.put_line.Goals as goal

pub returns : goal.returns
unfolding line
returns c =
    let a = c.args in
    let fits = line_parts a.task a.job a.start a.end in
    let last = length-append (number_then a.start space) (number_then a.end line_end) in
    let behind = length-append (number_then a.job space) (number_then a.start space ++ number_then a.end line_end) in
    both_put c.requires c.number.ensures
    (both_put (omega (arith, fits)) c.number-2.ensures (both_put (omega (arith, fits)) c.number-3.ensures c.number-4.ensures))
