-- The kit's digits are put, and the character behind them.
use Rattle.std.proofs.Common.{arith, ◌∙◌, ap, length, length-append, [], ◌∷◌}
use Rattle.text.specs.Text.{decimal}
use Rattle.text.proofs.Decimal.{fewest_digits}
use Rattle.text.proofs.TextPuts.{both_put}
use Rattle.text.proofs.Page.number.Goals as goal

pub bytes-requires : goal.bytes-requires
bytes-requires c =
    let kit = c.decimal-many.ensures in
    let digits = kit.digits ∙ fewest_digits _ _ kit.len in
    omega (arith, ap length digits, length-append (decimal c.args.n) (c.args.behind ∷ []))

pub byte-requires : goal.byte-requires
byte-requires c =
    let kit = c.decimal-many.ensures in
    let digits = kit.digits ∙ fewest_digits _ _ kit.len in
    omega (arith, ap length digits, length-append (decimal c.args.n) (c.args.behind ∷ []))

pub returns : goal.returns
returns c =
    let kit = c.decimal-many.ensures in
    let digits = kit.digits ∙ fewest_digits _ _ kit.len in
    let last = c.byte.ensures in
    both_put c.requires (rw digits at c.bytes.ensures)
    (record { same = last.same; same_length = last.same_length; put = record { behind = omega (arith, last.put.behind); put = last.put.put } })
