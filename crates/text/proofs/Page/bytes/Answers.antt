-- The bytes are put.
use Rattle.std.proofs.Common.{arith, rules, refl, ap, length, ◌∙◌}
use Rattle.writing.proofs.Puts.{put_length}
use Rattle.text.proofs.TextPuts.{bytes_put}
use Rattle.text.proofs.Page.bytes.Goals as goal

pub returns : goal.returns
returns c =
    let p = c.args.self.now in
    let bytes = c.args.bytes.now in
    let put = bytes_put p.out.now p.at _ bytes (search rules) (omega arith) c.requires in
    record { same = refl; same_length = ap length put ∙ put_length p.out.now p.at bytes; put = record { behind = refl; put = put } }
