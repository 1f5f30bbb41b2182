-- One byte is put.
use Rattle.std.proofs.Common.{refl}
use lib.ListN.{length-set}
use Rattle.text.proofs.TextPuts.{byte_put}
use Rattle.text.proofs.Page.byte.Goals as goal

pub returns : goal.returns
returns c =
    let p = c.args.self.now in
    record {
      same = refl;
      same_length = length-set p.out.now p.at c.args.x;
      put = record { behind = refl; put = byte_put p.out.now p.at c.args.x c.requires };
    }
