-- `lines::list` meets its contract: nothing, the refusal of an input that is too long, or the listing. Assumes nothing.
use mathlib.Core.Path.{refl}
use native.Mathlib.Omega.{arith}
use Rattle.text.specs.Text.{too_long}
use Rattle.text.proofs.Lengths.{refused_short}
use Rattle.lines.proofs.Promises.{judged_input, refused_input}
use Rattle.lines.proofs.list.Goals as goal

pub returns-then-out-lt-ROOM : goal.returns-then-out-lt-ROOM
returns-then-out-lt-ROOM c = record { short = λ l. (refl, refl); lists = λ l. absurd (omega arith) }

pub put_too_long-requires : goal.put_too_long-requires
put_too_long-requires c = omega (arith, refused_short too_long (omega arith) (omega arith) (omega arith))

pub returns-then-input-gt-LONGEST_INPUT : goal.returns-then-input-gt-LONGEST_INPUT
returns-then-input-gt-LONGEST_INPUT c = record {
  short = λ l. absurd (omega arith);
  lists =
      λ l. rw (refused_input c.args.input.now (omega arith)) c.put_too_long.ensures;
}

pub returns : goal.returns
returns c = record {
  short = λ l. absurd (omega arith);
  lists =
      λ l. rw (judged_input c.args.input.now (omega arith)) c.list_rebuilt.ensures;
}
