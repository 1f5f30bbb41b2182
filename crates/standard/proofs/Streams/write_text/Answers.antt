-- What was taken stands behind what was written before. Where a write takes nothing the error that is kept is told.
use Rattle.std.proofs.KnownBytes.{Appends-nil, Appends-trans}
use Rattle.std.proofs.Common.{arith, refl}
use Rattle.std.proofs.Math.Seq.{take-add}
use Rattle.standard.proofs.Streams.write_text.Goals as goal

pub loop-at-init : goal.loop-at-init
loop-at-init g c = record { inside = omega arith; known = Appends-nil _; input = refl; errors = refl }

pub loop-at-preserved : goal.loop-at-preserved
loop-at-preserved g c = record {
  inside = c.in-Ok.ensures.written;
  known = rw (take-add c.loop-at.at c.in-Ok.n c.args.text.now) (Appends-trans _ _ _ _ _ c.loop-at.invariant.known c.in-Ok.ensures.known);
  input = cc;
  errors = cc;
}

pub returns-in-Ok-eq0-clause-last : goal.returns-in-Ok-eq0-clause-last
returns-in-Ok-eq0-clause-last g c = refl
