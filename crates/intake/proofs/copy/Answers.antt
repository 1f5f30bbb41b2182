-- A byte more is copied. Assumes nothing.
use Rattle.std.proofs.Common.{◌≡◌, ◌∙◌, ◌<◌, ◌+◌, ℕ, suc, List, ◌++◌, length, take, drop, arith, ap, refl, get_or, add-one, drop-cons, append_assoc}
use lib.ListN.{set}
use lib.Seq.{set_at, take-suc, length-take-le}
use Rattle.intake.proofs.copy.Goals as goal

-- the byte at i is put behind those before it
one_more : (from old : List ℕ) (i : ℕ) → i < length from → i < length old →
    set (take i from ++ drop i old) i (get_or from i 0) ≡ take (i + 1) from ++ drop (i + 1) old
one_more from old i h k =
    rw (add-one i, take-suc from i 0 h, drop-cons old i 0 k)
    (set_at (take i from) (get_or old i 0) (drop (suc i) old) (get_or from i 0) i (length-take-le i from (omega arith))
    ∙ rw (append_assoc (take i from)))

pub loop-i-init : goal.loop-i-init
loop-i-init c = record { passed = omega arith; copied = refl }

pub loop-i-preserved : goal.loop-i-preserved
loop-i-preserved c =
    let a = c.args in
    record {
      passed = omega arith;
      copied =
          ap (λ (o : List ℕ). set o c.loop-i.i (get_or a.from.now c.loop-i.i 0)) c.loop-i.invariant.copied
          ∙ one_more a.from.now a.to.now c.loop-i.i (omega arith) (omega arith);
    }
