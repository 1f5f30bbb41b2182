-- `records::judge_inversions` meets its contract. Assumes nothing.
use Rattle.std.proofs.Common.{arith, sym, ◌∙◌, rules}
use Rattle.rules.specs.Marks.{PV}
use Rattle.records.proofs.RecordsJudged.{answers_none, answers_broken, inversions_end, inversion_low, inversion_out, inversions_on}
use Rattle.records.proofs.judge_inversions.Goals as goal
use Rattle.records.proofs.judge_inversions.Goals.{then-not-at_most-via-then-not-at_most, then-not-at_most-via-else-not-at_most+then-not-inversion_keeps}

pub loop-j-preserved : goal.loop-j-preserved
loop-j-preserved c = record {
  offset = omega (arith, c.loop-j.invariant.offset);
  same = λ ts s. inversions_on c.loop-j.invariant ts s c.loop-j-test.true _ (search rules) (cc) (sym (c.inversion_keeps.ensures ts s) ∙ c.if-not-inversion_keeps.false);
}

pub returns-then-not-at_most : goal.returns-then-not-at_most
returns-then-not-at_most c =
    λ ts s.
    let inv = c.loop-j.invariant in
    let here = c.loop-j-test.true in
    answers_broken _ _ _ _ PV c.args.inversions c.requires.inversions_begin c.loop-j.j here
    (elim c.then-not-at_most.branch [
      | then-not-at_most-via-then-not-at_most w ↦ inversion_low inv ts s here c.inversion_at-r.result (search rules) (cc)
      | then-not-at_most-via-else-not-at_most+then-not-inversion_keeps w ↦ inversion_out inv ts s here c.inversion_at-r.result (search rules) (cc)
          (sym (w.inversion_keeps.ensures ts s) ∙ w.if-not-inversion_keeps.true)
    ]) c.broken.result (search rules)

pub returns : goal.returns
returns c = λ ts s. answers_none _ _ (inversions_end c.loop-j.invariant ts s c.loop-j-test.false)
