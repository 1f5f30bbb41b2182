-- The sign is put, and the magnitude behind it.
use Rattle.std.proofs.Common.{arith}
use Rattle.text.proofs.Signed.{by_negative, by_not_negative, below_of, above_of, kept_neg, kept_pos}
use Rattle.text.proofs.TextPuts.{both_put, same_text}
use Rattle.text.proofs.Page.signed.Goals.{then-z-lt0, else-z-lt0}
use Rattle.text.proofs.Page.signed.Goals as goal

pub number-requires : goal.number-requires
number-requires c =
    let z = c.args.z in
    let f = c.ranges.z in
    elim c.if-z-lt0.branch [
      | then-z-lt0 w ↦
          by_negative z (below_of z f w.if-z-lt0.true)
          (λ n e. let fits = rw e at c.requires in rw w.self-is (grind (arith, fits, kept_neg z f n e)))
      | else-z-lt0 w ↦
          by_not_negative z (above_of z f w.if-z-lt0.false)
          (λ n e. let fits = rw e at c.requires in rw w.self-is (grind (arith, fits, kept_pos z f n e)))
    ]

pub returns : goal.returns
returns c =
    let z = c.args.z in
    let f = c.ranges.z in
    elim c.if-z-lt0.branch [
      | then-z-lt0 w ↦
          by_negative z (below_of z f w.if-z-lt0.true)
          (λ n e. rw e (both_put (rw e at c.requires) w.byte.ensures (same_text (rw w.self-is at c.number.ensures) (grind (arith, kept_neg z f n e)))))
      | else-z-lt0 w ↦
          by_not_negative z (above_of z f w.if-z-lt0.false)
          (λ n e. rw e (same_text (rw w.self-is at c.number.ensures) (grind (arith, kept_pos z f n e))))
    ]
