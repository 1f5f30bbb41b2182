-- `decision::waiting` meets its contract. Assumes nothing.
use Rattle.std.proofs.Common.{◌-◌, arith, ◌∙◌}
use Rattle.std.proofs.Math.Nat.{sub_self}
use Rattle.decision.specs.Waiting.{mask_from, come_by}
use Rattle.decision.proofs.Masks.{mask_small}
use Rattle.decision.proofs.Scans.{come_more, not_come}
use Rattle.decision.proofs.waiting.Goals as goal

pub loop-i-init : goal.loop-i-init
unfolding mask_from
loop-i-init c = rw (sub_self c.args.n)

pub overflow_mul-mask : goal.overflow_mul-mask
overflow_mul-mask c =
    omega (arith, mask_small (c.args.n - c.loop-i.i) c.loop-i.i (come_by c.args.release.now c.args.t) 15 (omega arith))

pub loop-i-preserved-then-release-i : goal.loop-i-preserved-then-release-i
loop-i-preserved-then-release-i c =
    c.with_released-mask.ensures
    ∙ come_more c.args.n c.args.t c.args.release.now c.loop-i.i (c.loop-i.i - 1) c.loop-i.mask (omega arith) (omega arith) c.loop-i.invariant c.if-release-i.true

pub loop-i-preserved : goal.loop-i-preserved
loop-i-preserved c =
    not_come c.args.n c.args.t c.args.release.now c.loop-i.i (c.loop-i.i - 1) c.loop-i.mask (omega arith) (omega arith) c.loop-i.invariant c.if-release-i.false
