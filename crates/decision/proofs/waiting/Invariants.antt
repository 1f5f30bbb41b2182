-- `decision::waiting` meets its contract. The invariant: the mask of the tasks from i on. Assumes nothing.
use Rattle.std.proofs.Common.{◌≡◌, ◌-◌}
use Rattle.decision.specs.Waiting.{mask_from, come_by}
use Rattle.decision.proofs.waiting.Given as goal

abbrev pub invariant-loop-i : goal.invariant-loop-i
invariant-loop-i l = l.mask ≡ mask_from (l.n - l.i) l.i (come_by l.release l.t)
