-- `spare::latest` meets its contract. The invariant: the last deadline in the slots passed. Assumes nothing.
use mathlib.Core.Path.{◌≡◌}
use Rattle.spare.specs.Walking.{last_of}
use Rattle.spare.proofs.latest.Given as goal

abbrev pub invariant-loop-due : goal.invariant-loop-due
invariant-loop-due l = l.last ≡ last_of l.due-index l.dues
