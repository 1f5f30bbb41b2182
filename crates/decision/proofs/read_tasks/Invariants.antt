-- `decision::read_tasks` meets its contract. The invariant: the offsets of the first i tasks can be read. Assumes nothing.
use Rattle.std.proofs.Common.{◌≡◌, ◌<◌, true, ℕ}
use Rattle.rules.specs.Tasks.{Set}
use Rattle.rules.specs.Priority.{slot}
use Rattle.rules.specs.Offsets.{lent, readable}
use Rattle.sets.specs.Kept.{Keeps}
use Rattle.decision.proofs.read_tasks.Given as goal

abbrev pub invariant-loop-i : goal.invariant-loop-i
invariant-loop-i l = (ts : Set) → Keeps ts l.kept → (j : ℕ) → j < l.i → readable ((lent l.image ts).inversion_shown (slot l.offsets j)) ≡ true
