-- `derivation::put_irregularities` meets its contract. The loop's invariant: of a set that the rows are kept of, with what the entries still to come add, the
-- output comes to the whole. Assumes nothing.
use Rattle.rules.specs.Tasks.{Set}
use Rattle.derivation.proofs.Putting.{PutFrom}
use Rattle.derivation.proofs.put_irregularities.Given as goal

abbrev pub invariant-loop-entry : goal.invariant-loop-entry
invariant-loop-entry l = (ts : Set) × PutFrom ts l.image l.kept l.listed l.release l.next l.free l.at l._entry l.idle_at l.offsets l.initial.out l.out
