-- `records::fill` meets its contract. The invariant: the slots are filled up to i. Assumes nothing.
use Prim.Native.Nat.{ℕ}
use Rattle.sets.specs.Kept.{Filled}
use Rattle.records.proofs.fill.Given as goal

abbrev pub invariant-loop-i : goal.invariant-loop-i
invariant-loop-i l = Filled l.initial.offsets (λ (k : ℕ). l.at) l.from l.i l.offsets
