-- Any two results that meet a contract of this crate are equal; those of `inversion_keeps` where its rows are kept of a set. Assumes nothing.
use mathlib.Core.Path.{◌≡◌, sym, ◌∙◌}
use mathlib.Core.Bool.{Bool}
use mathlib.Core.List.{List}
use Rattle.std.specs.Prelude.{Result}
use Prim.Native.Nat.{ℕ}
use lib.ListN.{length, replicate, length-replicate}
use Rattle.rules.specs.declared.Inversion.{Inversion}
use Rattle.rules.specs.declared.Located.{Located}
use Rattle.rules.specs.declared.Offsets.{Offsets}
use Rattle.rules.specs.Tasks.{Set, no_task, set_with}
use Rattle.rules.specs.Setting.{Tables}
use Rattle.rules.specs.Judging.{inversion_in_range}
use Rattle.rules.specs.Offsets.{first_offsets}
use Rattle.sets.specs.declared.Kept.{Kept}
use Rattle.sets.specs.Kept.{hyperperiod_in, Keeps}
use Rattle.records.specs.Told.{CanJudge, RecordsTold}

-- one answer to whether a PV keeps its rule, where the rows are kept of a set
pub one_keeping : (ts : Set) (kept : Kept) → Keeps ts kept → (r : Inversion) (a b : Bool) →
    ((us : Set) → Keeps us kept → a ≡ inversion_in_range us (hyperperiod_in kept) r) →
    ((us : Set) → Keeps us kept → b ≡ inversion_in_range us (hyperperiod_in kept) r) → a ≡ b
one_keeping ts kept s r a b p q = p ts s ∙ sym (q ts s)

-- one first fault of the records
pub one_fault : (bytes : List ℕ) (kept : Kept) (idles inversions : ℕ) → CanJudge bytes kept idles inversions →
    (a b : Result (Unit {0}) Located) → RecordsTold bytes kept idles inversions a → RecordsTold bytes kept idles inversions b → a ≡ b
one_fault bytes kept idles inversions can a b p q = p can.set can.keeps ∙ sym (q can.set can.keeps)

-- offsets as at a cycle's start are the same for any n tasks
pub one_offsets : (n : ℕ) (X : Tables) (a b : Offsets) → ((ts : Set) → length ts.tasks ≡ n → a ≡ first_offsets ts X) →
    ((ts : Set) → length ts.tasks ≡ n → b ≡ first_offsets ts X) → a ≡ b
one_offsets n X a b p q =
    let ts : Set = set_with (replicate n no_task) in
    p ts (length-replicate n no_task) ∙ sym (q ts (length-replicate n no_task))
