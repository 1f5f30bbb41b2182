-- What judging the records of an image comes to, for every set that the rows are kept of. Assumes nothing.
use Rattle.std.specs.Prelude.{◌≡◌, List, ℕ, ◌+◌, ◌≤◌, length, Result, Ok, Err}
use Rattle.std.proofs.Math.Option.{Option, none, some}
use Rattle.rules.specs.declared.Refusal.{Refusal}
use Rattle.rules.specs.declared.Located.{Located}
use Rattle.rules.specs.Tasks.{Set}
use Rattle.rules.specs.Judging.{idles_fault, inversions_fault, records_fault}
use Rattle.rules.specs.Marks.{ID, PV, head_length_of, head_count_of}
use Rattle.rules.specs.Located.{located, RunBegins}
use Rattle.sets.specs.declared.Kept.{Kept}
use Rattle.sets.specs.Kept.{tasks_in, hyperperiod_in, Keeps}
use Rattle.records.specs.Tables.{inversions_offset, end_offset, idles_at, inversions_at, tables_at}

-- the rows are kept of a set, and the records lie in the image, ID records behind the head and PV records behind them
pub record CanJudge (bytes : List ℕ) (kept : Kept) (idles inversions : ℕ) : Type 0 where
  pub set : Set
  pub keeps : Keeps set kept
  pub stand : end_offset (tasks_in kept) idles inversions ≤ length bytes
  pub idles_begin : RunBegins bytes (head_count_of (tasks_in kept)) (head_length_of (tasks_in kept)) ID idles
  pub inversions_begin : RunBegins bytes (head_count_of (tasks_in kept) + idles) (inversions_offset (tasks_in kept) idles) PV inversions

-- the answer to what is wrong: nothing, or the refusal located in the image
abbrev pub answer_to : List ℕ → Option Refusal → Result (Unit {0}) Located
answer_to bytes none = Ok tt
answer_to bytes (some r) = Err (located bytes r)

-- the first fault of the ID records, located
abbrev pub IdlesTold : List ℕ → Kept → ℕ → Result (Unit {0}) Located → Type 0
IdlesTold bytes kept idles r =
    r ≡ answer_to bytes (idles_fault (hyperperiod_in kept) (head_count_of (tasks_in kept)) 0 (idles_at bytes (head_length_of (tasks_in kept)) idles))

-- the first fault of the PV records, located
abbrev pub InversionsTold : List ℕ → Kept → ℕ → ℕ → Result (Unit {0}) Located → Type 0
InversionsTold bytes kept idles inversions r = (ts : Set) → Keeps ts kept →
    r ≡ answer_to bytes (inversions_fault ts (hyperperiod_in kept) (head_count_of (tasks_in kept) + idles) 0 0
    (inversions_at bytes (inversions_offset (tasks_in kept) idles) inversions))

-- the first fault of all records, located
abbrev pub RecordsTold : List ℕ → Kept → ℕ → ℕ → Result (Unit {0}) Located → Type 0
RecordsTold bytes kept idles inversions r = (ts : Set) → Keeps ts kept →
    r ≡ answer_to bytes (records_fault ts (hyperperiod_in kept) (tables_at bytes (tasks_in kept) idles inversions))
