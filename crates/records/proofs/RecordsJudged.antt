-- 17: ID records, then PV records, each judged in its turn. Assumes nothing.
use Rattle.std.specs.Prelude.{Ok, Err}
use mathlib.Core.Path.{◌≡◌, refl, ◌∙◌, ap}
use mathlib.Core.Bool.{true, false}
use mathlib.Core.List.{List}
use mathlib.Core.Option.{Option, none, some}
use Prim.Native.Nat.{ℕ, suc, ◌+◌, ◌*◌, ◌-◌, ◌≤◌, ◌<◌}
use native.Mathlib.Omega.{arith}
use lib.Dec.{leb}
use lib.ListN.{length}
use borrow.Author.Tests.{le-leb, lt-leb}
use Rattle.rules.specs.declared.Idle.{Idle}
use Rattle.rules.specs.declared.Inversion.{Inversion}
use Rattle.rules.specs.declared.Refusal.{Refusal}
use Rattle.rules.specs.declared.Located.{Located}
use Rattle.rules.specs.Tasks.{Set, both}
use Rattle.rules.specs.Refusals.{refusal, first, unless}
use Rattle.rules.specs.Irregularities.{at_most}
use Rattle.rules.specs.Judging.{idle_in_range, inversion_in_range, idles_fault, inversions_fault, records_fault}
use Rattle.rules.specs.Marks.{Mark, ID, PV, size, head_length_of, head_count_of}
use Rattle.rules.specs.Located.{located, bare, RunBegins}
use Rattle.rules.proofs.Locations.{run_located}
use Rattle.sets.specs.declared.Kept.{Kept}
use Rattle.sets.specs.Kept.{tasks_in, hyperperiod_in, Keeps}
use Rattle.records.specs.Tables.{inversions_offset, idle_in, inversion_in, idles_at, inversions_at, tables_at}
use Rattle.records.specs.Told.{answer_to}
use Rattle.records.proofs.RecordsRead.{idles_length, idle_left, no_idle_left, inversion_left, no_inversion_left}

-- nothing wrong is answered so
pub answers_none : (bytes : List ℕ) (o : Option Refusal) → o ≡ none → Ok tt ≡ answer_to bytes o
answers_none bytes o e = rw e

-- and the fault of record j of a run so
pub answers_broken : (bytes : List ℕ) (o : Option Refusal) (index from : ℕ) (m : Mark) (many : ℕ) → RunBegins bytes index from m many →
    (j : ℕ) → j < many → o ≡ some (refusal 17 (index + j)) → (r : Located) → r ≡ record { number = 17; place = index + j; offset = from + j * size m } →
    Err r ≡ answer_to bytes o
answers_broken bytes o index from m many run j l e r is = rw e (ap Err (is ∙ run_located bytes 17 refl index from m many run j (omega arith) _ _ refl refl))

-- so where nothing is answered to be wrong nothing is
pub none_wrong : (bytes : List ℕ) (o : Option Refusal) → Ok tt ≡ answer_to bytes o → o ≡ none
none_wrong bytes none e = refl
none_wrong bytes (some r) e = cc

-- and what is answered to be wrong is
pub one_wrong : (bytes : List ℕ) (o : Option Refusal) (r : Located) → Err r ≡ answer_to bytes o → (o ≡ some (bare r)) × (r ≡ located bytes (bare r))
one_wrong bytes none r e = cc
one_wrong bytes (some q) r e =
    let is : r ≡ located bytes q = cc in
    rw is (refl, refl)

-- faults of the ID records come first, and the PV records are judged where there is none
pub inversions_then : (bytes : List ℕ) (ts : Set) (h n idles inversions : ℕ) → n ≡ length ts.tasks →
    idles_fault h (head_count_of n) 0 (idles_at bytes (head_length_of n) idles) ≡ none →
    records_fault ts h (tables_at bytes n idles inversions) ≡ inversions_fault ts h (head_count_of n + idles) 0 0 (inversions_at bytes (inversions_offset n idles) inversions)
inversions_then bytes ts h n idles inversions counted none-there = rw (← counted, none-there, idles_length bytes (head_length_of n) idles)

-- the first fault of the ID records is that of those from j on, with starts from an instant on
pub record IdlesFrom (bytes : List ℕ) (n h idles from at j : ℕ) : Type 0 where
  pub offset : at ≡ head_length_of n + j * size ID
  pub same : idles_fault h (head_count_of n) 0 (idles_at bytes (head_length_of n) idles)
      ≡ idles_fault h (head_count_of n + j) from (idles_at bytes at (idles - j))

module _ {bytes : List ℕ} {n h idles from at j : ℕ} (f : IdlesFrom bytes n h idles from at j) where
  -- the first fault of all ID records
  abbrev all_idles : Option Refusal
  all_idles = idles_fault h (head_count_of n) 0 (idles_at bytes (head_length_of n) idles)

  -- there is no fault where none is left
  pub idles_end : idles ≤ j → all_idles ≡ none
  idles_end l = f.same ∙ rw (no_idle_left bytes at idles j l)

  module _ (l : j < idles) (r : Idle) (is : r ≡ idle_in bytes at) where
    -- record j is judged, and then those behind it
    idle_here : all_idles ≡ first (unless (both (leb from r.start) (idle_in_range h r)) 17 (head_count_of n + j))
        (idles_fault h (head_count_of n + (j + 1)) (r.start + r.length + 1) (idles_at bytes (at + size ID) (idles - (j + 1))))
    idle_here =
        let place : head_count_of n + (j + 1) ≡ suc (head_count_of n + j) = omega arith in
        let ends : r.start + r.length + 1 ≡ suc (r.start + r.length) = omega arith in
        rw (place, ends, is) (f.same ∙ rw (idle_left bytes at idles j l))

    -- one that starts too early is the first fault
    pub idle_early : r.start < from → all_idles ≡ some (refusal 17 (head_count_of n + j))
    idle_early m = idle_here ∙ rw (lt-leb from r.start m)

    module _ (late : from ≤ r.start) where
      -- so is one that is out of its range
      pub idle_out : idle_in_range h r ≡ false → all_idles ≡ some (refusal 17 (head_count_of n + j))
      idle_out e = idle_here ∙ rw (le-leb from r.start late, e)

      -- any other is passed
      pub idles_on : idle_in_range h r ≡ true → IdlesFrom bytes n h idles (r.start + r.length + 1) (at + size ID) (j + 1)
      idles_on e = record { offset = omega (arith, f.offset); same = idle_here ∙ rw (le-leb from r.start late, e) }

-- the same for the PV records, with pairs from one on, for every set that the rows are kept of
pub record InversionsFrom (bytes : List ℕ) (kept : Kept) (idles inversions task job at j : ℕ) : Type 0 where
  pub offset : at ≡ inversions_offset (tasks_in kept) idles + j * size PV
  pub same : (ts : Set) → Keeps ts kept →
      inversions_fault ts (hyperperiod_in kept) (head_count_of (tasks_in kept) + idles) 0 0 (inversions_at bytes (inversions_offset (tasks_in kept) idles) inversions)
      ≡ inversions_fault ts (hyperperiod_in kept) (head_count_of (tasks_in kept) + idles + j) task job
      (inversions_at bytes at (inversions - j))

module _ {bytes : List ℕ} {kept : Kept} {idles inversions task job at j : ℕ} (f : InversionsFrom bytes kept idles inversions task job at j)
    (ts : Set) (s : Keeps ts kept) where
  -- the number of tasks, the hyperperiod, and where the PV records begin
  abbrev n : ℕ
  n = tasks_in kept

  abbrev h : ℕ
  h = hyperperiod_in kept

  abbrev begin : ℕ
  begin = inversions_offset n idles

  -- the first fault of all PV records
  abbrev all_inversions : Option Refusal
  all_inversions = inversions_fault ts h (head_count_of n + idles) 0 0 (inversions_at bytes begin inversions)

  -- there is no fault where none is left
  pub inversions_end : inversions ≤ j → all_inversions ≡ none
  inversions_end l = f.same ts s ∙ rw (no_inversion_left bytes at inversions j l)

  module _ (l : j < inversions) (r : Inversion) (is : r ≡ inversion_in bytes at) where
    -- record j is judged, and then those behind it
    inversion_here : all_inversions ≡ first (unless (both (at_most task job r.task r.job) (inversion_in_range ts h r)) 17 (head_count_of n + idles + j))
        (inversions_fault ts h (head_count_of n + idles + (j + 1)) r.task (r.job + 1) (inversions_at bytes (at + size PV) (inversions - (j + 1))))
    inversion_here =
        let place : head_count_of n + idles + (j + 1) ≡ suc (head_count_of n + idles + j) = omega arith in
        let job' : r.job + 1 ≡ suc r.job = omega arith in
        rw (place, job', is) (f.same ts s ∙ rw (inversion_left bytes at inversions j l))

    -- one whose pair is not above the one before is the first fault
    pub inversion_low : at_most task job r.task r.job ≡ false → all_inversions ≡ some (refusal 17 (head_count_of n + idles + j))
    inversion_low e = inversion_here ∙ rw e

    module _ (rises : at_most task job r.task r.job ≡ true) where
      -- so is one that is out of its range
      pub inversion_out : inversion_in_range ts h r ≡ false → all_inversions ≡ some (refusal 17 (head_count_of n + idles + j))
      inversion_out e = inversion_here ∙ rw (rises, e)

      -- any other is passed
      pub inversions_on : inversion_in_range ts h r ≡ true → all_inversions ≡ inversions_fault ts h (head_count_of n + idles + (j + 1)) r.task (r.job + 1)
          (inversions_at bytes (at + size PV) (inversions - (j + 1)))
      inversions_on e = inversion_here ∙ rw (rises, e)
