-- Offsets as at a cycle's start, told from the PV records in their turn: a task's is that of the first PV of its number or a higher one.
-- Assumes nothing.
use mathlib.Core.Path.{◌≡◌, refl, sym, ◌∙◌, ap, ap₂}
use mathlib.Core.List.{List, [], ◌∷◌}
use mathlib.Core.Option.{none}
use Prim.Native.Nat.{ℕ, zero, suc, ◌+◌, ◌*◌, ◌-◌, ◌≤◌, ◌<◌}
use native.Mathlib.Omega.{arith}
use native.Mathlib.Nat.{zero-add}
use lib.Dec.{ltb}
use lib.ListN.{length, replicate, length-append, length-replicate}
use borrow.Author.Count.{below_more}
use borrow.Author.Tests.{lt-ltb, le-ltb, ltb-true}
use Rattle.rules.specs.declared.Inversion.{Inversion}
use Rattle.rules.specs.declared.Offsets.{Offsets}
use Rattle.rules.specs.Tasks.{Set, limits}
use Rattle.rules.specs.Setting.{Tables}
use Rattle.rules.specs.Priority.{slot}
use Rattle.rules.specs.Marks.{PV, size, head_length_of}
use Rattle.rules.specs.Judging.{inversion_in_range, records_fault}
use Rattle.rules.specs.Offsets.{lower_before, inversion_offset, inversion_offsets, first_offsets}
use Rattle.rules.proofs.Cases.{by_le, both_true}
use Rattle.rules.proofs.Derived.{Every}
use Rattle.rules.proofs.Records.{records_keep}
use Rattle.rules.proofs.ShownAt.{slot_first}
use Rattle.records.specs.Tables.{inversions_offset, inversion_in, inversions_at, tables_at, TasksBelow}
use Rattle.sets.specs.Kept.{Filled}
use Rattle.sets.proofs.Arrays.{same_slots, zeros_behind}
use Rattle.records.proofs.RecordsRead.{idles_length, inversions_more, no_inversions}

-- PV records in their range are of tasks of the set
in-range-below : (ts : Set) (h : ℕ) (p : List Inversion) → Every (inversion_in_range ts h) p → TasksBelow (length ts.tasks) p
in-range-below ts h [] e = tt
in-range-below ts h (r ∷ p) e =
    (ltb-true r.task (length ts.tasks) (both_true (ltb r.task (length ts.tasks)) _ e.0).0, in-range-below ts h p e.1)

-- and so are those of tables without a fault in their records
pub tasks_below : (ts : Set) (h : ℕ) (X : Tables) → records_fault ts h X ≡ none → TasksBelow (length ts.tasks) X.inversions
tasks_below ts h X e = in-range-below ts h X.inversions (records_keep ts h X e).in_range

-- record k of those from an offset on
abbrev inversion_from : List ℕ → ℕ → ℕ → Inversion
inversion_from bytes at k = inversion_in bytes (at + k * size PV)

-- its task is below n where every record's is
task_below : (bytes : List ℕ) (n at many k : ℕ) → TasksBelow n (inversions_at bytes at many) → k < many → (inversion_from bytes at k).task < n
task_below bytes n at zero k b l = absurd (omega arith)
task_below bytes n at (suc many) zero b l =
    let here : TasksBelow n (inversion_in bytes at ∷ inversions_at bytes (at + size PV) many) = rw (inversions_more bytes at many) at b in
    let e : at + 0 * size PV ≡ at = omega arith in
    rw e here.0
task_below bytes n at (suc many) (suc k) b l =
    let here : TasksBelow n (inversion_in bytes at ∷ inversions_at bytes (at + size PV) many) = rw (inversions_more bytes at many) at b in
    let e : at + suc k * size PV ≡ at + size PV + k * size PV = omega arith in
    rw e (task_below bytes n (at + size PV) many k here.1 (omega arith))

-- the records of lower tasks are those before the first that is not of a lower task
lower_found : (bytes : List ℕ) (i at many j : ℕ) → j ≤ many → ((k : ℕ) → k < j → (inversion_from bytes at k).task < i) →
    (j < many → i ≤ (inversion_from bytes at j).task) → lower_before i (inversions_at bytes at many) ≡ j
lower_found bytes i at zero j l lower higher = rw (no_inversions bytes at) (omega arith)
lower_found bytes i at (suc many) zero l lower higher =
    let e : at + 0 * size PV ≡ at = omega arith in
    let high : i ≤ (inversion_in bytes at).task = rw e at (higher (omega arith)) in
    rw (inversions_more bytes at many, le-ltb (inversion_in bytes at).task i high, lower_before)
lower_found bytes i at (suc many) (suc j) l lower higher =
    let e : (k : ℕ) → at + suc k * size PV ≡ at + size PV + k * size PV = λ k. omega arith in
    let first : at + 0 * size PV ≡ at = omega arith in
    let low : (inversion_in bytes at).task < i = rw first at (lower 0 (omega arith)) in
    rw (inversions_more bytes at many, lt-ltb (inversion_in bytes at).task i low, lower_before)
    (ap suc
    (lower_found bytes i (at + size PV) many j (omega arith) (λ k m. rw (e k) at (lower (suc k) (omega arith)))
    (λ m. rw (e j) at (higher (omega arith)))))

-- as many offsets as tasks
pub offsets_length : (ts : Set) (X : Tables) (i many : ℕ) → length (inversion_offsets ts X i many) ≡ many
offsets_length ts X i zero = refl
offsets_length ts X i (suc many) = ap suc (offsets_length ts X (suc i) many)

-- the offset of a task's first PV
abbrev told_offset : List ℕ → ℕ → ℕ → ℕ → ℕ → ℕ
told_offset bytes n idles inversions i =
    inversions_offset n idles + lower_before i (inversions_at bytes (inversions_offset n idles) inversions) * size PV

-- the records before j are of tasks that have their offsets, and the other slots are 0
pub record ToldBefore (bytes : List ℕ) (n idles inversions : ℕ) (offsets : List ℕ) (filled j : ℕ) : Type 0 where
  pub few_filled : filled ≤ n
  pub passed : (k : ℕ) → k < j → (inversion_from bytes (inversions_offset n idles) k).task < filled
  pub slots : length offsets ≡ limits.tasks
  pub told : (i : ℕ) → i < filled → slot offsets i ≡ told_offset bytes n idles inversions i
  pub others : (i : ℕ) → filled ≤ i → slot offsets i ≡ 0

-- so at the first record
pub told_none_yet : (bytes : List ℕ) (n idles inversions : ℕ) (offsets : List ℕ) → length offsets ≡ limits.tasks → ((i : ℕ) → slot offsets i ≡ 0) →
    ToldBefore bytes n idles inversions offsets 0 0
told_none_yet bytes n idles inversions offsets s z = record {
  few_filled = omega arith;
  passed = λ k l. absurd (omega arith);
  slots = s;
  told = λ i l. absurd (omega arith);
  others = λ i l. z i;
}

module _ {bytes : List ℕ} {n idles inversions : ℕ} {offsets : List ℕ} {filled j : ℕ} (b : ToldBefore bytes n idles inversions offsets filled j)
    (within : j ≤ inversions) where
  -- the offset of record j, and the record
  abbrev at : ℕ
  at = inversions_offset n idles + j * size PV

  abbrev here : Inversion
  here = inversion_in bytes at

  -- an offset is told for tasks that are not below those filled, up to the task of the record at the place
  told_here : (i : ℕ) → filled ≤ i → (j < inversions → i ≤ here.task) → at ≡ told_offset bytes n idles inversions i
  told_here i l m =
      let found : lower_before i (inversions_at bytes (inversions_offset n idles) inversions) ≡ j =
      lower_found bytes i (inversions_offset n idles) inversions j within (λ k q. omega (arith, b.passed k q)) m in
      rw found refl

  module _ (value : ℕ) (value-is : value ≡ at) (to : ℕ) (after : List ℕ) (f : Filled offsets (λ (i : ℕ). value) filled to after) where
    -- with the slots up to a place filled with the offset, the tasks below it have theirs
    told_more : (j < inversions → to ≤ here.task + 1) → (i : ℕ) → i < to → slot after i ≡ told_offset bytes n idles inversions i
    told_more m i l = by_le filled i (λ q. f.inside i q l ∙ value-is ∙ told_here i q (λ p. omega (arith, m p))) (λ q. f.below i q ∙ b.told i q)

    -- the tasks up to the record's get its offset
    pub told_up_to : (r : Inversion) → r ≡ here → to ≡ r.task + 1 → filled < to → to ≤ n → ToldBefore bytes n idles inversions after to (j + 1)
    told_up_to r is to-is m h =
        let same : r.task ≡ here.task = ap (λ (q : Inversion). q.task) is in
        record {
          few_filled = h;
          passed = below_more _ j (λ k q. omega (arith, b.passed k q)) (omega arith);
          slots = f.slots ∙ b.slots;
          told = told_more (λ p. omega arith);
          others = λ i q. f.above i q ∙ b.others i (omega arith);
        }

  -- a record of a task that has its offset is passed
  pub told_already : (r : Inversion) → r ≡ here → r.task + 1 ≤ filled → ToldBefore bytes n idles inversions offsets filled (j + 1)
  told_already r is m =
      let same : r.task ≡ here.task = ap (λ (q : Inversion). q.task) is in
      record { few_filled = b.few_filled; passed = below_more _ j b.passed (omega arith); slots = b.slots; told = b.told; others = b.others }

  -- the record's task is below n where every record's is
  pub task_here : j < inversions → (r : Inversion) → r ≡ here → TasksBelow n (inversions_at bytes (inversions_offset n idles) inversions) → r.task < n
  task_here l r is q = rw is (task_below bytes n (inversions_offset n idles) inversions j q l)

  -- at the end all tasks get EN's
  module _ (ended : inversions ≤ j) (few : n ≤ limits.tasks) (value : ℕ) (value-is : value ≡ at) (after : List ℕ) (f : Filled offsets (λ (i : ℕ). value) filled n after)
      (ts : Set) (counted : length ts.tasks ≡ n) where
    -- the tables that stand in the image
    abbrev X : Tables
    X = tables_at bytes n idles inversions

    -- a task's slot has its offset
    slot_told : (i : ℕ) → i < n → slot after i ≡ slot (first_offsets ts X).inversions i
    slot_told i l =
        let same : told_offset bytes n idles inversions i ≡ inversion_offset ts X i =
        rw (counted, idles_length bytes (head_length_of n) idles) refl in
        told_more value value-is n after f (λ p. absurd (omega arith)) i l
        ∙ same
        ∙ ap (inversion_offset ts X) (sym (zero-add i))
        ∙ sym (slot_first ts X 0 (length ts.tasks) i (replicate (limits.tasks - length ts.tasks) 0) (omega arith))

    -- the others have 0
    slot_other : (i : ℕ) → n ≤ i → slot after i ≡ slot (first_offsets ts X).inversions i
    slot_other i l =
        f.above i l
        ∙ b.others i (omega (arith, b.few_filled))
        ∙ sym (zeros_behind (inversion_offsets ts X 0 (length ts.tasks)) (limits.tasks - length ts.tasks) i (omega (arith, offsets_length ts X 0 (length ts.tasks))))

    -- as many slots
    slots_told : length after ≡ length (first_offsets ts X).inversions
    slots_told = f.slots ∙ b.slots ∙ simp (length-append, length-replicate, offsets_length) (omega arith)

    -- and the result is the rule book's
    pub told_all : (idle : ℕ) → idle ≡ head_length_of n → ◌≡◌ {A = Offsets} (record { idle = idle; inversions = after }) (first_offsets ts X)
    told_all idle e =
        ap₂ (λ (a : ℕ) (x : List ℕ). record { idle = a; inversions = x }) (e ∙ ap (λ (k : ℕ). head_length_of k) (sym counted))
        (same_slots after (first_offsets ts X).inversions slots_told (λ i l. by_le n i (slot_other i) (slot_told i)))
