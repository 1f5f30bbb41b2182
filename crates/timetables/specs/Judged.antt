-- What judging a timetable image comes to in memory. Assumes nothing.
use Rattle.std.specs.Prelude.{◌≡◌, ℕ, ◌+◌, ◌*◌, ◌<◌, ◌≤◌, Bool, true, false, List, length, Result, Ok, Err}
use Rattle.std.proofs.Math.Option.{Option, none, some}
use Rattle.rules.specs.declared.TaskSet.{TaskSet}
use Rattle.rules.specs.declared.Entry.{Entry}
use Rattle.rules.specs.declared.Refusal.{Refusal}
use Rattle.rules.specs.declared.Located.{Located}
use Rattle.rules.specs.Refusals.{gives, refusal}
use Rattle.rules.specs.Tasks.{Set, memory_set}
use Rattle.rules.specs.Judging.{timetable_fault}
use Rattle.rules.specs.Marks.{SL, size, head_count_of, head_length_of}
use Rattle.rules.specs.Image.{head_count, head_length}
use Rattle.rules.specs.Located.{names_record, RefusedAt}
use Rattle.rules.specs.Operations.{read_timetable, derived}
use Rattle.sets.specs.declared.Kept.{Kept}
use Rattle.sets.specs.Kept.{Keeps}
use Rattle.images.specs.Table.{stands_at}
use Rattle.framing.specs.Frames.{RunOf}
use Rattle.framing.specs.SetRead.{set_read}
use Rattle.timetables.specs.declared.Counts.{Counts}
use Rattle.timetables.specs.declared.Stop.{Stop}
use Rattle.timetables.specs.declared.Stop.TheVariants.{Broken, Missing, Complete}
use Rattle.timetables.specs.declared.Walk.{Walk}
use Rattle.timetables.specs.declared.Timetable.{Timetable}
use Rattle.timetables.specs.Entries.{entries_at}
use Rattle.timetables.specs.Counted.{Counted, no_counts}

-- so many entries behind the tasks of a set
abbrev pub entries_behind : List ℕ → Set → ℕ → List Entry
entries_behind bytes ts listed = entries_at bytes (head_length ts) listed

-- the first fault of so many entries behind the tasks
abbrev pub fault_behind : List ℕ → Set → ℕ → Option Refusal
fault_behind bytes ts listed = timetable_fault ts (entries_behind bytes ts listed)

-- what is kept of a set, and room for so many entries in the image behind its tasks
pub record EntriesStand (ts : Set) (bytes : List ℕ) (kept : Kept) (listed : ℕ) : Type 0 where
  pub keeps : Keeps ts kept
  pub inside : head_length ts + listed * size SL ≤ length bytes

-- and these entries are those of a valid timetable
pub record EntriesValid (ts : Set) (bytes : List ℕ) (kept : Kept) (listed : ℕ) : Type 0 where
  pub stand : EntriesStand ts bytes kept listed
  pub no_fault : fault_behind bytes ts listed ≡ none

-- no entry stands behind so many, and they are counted where that was asked for
pub record AllPassed (ts : Set) (bytes : List ℕ) (count : Bool) (entries : ℕ) (c : Counts) : Type 0 where
  pub ends : stands_at bytes (head_length ts + entries * size SL) SL ≡ false
  pub counted : count ≡ true → Counted ts (entries_behind bytes ts entries) c

-- the entry behind so many breaks a rule, however many are listed
pub record OneBroken (ts : Set) (bytes : List ℕ) (entries number : ℕ) : Type 0 where
  pub one_more : stands_at bytes (head_length ts + entries * size SL) SL ≡ true
  pub of_an_entry : names_record number ≡ true
  pub broken : (listed : ℕ) → entries < listed → fault_behind bytes ts listed ≡ some (refusal number (head_count ts + entries))

-- what stops a walk behind so many entries
abbrev pub Stops : Set → List ℕ → Bool → ℕ → Counts → Stop → Type 0
Stops ts bytes count entries c (Broken number) = OneBroken ts bytes entries number
Stops ts bytes count entries c (Missing task) = AllPassed ts bytes count entries c × (fault_behind bytes ts entries ≡ some (refusal 16 task))
Stops ts bytes count entries c Complete = AllPassed ts bytes count entries c × (fault_behind bytes ts entries ≡ none)

-- a walk over entries up to the one that breaks a rule, or to where no SL record stands, with what is counted where it was asked for
pub record Walked (ts : Set) (bytes : List ℕ) (count : Bool) (w : Walk) : Type 0 where
  pub run : RunOf bytes (head_length ts) SL (length bytes) w.entries
  pub stops : Stops ts bytes count w.entries w.counts w.stop
  pub uncounted : count ≡ false → w.counts ≡ no_counts

-- what a walk over all entries of a framed image comes to, by what stops it: the rule that it broke, a job that is missing, or the set with its entries
abbrev pub told_by : TaskSet → ℕ → Counts → Stop → Result Timetable Located
told_by s entries c (Broken number) =
    Err (record { number = number; place = head_count_of s.n + entries; offset = head_length_of s.n + entries * size SL })
told_by s entries c (Missing task) = Err (record { number = 16; place = task; offset = 0 })
told_by s entries c Complete = Ok (record { set = s; listed = entries; counts = c })

abbrev pub told_of : TaskSet → Walk → Result Timetable Located
told_of s w = told_by s w.entries w.counts w.stop

-- the set and the entries of an image that is not refused, what is kept of the set, and what is counted where it was asked for
pub record Good (bytes : List ℕ) (count : Bool) (t : Timetable) (kept : Kept) : Type 0 where
  pub set_is : t.set ≡ set_read t.set.n bytes
  pub tasks_many : length (memory_set t.set).tasks ≡ t.set.n
  pub stand : EntriesStand (memory_set t.set) bytes kept t.listed
  pub read : read_timetable bytes ≡ gives (record { set = memory_set t.set; entries = entries_behind bytes (memory_set t.set) t.listed })
  pub no_fault : fault_behind bytes (memory_set t.set) t.listed ≡ none
  pub counted : count ≡ true → Counted (memory_set t.set) (entries_behind bytes (memory_set t.set) t.listed) t.counts
  pub uncounted : count ≡ false → t.counts ≡ no_counts

-- what an image is judged as: a good one, or the refusal of deriving
abbrev pub JudgedAs : List ℕ → Bool → Result Timetable Located → Kept → Type 0
JudgedAs bytes count (Ok t) kept = Good bytes count t kept
JudgedAs bytes count (Err r) kept = RefusedAt bytes (derived bytes) r
