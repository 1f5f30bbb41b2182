-- What deriving puts into an output: the irregularities of a valid timetable that stands in an image, which are counted. Assumes nothing.
use Rattle.std.specs.Prelude.{◌≡◌, Bool, List, ℕ, ◌+◌, ◌*◌, ◌-◌, ◌≤◌, ◌<◌, length, get_or}
use Rattle.rules.specs.declared.Entry.{Entry}
use Rattle.rules.specs.declared.Idle.{Idle}
use Rattle.rules.specs.declared.Inversion.{Inversion}
use Rattle.rules.specs.Tasks.{Set, limits}
use Rattle.rules.specs.Timetable.{pick}
use Rattle.rules.specs.Setting.{Tables}
use Rattle.rules.specs.Judging.{tables}
use Rattle.rules.specs.Marks.{Mark, ID, PV, size, head_length_of}
use Rattle.rules.specs.Image.{record_of, of_idle, of_inversion, head_length}
use Rattle.sets.specs.declared.Kept.{Kept}
use Rattle.writing.specs.Writing.{put_at, record_put}
use Rattle.timetables.specs.declared.Counts.{Counts}
use Rattle.timetables.specs.Judged.{entries_behind, EntriesValid}
use Rattle.timetables.specs.Counted.{Counted}
use Rattle.timetables.specs.Instants.{instant_of, idles_before, inverts}
use Rattle.derivation.specs.Parts.{sum_first, tables_bytes}

-- no more counted than a cycle has ticks
pub record FewCounted (n : ℕ) (c : Counts) : Type 0 where
  pub tasks : n ≤ limits.tasks
  pub idles : c.idles ≤ limits.ticks
  pub each : (i : ℕ) → i < n → get_or c.each i 0 ≤ limits.ticks

-- the byte offset at which the PV records of task i begin
abbrev pub begins : ℕ → Counts → ℕ → ℕ
begins n c i = head_length_of n + c.idles * size ID + sum_first i c.each * size PV

pub record PartsBegin (n : ℕ) (c : Counts) (offsets : List ℕ) : Type 0 where
  pub slots : length offsets ≡ limits.tasks
  pub at : (i : ℕ) → i < n → get_or offsets i 0 ≡ begins n c i

-- the forced idle from an instant to an entry, and the entry's record by the releases of next jobs and its job's number
abbrev pub idle_from : ℕ → Entry → Idle
idle_from t e = record { start = t; length = e.start - t }

abbrev pub inversion_by : List ℕ → ℕ → Entry → Inversion
inversion_by releases job e = record { task = e.task; job = job; delay = e.start - get_or releases e.task 0 }

-- a record put at a place, where there is one, and the place behind it
pub record PutWhere (is : Bool) (m : Mark) (values old : List ℕ) (place : ℕ) (out : List ℕ) (behind : ℕ) : Type 0 where
  pub output : out ≡ pick is (record_put old place (record_of m values)) old
  pub next : behind ≡ pick is (place + size m) place

-- so with the forced idle before an entry, and with its inversion
abbrev pub IdlePut : ℕ → List ℕ → ℕ → Entry → List ℕ → ℕ → List ℕ → ℕ → Type 0
IdlePut n releases free e = PutWhere (idles_before n releases free e) ID (of_idle (idle_from (instant_of n releases free) e))

abbrev pub InversionPut : List ℕ → ℕ → Entry → List ℕ → ℕ → List ℕ → ℕ → Type 0
InversionPut releases job e = PutWhere (inverts releases e) PV (of_inversion (inversion_by releases job e))

-- the tables of so many entries behind the tasks of a set
abbrev pub tables_behind : List ℕ → Set → ℕ → Tables
tables_behind bytes ts listed = tables ts (entries_behind bytes ts listed)

-- tables put into an output behind the tasks
abbrev pub tables_put : List ℕ → Set → Tables → List ℕ
tables_put old ts X = put_at old (head_length ts) (tables_bytes X.idles X.inversions)

-- tables that are counted, and room for them
pub record CanPut (ts : Set) (bytes : List ℕ) (kept : Kept) (listed : ℕ) (c : Counts) (out : List ℕ) : Type 0 where
  pub valid : EntriesValid ts bytes kept listed
  pub counted : Counted ts (entries_behind bytes ts listed) c
  pub room : head_length ts + c.idles * size ID + c.inversions * size PV ≤ length out
