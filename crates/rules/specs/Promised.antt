-- What the promises on images are stated with: tables that are exactly a timetable's irregularities, the two kinds of image that are accepted, what
-- refuses an image, and what refuses to make one of the other. Assumes nothing.
use Rattle.std.specs.Prelude.{◌≡◌, ◌↔◌, true, false, ℕ, ◌<◌, length}
use mathlib.Core.List.{List, ◌++◌, Memᴰ}
use Rattle.std.proofs.Math.Option.{some}
use Rattle.rules.specs.declared.Entry.{Entry}
use Rattle.rules.specs.declared.Inversion.{Inversion}
use Rattle.rules.specs.declared.Refusal.{Refusal}
use Rattle.rules.specs.Refusals.{gives, refusal, First}
use Rattle.rules.specs.Tasks.{Set, GoodSet, hyperperiod, set_tests}
use Rattle.rules.specs.Timetable.{ValidTimetable}
use Rattle.rules.specs.Setting.{Tables}
use Rattle.rules.specs.Irregularities.{ForcedIdles, IsInversion}
use Rattle.rules.specs.Order.{PairRises, timetable_tests, RefusesTables}
use Rattle.rules.specs.Image.{Record, timetable_records, table_records, timetable_image, table_image}
use Rattle.rules.specs.Framing.{RefusesFraming, start_place}
use Rattle.rules.specs.Located.{names_record, Begins, BeginsIn}
use Rattle.rules.specs.Operations.{Timed, Tabled, read_timetable, read_tables}

-- the tables of a timetable: its forced idles in the order of entries; its inversions and no others, with pairs strictly rising
pub record HasTables (ts : Set) (h : ℕ) (τ : List Entry) (X : Tables) : Type 0 where
  pub its_idles : ForcedIdles ts h τ 0 X.idles
  pub its_inversions : (r : Inversion) → Memᴰ r X.inversions ↔ IsInversion ts h τ r
  pub pairs_rise : (j : ℕ) → j < length X.inversions → PairRises X.inversions j

-- the image of a good set and a valid timetable
pub record TimetableImage (bytes : List ℕ) (ts : Set) (τ : List Entry) : Type 0 where
  pub h : ℕ
  pub good : GoodSet ts h
  pub valid : ValidTimetable ts h τ
  pub is : bytes ≡ timetable_image ts τ

-- the image of a good set and of the tables that a valid timetable has
pub record TableImage (bytes : List ℕ) (ts : Set) (τ : List Entry) : Type 0 where
  pub h : ℕ
  pub tables : Tables
  pub good : GoodSet ts h
  pub valid : ValidTimetable ts h τ
  pub has : HasTables ts h τ tables
  pub is : bytes ≡ table_image ts tables

-- what refuses a timetable image: framing; or else the set, then the entries
pub data RefusesTimetableImage (bytes : List ℕ) : Refusal → Type 1 where
  by_framing : {r : Refusal} → RefusesFraming 1 start_place bytes r → RefusesTimetableImage bytes r
  by_a_test : {r : Refusal} {i : Timed} → read_timetable bytes ≡ gives i →
      First (set_tests i.set ++ timetable_tests i.set (hyperperiod i.set) i.entries) (some r) → RefusesTimetableImage bytes r

-- what refuses a table image: framing; or else the set, then the records, then a late job in replay, then a difference
pub data RefusesTableImage (bytes : List ℕ) : Refusal → Type 1 where
  by_framing : {r : Refusal} → RefusesFraming 2 start_place bytes r → RefusesTableImage bytes r
  by_its_tables : {r : Refusal} {i : Tabled} → read_tables bytes ≡ gives i → RefusesTables i.set i.tables r → RefusesTableImage bytes r

-- the records of an image of a kind, where it frames
pub data RecordsOf (bytes : List ℕ) : ℕ → List Record → Type 0 where
  of_timetable : {i : Timed} → read_timetable bytes ≡ gives i → RecordsOf bytes 1 (timetable_records i.set i.entries)
  of_tables : {i : Tabled} → read_tables bytes ≡ gives i → RecordsOf bytes 2 (table_records i.set i.tables)

-- the byte that a refusal of an image of a kind tells: where its place is a record, that record begins there, behind the records before it, and, where the
-- image frames, behind their bytes in what is written; else 0
pub record TheByte (kind : ℕ) (bytes : List ℕ) (number place offset : ℕ) : Type 0 where
  pub begins : names_record number ≡ true → Begins bytes place offset
  pub in_what_is_written : names_record number ≡ true → (rs : List Record) → RecordsOf bytes kind rs → BeginsIn rs bytes place offset
  pub none_named : names_record number ≡ false → offset ≡ 0

-- the images of both kinds of one timetable: its own, and that of its tables
pub record BothImages (timetable-bytes table-bytes : List ℕ) : Type 0 where
  pub set : Set
  pub entries : List Entry
  pub timetable : TimetableImage timetable-bytes set entries
  pub tables : TableImage table-bytes set entries

-- what refuses deriving into so much room: what refuses the image; or, last, 20, a result that is longer
pub data RefusesDeriving (bytes : List ℕ) (room : ℕ) : Refusal → Type 1 where
  by_the_image : {r : Refusal} → RefusesTimetableImage bytes r → RefusesDeriving bytes room r
  too_long : {result : List ℕ} → BothImages bytes result → room < length result → RefusesDeriving bytes room (refusal 20 0)

-- what refuses rebuilding into so much room, likewise
pub data RefusesRebuilding (bytes : List ℕ) (room : ℕ) : Refusal → Type 1 where
  by_the_image : {r : Refusal} → RefusesTableImage bytes r → RefusesRebuilding bytes room r
  too_long : {result : List ℕ} → BothImages result bytes → room < length result → RefusesRebuilding bytes room (refusal 20 0)
