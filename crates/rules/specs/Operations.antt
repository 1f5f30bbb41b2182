-- The operations on images: document 01's checking, deriving and rebuilding, for any bytes and any lent output. Assumes nothing.
use Rattle.std.specs.Prelude.{◌≡◌, List, ◌++◌, ℕ, leb, length, drop, Result, Ok, Err, ⊤}
use Rattle.rules.specs.declared.Layout.{Layout}
use Rattle.rules.specs.declared.Entry.{Entry}
use Rattle.rules.specs.declared.Located.{Located}
use Rattle.rules.specs.Tasks.{Set}
use Rattle.rules.specs.Refusals.{Judged, gives, refuses, or_else, then, unless}
use Rattle.rules.specs.Setting.{Tables}
use Rattle.rules.specs.Judging.{judge_timetable, judge_tables}
use Rattle.rules.specs.Image.{timetable_image, table_image}
use Rattle.rules.specs.Framing.{frame, set_in, entries_in, tables_in}
use Rattle.rules.specs.Located.{located}

-- what a timetable image holds, and what a table image holds
pub record Timed : Type 0 where
  pub set : Set
  pub entries : List Entry

pub record Tabled : Type 0 where
  pub set : Set
  pub tables : Tables

abbrev pub read_timetable : List ℕ → Judged Timed
read_timetable bytes = then (frame 1 bytes) (λ (l : Layout). gives (record { set = set_in l bytes; entries = entries_in l bytes }))

abbrev pub read_tables : List ℕ → Judged Tabled
read_tables bytes = then (frame 2 bytes) (λ (l : Layout). gives (record { set = set_in l bytes; tables = tables_in l bytes }))

-- a timetable judged gives the set with its tables, tables judged give the set with the rebuilt timetable
abbrev pub derive_from : Timed → Judged Tabled
derive_from i = then (judge_timetable i.set i.entries) (λ (X : Tables). gives (record { set = i.set; tables = X }))

abbrev pub rebuild_from : Tabled → Judged Timed
rebuild_from i = then (judge_tables i.set i.tables) (λ (τ : List Entry). gives (record { set = i.set; entries = τ }))

abbrev pub derived : List ℕ → Judged Tabled
derived bytes = then (read_timetable bytes) derive_from

abbrev pub rebuilt : List ℕ → Judged Timed
rebuilt bytes = then (read_tables bytes) rebuild_from

-- what judging an image came to is answered: of a value what it says, and a refusal located in the image's bytes
abbrev pub answer_by : {A B : Type 0} → (A → B) → List ℕ → Judged A → Result B Located
answer_by says bytes (gives a) = Ok (says a)
answer_by says bytes (refuses r) = Err (located bytes r)

-- plain checking has no output
abbrev pub check_answer : {A : Type 0} → List ℕ → Judged A → Result ⊤ Located
check_answer = answer_by (λ _. tt)

unfoldable pub check_timetable : List ℕ → Result ⊤ Located
check_timetable bytes = check_answer bytes (derived bytes)

unfoldable pub check_tables : List ℕ → Result ⊤ Located
check_tables bytes = check_answer bytes (rebuilt bytes)

-- a result into an output with room for so many bytes or numbers: last, 20
abbrev pub into : {A : Type 0} → ℕ → List A → Judged (List A)
into room result = or_else (unless (leb (length result) room) 20 0) (gives result)

abbrev pub write_tables : ℕ → Tabled → Judged (List ℕ)
write_tables room i = into room (table_image i.set i.tables)

abbrev pub write_timetable : ℕ → Timed → Judged (List ℕ)
write_timetable room i = into room (timetable_image i.set i.entries)

-- deriving turns a kind 1 image into its kind 2 image, rebuilding the reverse
abbrev pub derived_image : ℕ → List ℕ → Judged (List ℕ)
derived_image room bytes = then (derived bytes) (write_tables room)

abbrev pub rebuilt_image : ℕ → List ℕ → Judged (List ℕ)
rebuilt_image room bytes = then (rebuilt bytes) (write_timetable room)

-- the answer is the result's length; the result fills the front of the output, and later bytes, and all bytes on a refusal, keep their values
abbrev pub make_answer : List ℕ → Judged (List ℕ) → Result ℕ Located
make_answer = answer_by length

abbrev pub output_after : {A : Type 0} → Judged (List A) → List A → List A
output_after (gives result) old = result ++ drop (length result) old
output_after (refuses r) old = old

unfoldable pub derive : List ℕ → List ℕ → Result ℕ Located
derive bytes old = make_answer bytes (derived_image (length old) bytes)

unfoldable pub derive_output : List ℕ → List ℕ → List ℕ
derive_output bytes old = output_after (derived_image (length old) bytes) old

unfoldable pub rebuild : List ℕ → List ℕ → Result ℕ Located
rebuild bytes old = make_answer bytes (rebuilt_image (length old) bytes)

unfoldable pub rebuild_output : List ℕ → List ℕ → List ℕ
rebuild_output bytes old = output_after (rebuilt_image (length old) bytes) old

-- what deriving answers and leaves in the output, and what rebuilding does
pub record Derives (bytes old : List ℕ) (answered : Result ℕ Located) (left : List ℕ) : Type 0 where
  pub answer : answered ≡ derive bytes old
  pub output : left ≡ derive_output bytes old

pub record Rebuilds (bytes old : List ℕ) (answered : Result ℕ Located) (left : List ℕ) : Type 0 where
  pub answer : answered ≡ rebuild bytes old
  pub output : left ≡ rebuild_output bytes old
