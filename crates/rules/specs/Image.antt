-- Images as they are written: document 01, "Image records". Assumes nothing.
use Rattle.std.specs.Prelude.{List, [], ◌∷◌, ◌++◌, map, ℕ, suc, ◌+◌, ◌≤◌, ◌<◌, length}
use Rattle.fields.specs.Body.{body, Fit}
use Rattle.rules.specs.declared.Task.{Task}
use Rattle.rules.specs.declared.Entry.{Entry}
use Rattle.rules.specs.declared.Idle.{Idle}
use Rattle.rules.specs.declared.Inversion.{Inversion}
use Rattle.rules.specs.Tasks.{Set, limits, largest_number}
use Rattle.rules.specs.Setting.{Tables}
use Rattle.rules.specs.Priority.{slot}
use Rattle.rules.specs.Marks.{Mark, TS, TK, SL, ID, PV, EN, row, head_count_of, head_length_of}

-- a record: a mark, and the values of its fields
pub record Record : Type 0 where
  pub mark : Mark
  pub values : List ℕ

abbrev pub record_of : Mark → List ℕ → Record
record_of m vs = record { mark = m; values = vs }

abbrev pub written : Record → List ℕ
written r = (row r.mark).byte₁ ∷ (row r.mark).byte₂ ∷ body (row r.mark).widths r.values

-- the bytes of records, one after the other
abbrev pub image : List Record → List ℕ
image [] = []
image (r ∷ rs) = written r ++ image rs

-- the values of each record's fields, and what they stand for
abbrev pub of_task : Task → List ℕ
of_task t = t.offset ∷ t.time ∷ t.period ∷ t.deadline ∷ []

abbrev pub of_entry : Entry → List ℕ
of_entry e = e.task ∷ e.start ∷ []

abbrev pub of_idle : Idle → List ℕ
of_idle r = r.start ∷ r.length ∷ []

abbrev pub of_inversion : Inversion → List ℕ
of_inversion r = r.task ∷ r.job ∷ r.delay ∷ []

abbrev pub to_task : List ℕ → Task
to_task v = record { offset = slot v 0; time = slot v 1; period = slot v 2; deadline = slot v 3 }

abbrev pub to_entry : List ℕ → Entry
to_entry v = record { task = slot v 0; start = slot v 1 }

abbrev pub to_idle : List ℕ → Idle
to_idle v = record { start = slot v 0; length = slot v 1 }

abbrev pub to_inversion : List ℕ → Inversion
to_inversion v = record { task = slot v 0; job = slot v 1; delay = slot v 2 }

-- records of one mark
abbrev pub records : Mark → List (List ℕ) → List Record
records m [] = []
records m (v ∷ vs) = record_of m v ∷ records m vs

-- the head: TS, with edition 1, the kind and n, then n TK
abbrev pub head_records : ℕ → Set → List Record
head_records kind ts = record_of TS (1 ∷ kind ∷ length ts.tasks ∷ []) ∷ records TK (map of_task ts.tasks)

-- how many records the head has, and how many bytes
abbrev pub head_count : Set → ℕ
head_count ts = head_count_of (length ts.tasks)

abbrev pub head_length : Set → ℕ
head_length ts = head_length_of (length ts.tasks)

-- EN, with the number of records before it
abbrev pub end_record : ℕ → List Record
end_record before = record_of EN (before ∷ []) ∷ []

-- kind 1: the head, SL records, EN
abbrev pub timetable_records : Set → List Entry → List Record
timetable_records ts τ = head_records 1 ts ++ (records SL (map of_entry τ) ++ end_record (head_count ts + length τ))

-- kind 2: the head, ID records, PV records, EN
abbrev pub table_records : Set → Tables → List Record
table_records ts X =
    head_records 2 ts
    ++ (records ID (map of_idle X.idles)
    ++ (records PV (map of_inversion X.inversions) ++ end_record (head_count ts + (length X.idles + length X.inversions))))

abbrev pub timetable_image : Set → List Entry → List ℕ
timetable_image ts τ = image (timetable_records ts τ)

abbrev pub table_image : Set → Tables → List ℕ
table_image ts X = image (table_records ts X)

-- each list of values fits its fields
abbrev pub Each : List ℕ → List (List ℕ) → Type 0
Each widths [] = Unit {0}
Each widths (v ∷ vs) = Fit widths v × Each widths vs

-- an EN record counts below this
abbrev pub countable : ℕ
countable = suc largest_number

-- what can be written: 1 to 16 tasks, every value in the range of its field, and no more records than EN can count
pub record WritableTimetable (ts : Set) (τ : List Entry) : Type 0 where
  pub some_tasks : 1 ≤ length ts.tasks
  pub few_tasks : length ts.tasks ≤ limits.tasks
  pub tasks_fit : Each (row TK).widths (map of_task ts.tasks)
  pub entries_fit : Each (row SL).widths (map of_entry τ)
  pub count_fits : head_count ts + length τ < countable

pub record WritableTables (ts : Set) (X : Tables) : Type 0 where
  pub some_tasks : 1 ≤ length ts.tasks
  pub few_tasks : length ts.tasks ≤ limits.tasks
  pub tasks_fit : Each (row TK).widths (map of_task ts.tasks)
  pub idles_fit : Each (row ID).widths (map of_idle X.idles)
  pub inversions_fit : Each (row PV).widths (map of_inversion X.inversions)
  pub count_fits : head_count ts + (length X.idles + length X.inversions) < countable
