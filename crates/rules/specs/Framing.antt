-- Framing: document 01's order for the whole image, record by record: fewer than two bytes left, mark, cut body, then 3, 4, 5, 10. Framing answers with
-- the layout of the image; where EN ended, and that nothing follows it, are tests of their own. Assumes nothing.
use Rattle.std.specs.Prelude.{◌≡◌, Bool, true, false, List, [], ◌∷◌, map, ℕ, zero, suc, ◌+◌, ◌-◌, ◌≤◌, ◌<◌, ltb, leb, eqb, length, get_or, drop}
use Rattle.std.proofs.Math.Option.{Option, none, some}
use Rattle.rules.specs.declared.Entry.{Entry}
use Rattle.rules.specs.declared.Refusal.{Refusal}
use Rattle.rules.specs.declared.Place.{Place}
use Rattle.rules.specs.declared.Layout.{Layout}
use Rattle.rules.specs.Refusals.{Judged, gives, refuses, refusal, or_else, then, first, unless, Test, test, First}
use Rattle.rules.specs.Tasks.{Set, both, few_enough, limits}
use Rattle.rules.specs.Setting.{Tables}
use Rattle.rules.specs.Priority.{slot}
use Rattle.rules.specs.Marks.{Mark, TS, TK, SL, ID, PV, Class, head_class, task_class, option_class, listed_class, inversion_class, end_class, Row, row, size, head_count_of, head_length_of, front_mark, values}
use Rattle.rules.specs.Image.{to_task, to_entry, to_idle, to_inversion}

-- before the first record
abbrev pub start_place : Place
start_place = record { index = 0; offset = 0; rank = 0; due = 0; tasks = 0; listed = 0; inversions = 0 }

-- does an image of a kind have the mark
abbrev pub in_kind : ℕ → Row → Bool
in_kind kind r = elim (eqb kind 1) [ true ↦ r.in_kind₁ | false ↦ r.in_kind₂ ]

-- TS and TK stand where they are due; a later mark may stand where none of a higher rank has stood
abbrev pub may_follow : ℕ → ℕ → Bool
may_follow least rank = elim (ltb least 2) [ true ↦ eqb rank least | false ↦ leb least rank ]

abbrev pub allowed : ℕ → Place → Mark → Bool
allowed kind s m = both (in_kind kind (row m)) (may_follow s.rank (row m).rank)

abbrev pub if_allowed : ℕ → Place → Option Mark → Option Mark
if_allowed kind s none = none
if_allowed kind s (some m) = elim (allowed kind s m) [ true ↦ some m | false ↦ none ]

-- the mark at the front of bytes, if it is allowed there
abbrev pub mark_at : ℕ → Place → List ℕ → Option Mark
mark_at kind s bytes = if_allowed kind s (front_mark bytes)

-- the tests of a record of the class head, 3, 4 and 5, and of the class end, 10
abbrev pub head_fault : ℕ → ℕ → List ℕ → Option Refusal
head_fault kind index v =
    first (unless (eqb (slot v 0) 1) 3 index) (first (unless (eqb (slot v 1) kind) 4 index) (unless (few_enough (slot v 2)) 5 index))

abbrev pub end_fault : ℕ → List ℕ → Option Refusal
end_fault index v = unless (eqb (slot v 0) index) 10 index

-- the least rank of a record behind one: its own, or the next where it stands at most once
abbrev pub least_behind : Row → ℕ
least_behind r = elim r.once [ true ↦ suc r.rank | false ↦ r.rank ]

-- what is known after a record: TS with n, a TK, a record between the tasks and EN with what is counted then
abbrev pub rank_due : ℕ → ℕ
rank_due zero = 2
rank_due (suc due) = 1

abbrev pub tasks_due : ℕ → ℕ → ℕ → ℕ → Place
tasks_due index offset due n =
    record { index = index; offset = offset; rank = rank_due due; due = due; tasks = n; listed = 0; inversions = 0 }

abbrev pub after_head : Mark → Place → List ℕ → Place
after_head m s v = tasks_due (suc s.index) (s.offset + size m) (slot v 2) (slot v 2)

abbrev pub after_task : Mark → Place → Place
after_task m s = tasks_due (suc s.index) (s.offset + size m) (s.due - 1) s.tasks

abbrev pub after_later : Mark → Place → ℕ → ℕ → Place
after_later m s listed inversions =
    record {
      index = suc s.index;
      offset = s.offset + size m;
      rank = least_behind (row m);
      due = s.due;
      tasks = s.tasks;
      listed = listed;
      inversions = inversions;
    }

abbrev pub layout_at : Mark → Place → Layout
layout_at m s = record { tasks = s.tasks; listed = s.listed; inversions = s.inversions; ended = s.offset + size m }

-- a whole record with an allowed mark: framing goes on behind it, or ends
pub data Next : Type 0 where
  goes_on : Place → Next
  ends : Judged Layout → Next

abbrev pub checked : Option Refusal → Next → Next
checked none next = next
checked (some r) next = ends (refuses r)

-- by the class of its mark; a record of the class option counts in the index alone, and its own tests and its value have their place in that line
abbrev pub after_as : Class → ℕ → Place → Mark → List ℕ → Next
after_as head_class kind s m v = checked (head_fault kind s.index v) (goes_on (after_head m s v))
after_as task_class kind s m v = goes_on (after_task m s)
after_as option_class kind s m v = goes_on (after_later m s s.listed s.inversions)
after_as listed_class kind s m v = goes_on (after_later m s (suc s.listed) s.inversions)
after_as inversion_class kind s m v = goes_on (after_later m s s.listed (suc s.inversions))
after_as end_class kind s m v = checked (end_fault s.index v) (ends (gives (layout_at m s)))

abbrev pub after : ℕ → Place → Mark → List ℕ → Next
after kind s m v = after_as (row m).class kind s m v

-- record by record, in enough turns
abbrev pub frame_from : ℕ → ℕ → Place → List ℕ → Judged Layout
frame_from zero kind s bytes = refuses (refusal 1 s.index)
frame_from (suc turns) kind s bytes =
    elim (leb 2 (length bytes)) [
      | false ↦ refuses (refusal 1 s.index)
      | true ↦ elim (mark_at kind s bytes) [
        | none ↦ refuses (refusal 2 s.index)
        | some m ↦ elim (leb (size m) (length bytes)) [
          | false ↦ refuses (refusal 1 s.index)
          | true ↦ elim (after kind s m (values m bytes)) [ goes_on t ↦ frame_from turns kind t (drop (size m) bytes) | ends z ↦ z ]
        ]
      ]
    ]

-- framing up to EN, from a place on: every record has at least two bytes
unfoldable pub frame_records : ℕ → Place → List ℕ → Judged Layout
frame_records kind s bytes = frame_from (suc (length bytes)) kind s bytes

-- the index of EN, and that nothing follows it
abbrev pub index_of_end : Layout → ℕ
index_of_end l = head_count_of l.tasks + (l.listed + l.inversions)

abbrev pub nothing_follows : List ℕ → Layout → Bool
nothing_follows bytes l = leb (length bytes) l.ended

-- framing of a whole image
abbrev pub frame : ℕ → List ℕ → Judged Layout
frame kind bytes =
    then (frame_records kind start_place bytes) (λ (l : Layout). or_else (unless (nothing_follows bytes l) 10 (index_of_end l)) (gives l))

-- the order of framing's refusals: the tests of a record, each condition by itself
pub record Allowed (kind : ℕ) (s : Place) (bytes : List ℕ) (m : Mark) : Type 0 where
  pub first_byte : get_or bytes 0 0 ≡ (row m).byte₁
  pub second_byte : get_or bytes 1 0 ≡ (row m).byte₂
  pub of_kind : in_kind kind (row m) ≡ true
  pub its_turn : may_follow s.rank (row m).rank ≡ true

-- a mark of a class is allowed, and its record breaks a rule
pub record Breaks (kind : ℕ) (s : Place) (bytes : List ℕ) (c : Class) (Broken : Mark → List ℕ → Type 0) : Type 0 where
  pub mark : Mark
  pub may : Allowed kind s bytes mark
  pub of_class : (row mark).class ≡ c
  pub broken : Broken mark (values mark bytes)

abbrev pub framing_tests : ℕ → Place → List ℕ → List Test
framing_tests kind s bytes =
    test 1 s.index (length bytes < 2)
    ∷ test 2 s.index ((m : Mark) → Allowed kind s bytes m → ⊥)
    ∷ test 1 s.index ((m : Mark) × Allowed kind s bytes m × (length bytes < size m))
    ∷ test 3 s.index (Breaks kind s bytes head_class (λ m v. slot v 0 ≡ 1 → ⊥))
    ∷ test 4 s.index (Breaks kind s bytes head_class (λ m v. slot v 1 ≡ kind → ⊥))
    ∷ test 5 s.index (Breaks kind s bytes head_class (λ m v. (1 ≤ slot v 2) × (slot v 2 ≤ limits.tasks) → ⊥))
    ∷ test 10 s.index (Breaks kind s bytes end_class (λ m v. (slot v 0 ≡ s.index) × (drop (size m) bytes ≡ []) → ⊥))
    ∷ []

-- what refuses an image from a place on: a test of this record, or, where it passes them all, a later record
pub data RefusesFraming (kind : ℕ) : Place → List ℕ → Refusal → Type 1 where
  this_record : {s : Place} {bytes : List ℕ} {r : Refusal} → First (framing_tests kind s bytes) (some r) → RefusesFraming kind s bytes r
  later_record : {s t : Place} {bytes : List ℕ} {r : Refusal} {m : Mark} → First (framing_tests kind s bytes) none → Allowed kind s bytes m →
      after kind s m (values m bytes) ≡ goes_on t → RefusesFraming kind t (drop (size m) bytes) r → RefusesFraming kind s bytes r

-- reading what is framed: the values of so many records of one mark, and the bytes behind them
abbrev pub read : Mark → ℕ → List ℕ → List (List ℕ)
read m zero bytes = []
read m (suc many) bytes = values m bytes ∷ read m many (drop (size m) bytes)

abbrev pub behind : Mark → ℕ → List ℕ → List ℕ
behind m zero bytes = bytes
behind m (suc many) bytes = behind m many (drop (size m) bytes)

abbrev pub behind_tasks : Layout → List ℕ → List ℕ
behind_tasks l bytes = drop (head_length_of l.tasks) bytes

abbrev pub set_in : Layout → List ℕ → Set
set_in l bytes = record { tasks = map to_task (read TK l.tasks (drop (size TS) bytes)) }

abbrev pub entries_in : Layout → List ℕ → List Entry
entries_in l bytes = map to_entry (read SL l.listed (behind_tasks l bytes))

abbrev pub tables_in : Layout → List ℕ → Tables
tables_in l bytes = record {
  idles = map to_idle (read ID l.listed (behind_tasks l bytes));
  inversions = map to_inversion (read PV l.inversions (behind ID l.listed (behind_tasks l bytes)));
}
