-- The worked cases: document 01, "A set to work by hand", with the byte offsets of document 02, R-2, and the figures of R-4, document 000's figure 1 and
-- source document 001's example, in a single table. Assumes nothing.
use Rattle.std.specs.Prelude.{List, [], ◌∷◌, ◌++◌, ℕ, ℤ, pos, neg_ℤ, length, take}
use Rattle.rules.specs.declared.Layout.{Layout}
use Rattle.rules.specs.declared.Task.{Task}
use Rattle.rules.specs.declared.Entry.{Entry}
use Rattle.rules.specs.declared.Idle.{Idle}
use Rattle.rules.specs.declared.Inversion.{Inversion}
use Rattle.rules.specs.declared.Figures.{Figures}
use Rattle.rules.specs.Refusals.{Judged, gives, refuses, Told, tells, make_tells, axis_tells}
use Rattle.rules.specs.Tasks.{Set, set_with, figures}
use Rattle.rules.specs.Setting.{Tables}
use Rattle.rules.specs.Image.{timetable_image, table_image}
use Rattle.rules.specs.Framing.{frame, set_in}
use Rattle.rules.specs.Operations.{derived_image, rebuilt_image, make_answer}
use Rattle.rules.specs.Axis.{most_figures, front, measured_into, axis_answer}

-- a task, an entry, and the two kinds of records, as the document writes them
abbrev pub TK : ℕ → ℕ → ℕ → ℕ → Task
TK o c t d = record { offset = o; time = c; period = t; deadline = d }

abbrev pub SL : ℕ → ℕ → Entry
SL task start = record { task = task; start = start }

abbrev pub ID : ℕ → ℕ → Idle
ID start length = record { start = start; length = length }

abbrev pub PV : ℕ → ℕ → ℕ → Inversion
PV task job delay = record { task = task; job = job; delay = delay }

abbrev pub tables_with : List Idle → List Inversion → Tables
tables_with idles inversions = record { idles = idles; inversions = inversions }

-- the set to work by hand
abbrev pub hand : Set
hand = set_with (TK 0 1 5 5 ∷ TK 0 2 10 10 ∷ TK 0 6 20 20 ∷ [])

-- one task of one tick
abbrev pub one_task : Set
one_task = set_with (TK 0 1 1 1 ∷ [])

-- P1's starts, and P2's with job 1 of task 0 at an instant
abbrev pub P1 : List Entry
P1 = SL 0 0 ∷ SL 1 1 ∷ SL 2 3 ∷ SL 0 9 ∷ SL 0 10 ∷ SL 1 11 ∷ SL 0 15 ∷ []

abbrev pub P2_with : ℕ → List Entry
P2_with start = SL 0 0 ∷ SL 2 1 ∷ SL 1 7 ∷ SL 0 start ∷ SL 0 12 ∷ SL 1 13 ∷ SL 0 15 ∷ []

abbrev pub P2 : List Entry
P2 = P2_with 9

-- P2's image of 91 bytes
abbrev pub P2_bytes : List ℕ
P2_bytes =
    0x54 ∷ 0x53 ∷ 0x01 ∷ 0x02 ∷ 0x03
    ∷ 0x54 ∷ 0x4B ∷ 0x00 ∷ 0x00 ∷ 0x00 ∷ 0x00 ∷ 0x00 ∷ 0x00 ∷ 0x00 ∷ 0x01 ∷ 0x00 ∷ 0x00 ∷ 0x00 ∷ 0x05 ∷ 0x00 ∷ 0x00 ∷ 0x00 ∷ 0x05
    ∷ 0x54 ∷ 0x4B ∷ 0x00 ∷ 0x00 ∷ 0x00 ∷ 0x00 ∷ 0x00 ∷ 0x00 ∷ 0x00 ∷ 0x02 ∷ 0x00 ∷ 0x00 ∷ 0x00 ∷ 0x0A ∷ 0x00 ∷ 0x00 ∷ 0x00 ∷ 0x0A
    ∷ 0x54 ∷ 0x4B ∷ 0x00 ∷ 0x00 ∷ 0x00 ∷ 0x00 ∷ 0x00 ∷ 0x00 ∷ 0x00 ∷ 0x06 ∷ 0x00 ∷ 0x00 ∷ 0x00 ∷ 0x14 ∷ 0x00 ∷ 0x00 ∷ 0x00 ∷ 0x14
    ∷ 0x49 ∷ 0x44 ∷ 0x00 ∷ 0x00 ∷ 0x00 ∷ 0x0A ∷ 0x00 ∷ 0x02
    ∷ 0x50 ∷ 0x56 ∷ 0x01 ∷ 0x00 ∷ 0x00 ∷ 0x00 ∷ 0x00 ∷ 0x00 ∷ 0x07
    ∷ 0x50 ∷ 0x56 ∷ 0x02 ∷ 0x00 ∷ 0x00 ∷ 0x00 ∷ 0x00 ∷ 0x00 ∷ 0x01
    ∷ 0x45 ∷ 0x4E ∷ 0x00 ∷ 0x00 ∷ 0x00 ∷ 0x07
    ∷ []

-- P2's inversions with other idles
abbrev pub P2_idles : List Idle → Tables
P2_idles idles = tables_with idles (PV 1 0 7 ∷ PV 2 0 1 ∷ [])

-- the set and the starts of document 000's figure 1, which the paper says differ from plain priority in an idle interval [9, 10) and a job of
-- the second task before the first at 30
abbrev pub figure_1 : Set
figure_1 = set_with (TK 0 3 10 10 ∷ TK 0 6 12 12 ∷ TK 0 8 60 60 ∷ [])

abbrev pub figure_1_starts : List Entry
figure_1_starts = SL 0 0 ∷ SL 1 3 ∷ SL 0 10 ∷ SL 1 13 ∷ SL 2 19 ∷ SL 0 27 ∷ SL 1 30 ∷ SL 0 36 ∷ SL 1 39 ∷ SL 0 45 ∷ SL 1 48 ∷ SL 0 54 ∷ []

abbrev pub figure_1_tables : Tables
figure_1_tables = tables_with (ID 9 1 ∷ []) (PV 1 2 6 ∷ [])

-- the set of source document 001's figure 2, part A, whose fourth interval is empty
abbrev pub figure_2 : Set
figure_2 = set_with (TK 0 1 16 5 ∷ TK 0 3 16 7 ∷ TK 7 2 16 4 ∷ TK 13 1 16 3 ∷ [])

-- one task whose only interval has a stretch without jobs before it and one behind it
abbrev pub one_interval : Set
one_interval = set_with (TK 2 1 10 3 ∷ [])

-- a number below 0
abbrev minus : ℕ → ℤ
minus n = neg_ℤ (pos n)

-- the figures of P1 and P2: busy, forced idle, other idle; the lateness of each task; the capacity of each interval
abbrev pub P1_axis : List ℤ
P1_axis = pos 14 ∷ pos 0 ∷ pos 6 ∷ pos 0 ∷ minus 7 ∷ minus 11 ∷ pos 4 ∷ pos 2 ∷ pos 0 ∷ minus 4 ∷ []

abbrev pub P2_axis : List ℤ
P2_axis = pos 14 ∷ pos 2 ∷ pos 4 ∷ pos 0 ∷ minus 1 ∷ minus 13 ∷ pos 4 ∷ pos 2 ∷ pos 0 ∷ minus 4 ∷ []

-- what is asked of an image: to derive its tables, to rebuild its timetable, or to measure its axis
pub data Asked : Type 0 where
  to_derive : List ℕ → Asked
  to_rebuild : List ℕ → Asked
  to_measure : List ℕ → Asked

-- a worked case: what is asked; what the answer tells; the result's bytes; the axis's figures; the figures of the image's set
pub record Case : Type 0 where
  pub asked : Asked
  pub answer : Told
  pub result : List ℕ
  pub axis : List ℤ
  pub set : Figures

-- a case with a result, one with an axis, whose image has so many bytes, and one that is refused
abbrev makes : Asked → List ℕ → Figures → Case
makes asked result set = record { asked = asked; answer = tells (length result ∷ []); result = result; axis = []; set = set }

abbrev measures : List ℕ → ℕ → List ℤ → Figures → Case
measures bytes used axis set = record { asked = to_measure bytes; answer = tells (length axis ∷ used ∷ []); result = []; axis = axis; set = set }

-- with its number, its place and its byte offset
abbrev refuses_with : Asked → ℕ → ℕ → ℕ → Figures → Case
refuses_with asked number place offset set =
    record { asked = asked; answer = record { number = number; place = place; offset = offset; values = [] }; result = []; axis = []; set = set }

-- the figures of the set to work by hand, and of no set
abbrev hand_figures : Figures
hand_figures = record { hyperperiod = 20; jobs = 7 }

abbrev no_figures : Figures
no_figures = record { hyperperiod = 0; jobs = 0 }

abbrev without_records : Set → List ℕ
without_records ts = table_image ts (tables_with [] [])

abbrev pub worked : List Case
worked =
    -- P1: no record
    makes (to_derive (timetable_image hand P1)) (without_records hand) hand_figures
    ∷ makes (to_rebuild (without_records hand)) (timetable_image hand P1) hand_figures
    -- P2: its 91 bytes
    ∷ makes (to_derive (timetable_image hand P2)) P2_bytes hand_figures
    ∷ makes (to_rebuild P2_bytes) (timetable_image hand P2) hand_figures
    -- P3, P4: job 1 of task 0 at 10 and at 8
    ∷ refuses_with (to_derive (timetable_image hand (P2_with 10))) 15 7 80 hand_figures
    ∷ refuses_with (to_derive (timetable_image hand (P2_with 8))) 14 7 80 hand_figures
    -- P5: idle (10,5); P6: idle split into (10,1) and (11,1)
    ∷ refuses_with (to_rebuild (table_image hand (P2_idles (ID 10 5 ∷ [])))) 18 4 0 hand_figures
    ∷ refuses_with (to_rebuild (table_image hand (P2_idles (ID 10 1 ∷ ID 11 1 ∷ [])))) 17 5 67 hand_figures
    -- P7: P1's tables with PV (2,0,3); P8: with ID (16,2)
    ∷ refuses_with (to_rebuild (table_image hand (tables_with [] (PV 2 0 3 ∷ [])))) 19 4 59 hand_figures
    ∷ refuses_with (to_rebuild (table_image hand (tables_with (ID 16 2 ∷ []) []))) 19 4 59 hand_figures
    -- P9: one task and one entry
    ∷ makes (to_derive (timetable_image one_task (SL 0 0 ∷ []))) (without_records one_task) (record { hyperperiod = 1; jobs = 1 })
    ∷ makes (to_rebuild (without_records one_task)) (timetable_image one_task (SL 0 0 ∷ [])) (record { hyperperiod = 1; jobs = 1 })
    -- P10: periods 3 and 65,535; 2 and 65,535
    ∷ refuses_with (to_rebuild (without_records (set_with (TK 0 1 3 3 ∷ TK 0 1 65535 65535 ∷ [])))) 9 0 0
    (record { hyperperiod = 65535; jobs = 21846 })
    ∷ refuses_with (to_rebuild (without_records (set_with (TK 0 1 2 2 ∷ TK 0 1 65535 65535 ∷ [])))) 8 0 0
    (record { hyperperiod = 131070; jobs = 65537 })
    -- P11: periods 16 and 65,520, which pass as a set: what is missing is an entry; a third task of 65,520
    ∷ refuses_with (to_derive (timetable_image (set_with (TK 0 1 16 16 ∷ TK 0 1 65520 65520 ∷ [])) [])) 16 0 0
    (record { hyperperiod = 65520; jobs = 4096 })
    ∷ refuses_with (to_derive (timetable_image (set_with (TK 0 1 16 16 ∷ TK 0 1 65520 65520 ∷ TK 0 1 65520 65520 ∷ [])) [])) 9 0 0
    (record { hyperperiod = 65520; jobs = 4097 })
    -- P2 without EN, as document 02 has it: where EN would start
    ∷ refuses_with (to_rebuild (take 85 P2_bytes)) 1 7 85 no_figures
    -- P12: no bytes
    ∷ refuses_with (to_derive []) 1 0 0 no_figures
    ∷ refuses_with (to_rebuild []) 1 0 0 no_figures
    -- document 000's figure 1
    ∷ makes (to_derive (timetable_image figure_1 figure_1_starts)) (table_image figure_1 figure_1_tables) (record { hyperperiod = 60; jobs = 12 })
    ∷ makes (to_rebuild (table_image figure_1 figure_1_tables)) (timetable_image figure_1 figure_1_starts) (record { hyperperiod = 60; jobs = 12 })
    -- P1's axis; P2's, also with the next image behind it; no bytes
    ∷ measures (without_records hand) 65 P1_axis hand_figures
    ∷ measures P2_bytes 91 P2_axis hand_figures
    ∷ measures (P2_bytes ++ without_records hand) 91 P2_axis hand_figures
    ∷ refuses_with (to_measure []) 1 0 0 no_figures
    -- source document 001's figure 2, and the task with one interval
    ∷ measures (without_records figure_2) 83
    (pos 7 ∷ pos 0 ∷ pos 9 ∷ minus 4 ∷ minus 3 ∷ minus 2 ∷ minus 2 ∷ pos 3 ∷ minus 1 ∷ pos 2 ∷ pos 2 ∷ pos 2 ∷ [])
    (record { hyperperiod = 16; jobs = 4 })
    ∷ measures (without_records one_interval) 29 (pos 1 ∷ pos 0 ∷ pos 9 ∷ minus 2 ∷ pos 2 ∷ pos 2 ∷ pos 5 ∷ []) (record { hyperperiod = 10; jobs = 1 })
    ∷ []

-- what the rule book answers, with room enough for any result
abbrev told : Asked → Told
told (to_derive bytes) = make_tells (make_answer bytes (derived_image 65536 bytes))
told (to_rebuild bytes) = make_tells (make_answer bytes (rebuilt_image 65536 bytes))
told (to_measure bytes) = axis_tells (axis_answer (front bytes) (measured_into most_figures bytes))

abbrev given : {A : Type 0} → Judged (List A) → List A
given (gives result) = result
given (refuses r) = []

abbrev bytes_of : Asked → List ℕ
bytes_of (to_derive bytes) = given (derived_image 65536 bytes)
bytes_of (to_rebuild bytes) = given (rebuilt_image 65536 bytes)
bytes_of (to_measure bytes) = []

abbrev axis_of : Asked → List ℤ
axis_of (to_derive bytes) = []
axis_of (to_rebuild bytes) = []
axis_of (to_measure bytes) = given (measured_into most_figures bytes)

abbrev figures_in : List ℕ → Judged Layout → Figures
figures_in bytes (gives l) = figures (set_in l bytes)
figures_in bytes (refuses r) = no_figures

abbrev figures_of : Asked → Figures
figures_of (to_derive bytes) = figures_in bytes (frame 1 bytes)
figures_of (to_rebuild bytes) = figures_in bytes (frame 2 bytes)
figures_of (to_measure bytes) = figures_in (front bytes) (frame 2 (front bytes))

-- the case as the rule book has it
abbrev pub worked_out : Case → Case
worked_out c = record {
  asked = c.asked;
  answer = told c.asked;
  result = bytes_of c.asked;
  axis = axis_of c.asked;
  set = figures_of c.asked;
}
