-- Judging a timetable and judging tables: document 01's entries (11 to 16), records' rules (17), replay (18) and comparison (19). Assumes nothing.
use Rattle.std.specs.Prelude.{Bool, true, false, List, [], ◌∷◌, ℕ, zero, suc, ◌+◌, ◌-◌, ltb, leb, eqb, length}
use Rattle.std.proofs.Math.Option.{Option, none, some}
use Rattle.fields.specs.Body.{head₀, tail₀}
use Rattle.rules.specs.declared.Task.{Task}
use Rattle.rules.specs.declared.Entry.{Entry}
use Rattle.rules.specs.declared.Idle.{Idle}
use Rattle.rules.specs.declared.Inversion.{Inversion}
use Rattle.rules.specs.declared.Refusal.{Refusal}
use Rattle.rules.specs.Refusals.{Judged, gives, or_else, then, refusal, first, unless}
use Rattle.rules.specs.Tasks.{Set, both, task, jobs, hyperperiod, set_fault}
use Rattle.rules.specs.Setting.{Setting, Tables}
use Rattle.rules.specs.Priority.{setting}
use Rattle.rules.specs.Irregularities.{at_most, tables_of}
use Rattle.rules.specs.Image.{head_count}
use Rattle.rules.specs.Decision.{replay}

-- a rule number as a fault, 0 for none
abbrev pub numbered : ℕ → ℕ → Option Refusal
numbered zero place = none
numbered (suc number) place = some (refusal (suc number) place)

-- entries in turn, each by the rules of a start; then 16, whose place is a task number
abbrev pub entries_fault : (G : Setting) → (G.Started → ℕ) → ℕ → G.Started → ℕ → List Entry → Option Refusal
entries_fault G missing place x f [] = unless (G.all_started x) 16 (missing x)
entries_fault G missing place x f (e ∷ τ) =
    first (numbered (G.breaks x f e.task e.start) place)
    (entries_fault G missing (suc place) (G.start_job x e.task) (G.free_after e.task e.start) τ)

-- the lowest task with a job missing
abbrev pub missing_from : ℕ → ℕ → List Task → List ℕ → ℕ
missing_from i h [] x = i
missing_from i h (t ∷ ts) x = elim (ltb (head₀ x) (jobs h t)) [ true ↦ i | false ↦ missing_from (suc i) h ts (tail₀ x) ]

-- the first fault of a timetable: the first entry's record comes after the head
abbrev pub timetable_fault : Set → List Entry → Option Refusal
timetable_fault ts τ = entries_fault (setting ts) (missing_from 0 (hyperperiod ts) ts.tasks) (head_count ts) [] 0 τ

-- the tables of a set's timetable
abbrev pub tables : Set → List Entry → Tables
tables ts τ = tables_of (setting ts) [] 0 τ

-- a timetable judged, with its tables
abbrev pub judge_timetable : Set → List Entry → Judged Tables
judge_timetable ts τ = or_else (first (set_fault ts) (timetable_fault ts τ)) (gives (tables ts τ))

-- an ID's own rule: length at least 1, start + length < H
abbrev pub idle_in_range : ℕ → Idle → Bool
idle_in_range h r = both (leb 1 r.length) (ltb (r.start + r.length) h)

-- a PV's own rule: task below n, job below H/T, delay at most D − C
abbrev pub inversion_in_range : Set → ℕ → Inversion → Bool
inversion_in_range ts h r =
    both (ltb r.task (length ts.tasks))
    (both (ltb r.job (jobs h (task ts r.task))) (leb r.delay ((task ts r.task).deadline - (task ts r.task).time)))

-- ID records in turn: each start above the previous record's end, that is from the tick after it on
abbrev pub idles_fault : ℕ → ℕ → ℕ → List Idle → Option Refusal
idles_fault h place from [] = none
idles_fault h place from (r ∷ idles) =
    first (unless (both (leb from r.start) (idle_in_range h r)) 17 place) (idles_fault h (suc place) (suc (r.start + r.length)) idles)

-- PV records in turn: pairs strictly rise, that is from the job after the one before on
abbrev pub inversions_fault : Set → ℕ → ℕ → ℕ → ℕ → List Inversion → Option Refusal
inversions_fault ts h place i k [] = none
inversions_fault ts h place i k (r ∷ p) =
    first (unless (both (at_most i k r.task r.job) (inversion_in_range ts h r)) 17 place)
    (inversions_fault ts h (suc place) r.task (suc r.job) p)

abbrev pub records_fault : Set → ℕ → Tables → Option Refusal
records_fault ts h X =
    first (idles_fault h (head_count ts) 0 X.idles) (inversions_fault ts h (head_count ts + length X.idles) 0 0 X.inversions)

-- the first place at which two lists of records differ
abbrev pub same_idle : Idle → Idle → Bool
same_idle a b = both (eqb a.start b.start) (eqb a.length b.length)

abbrev pub same_inversion : Inversion → Inversion → Bool
same_inversion a b = both (eqb a.task b.task) (both (eqb a.job b.job) (eqb a.delay b.delay))

abbrev pub inversions_differ : ℕ → List Inversion → List Inversion → Option Refusal
inversions_differ place [] [] = none
inversions_differ place [] (s ∷ q) = some (refusal 19 place)
inversions_differ place (r ∷ p) [] = some (refusal 19 place)
inversions_differ place (r ∷ p) (s ∷ q) = first (unless (same_inversion r s) 19 place) (inversions_differ (suc place) p q)

abbrev pub records_differ : ℕ → List Idle → List Idle → List Inversion → List Inversion → Option Refusal
records_differ place [] [] p q = inversions_differ place p q
records_differ place [] (s ∷ l) p q = some (refusal 19 place)
records_differ place (r ∷ k) [] p q = some (refusal 19 place)
records_differ place (r ∷ k) (s ∷ l) p q = first (unless (same_idle r s) 19 place) (records_differ (suc place) k l p q)

abbrev pub tables_differ : ℕ → Tables → Tables → Option Refusal
tables_differ place X Y = records_differ place X.idles Y.idles X.inversions Y.inversions

-- tables judged, with the timetable that replay rebuilds; its own tables have to be the given ones
abbrev pub compared : Set → Tables → List Entry → Judged (List Entry)
compared ts X τ = or_else (tables_differ (head_count ts) X (tables ts τ)) (gives τ)

abbrev pub judge_tables : Set → Tables → Judged (List Entry)
judge_tables ts X =
    or_else (first (set_fault ts) (records_fault ts (hyperperiod ts) X)) (then (replay (setting ts) [] X) (compared ts X))
