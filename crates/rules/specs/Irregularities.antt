-- Irregularities: document 01, "Irregularities". First as the document defines them, over the entries before; then in the general form over a
-- baseline, as they are derived. Assumes nothing.
use Rattle.std.specs.Prelude.{◌≡◌, Bool, true, false, List, [], ◌∷◌, ◌++◌, ℕ, zero, suc, ◌+◌, ◌-◌, max, ◌≤◌, ◌<◌, ltb, leb, eqb, length, take}
use Rattle.rules.specs.declared.Entry.{Entry}
use Rattle.rules.specs.declared.Idle.{Idle}
use Rattle.rules.specs.declared.Inversion.{Inversion}
use Rattle.rules.specs.Tasks.{Set, task, release, jobs}
use Rattle.rules.specs.Timetable.{entry_at, count, job_at, end_at}
use Rattle.rules.specs.Setting.{Setting, Act, run, wait, Tables, instant}

-- f, the end of the entry before entry j, 0 for the first
abbrev pub end_before : Set → List Entry → ℕ → ℕ
end_before ts τ zero = 0
end_before ts τ (suc j) = end_at ts τ j

-- as the document defines them, for entry j of a timetable
module _ (ts : Set) (h : ℕ) (τ : List Entry) where
  -- job k of task i has not yet started before entry j
  pub record NotStarted (j i k : ℕ) : Type 0 where
    pub a_task : i < length ts.tasks
    pub a_job : k < jobs h (task ts i)
    pub not_before : count i (take j τ) ≤ k

  -- the least release among jobs not yet started
  pub record LeastRelease (j r : ℕ) : Type 0 where
    pub i : ℕ
    pub k : ℕ
    pub not_started : NotStarted j i k
    pub is_release : r ≡ release (task ts i) k
    pub least : (i' k' : ℕ) → NotStarted j i' k' → r ≤ release (task ts i') k'

  -- t, the larger of f and the least release among jobs not yet started
  pub record IsInstant (j t : ℕ) : Type 0 where
    pub r : ℕ
    pub is_least : LeastRelease j r
    pub is_larger : t ≡ max (end_before ts τ j) r

  -- the forced idles from entry j on, in the order of entries: one (t, S − t) for each entry with S > t
  pub data ForcedIdles : ℕ → List Idle → Type 0 where
    no_entry : {j : ℕ} → length τ ≤ j → ForcedIdles j []
    at_once : {j t : ℕ} {idles : List Idle} → j < length τ → IsInstant j t → (entry_at τ j).start ≤ t → ForcedIdles (suc j) idles → ForcedIdles j idles
    forced : {j t : ℕ} {idles : List Idle} → j < length τ → IsInstant j t → t < (entry_at τ j).start → ForcedIdles (suc j) idles →
        ForcedIdles j (record { start = t; length = (entry_at τ j).start - t } ∷ idles)

  -- an inversion: the job starts at S while a lower-numbered task has a job released at or before S and not started
  pub record IsInversion (r : Inversion) : Type 0 where
    pub j : ℕ
    pub an_entry : j < length τ
    pub same_task : (entry_at τ j).task ≡ r.task
    pub same_job : job_at τ j ≡ r.job
    pub start_is : (entry_at τ j).start ≡ release (task ts r.task) r.job + r.delay
    pub lower : ℕ
    pub its_job : ℕ
    pub is_lower : lower < r.task
    pub not_started : NotStarted j lower its_job
    pub released : release (task ts lower) its_job ≤ (entry_at τ j).start

-- is a pair (task, job) at or below another
abbrev pub at_most : ℕ → ℕ → ℕ → ℕ → Bool
at_most i k j l = elim (eqb i j) [ true ↦ leb k l | false ↦ ltb i j ]

-- a record at its place among rising pairs
abbrev pub insert : Inversion → List Inversion → List Inversion
insert r [] = r ∷ []
insert r (s ∷ rest) = elim (at_most r.task r.job s.task s.job) [ true ↦ r ∷ s ∷ rest | false ↦ s ∷ insert r rest ]

-- does the baseline run this task
abbrev pub runs : Act → ℕ → Bool
runs (run j) i = eqb j i
runs (wait r) i = false

-- a record is put in only where the baseline would not have run the job
abbrev pub insert_unless : Bool → Inversion → List Inversion → List Inversion
insert_unless true r rest = rest
insert_unless false r rest = insert r rest

-- in the general form, from what has started and the instant from which the processor is free
module _ (G : Setting) where
  -- the idle record for the gap from t to the start s, with the baseline's own waits left out
  abbrev pub gap : ℕ → G.Started → ℕ → ℕ → List Idle
  gap zero x t s = []
  gap (suc turns) x t s =
      elim (ltb t s) [
        | true ↦ elim (G.baseline x t) [
          | run j ↦ record { start = t; length = s - t } ∷ []
          | wait r ↦ elim (leb r s) [ true ↦ gap turns x r s | false ↦ record { start = t; length = s - t } ∷ [] ]
        ]
        | false ↦ []
      ]

  -- the forced idles, entry by entry
  abbrev pub forced_idles : G.Started → ℕ → List Entry → List Idle
  forced_idles x f [] = []
  forced_idles x f (e ∷ τ) =
      gap e.start x (instant G x f) e.start ++ forced_idles (G.start_job x e.task) (G.free_after e.task e.start) τ

  -- the record for a job that starts: delay = S − its release
  abbrev pub inversion_of : G.Started → Entry → Inversion
  inversion_of x e = record { task = e.task; job = G.next_job x e.task; delay = e.start - G.release e.task (G.next_job x e.task) }

  -- an inversion is a start of a job that the baseline would not run
  abbrev pub inversions : G.Started → List Entry → List Inversion
  inversions x [] = []
  inversions x (e ∷ τ) = insert_unless (runs (G.baseline x e.start) e.task) (inversion_of x e) (inversions (G.start_job x e.task) τ)

  -- the tables of a timetable
  abbrev pub tables_of : G.Started → ℕ → List Entry → Tables
  tables_of x f τ = record { idles = forced_idles x f τ; inversions = inversions x τ }
