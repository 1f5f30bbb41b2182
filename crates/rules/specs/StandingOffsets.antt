-- The offsets that a state holds: document 01, "The dispatcher". What stands in a table image from each of them on. Assumes nothing.
use Rattle.std.specs.Prelude.{◌≡◌, true, false, List, [], ◌∷◌, ◌++◌, map, ℕ, ◌+◌, ◌<◌, ltb, length, drop}
use Rattle.rules.specs.declared.Idle.{Idle}
use Rattle.rules.specs.declared.Inversion.{Inversion}
use Rattle.rules.specs.declared.Offsets.{Offsets as OffsetsOf}
use Rattle.rules.specs.declared.Dispatcher.{Dispatcher as State}
use Rattle.rules.specs.Tasks.{Set}
use Rattle.rules.specs.Setting.{Tables}
use Rattle.rules.specs.Priority.{slot}
use Rattle.rules.specs.Irregularities.{at_most}
use Rattle.rules.specs.Marks.{ID, PV}
use Rattle.rules.specs.Image.{Record, image, records, head_count, end_record, of_idle, of_inversion}

-- the idle records that start at t or later
abbrev pub idles_since : ℕ → List Idle → List Idle
idles_since t [] = []
idles_since t (r ∷ idles) = elim (ltb r.start t) [ true ↦ idles_since t idles | false ↦ r ∷ idles_since t idles ]

-- the inversion records of task i from its job k on, and those of higher task numbers
abbrev pub inversions_since : ℕ → ℕ → List Inversion → List Inversion
inversions_since i k [] = []
inversions_since i k (r ∷ p) = elim (at_most i k r.task r.job) [ true ↦ r ∷ inversions_since i k p | false ↦ inversions_since i k p ]

-- the end of a table image, with so many of its ID and PV records: ID, PV, EN
abbrev pub last_records : Set → Tables → List Idle → List Inversion → List Record
last_records ts X idles p =
    records ID (map of_idle idles)
    ++ (records PV (map of_inversion p) ++ end_record (head_count ts + (length X.idles + length X.inversions)))

-- offsets at instant t with next job numbers x. From the ID offset on stand the ID records that are left, all PV records and EN: with none left it is that
-- of the first PV, else EN. From a task's offset on stand the PV records that are left for it, those of higher task numbers and EN
pub record OffsetsStand (bytes : List ℕ) (ts : Set) (X : Tables) (t : ℕ) (x : List ℕ) (o : OffsetsOf) : Type 0 where
  pub idle : drop o.idle bytes ≡ image (last_records ts X (idles_since t X.idles) X.inversions)
  pub inversions : (i : ℕ) → i < length ts.tasks →
      drop (slot o.inversions i) bytes ≡ image (last_records ts X [] (inversions_since i (slot x i) X.inversions))

-- a state's offsets: now, at the running job's start; and as at a cycle's start, at instant 0 with next jobs 0
pub record StateOffsets (bytes : List ℕ) (ts : Set) (X : Tables) (s : State) : Type 0 where
  pub now : OffsetsStand bytes ts X s.running.start s.next s.now
  pub first : OffsetsStand bytes ts X 0 [] s.first
