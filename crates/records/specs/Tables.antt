-- The ID and PV records of a table image, read where they stand: behind TS and n tasks, one behind the other. Assumes nothing.
use Rattle.std.specs.Prelude.{List, [], ◌∷◌, map, ℕ, ◌+◌, ◌*◌, ◌≤◌, ◌<◌, length, drop}
use Rattle.rules.specs.declared.Idle.{Idle}
use Rattle.rules.specs.declared.Inversion.{Inversion}
use Rattle.rules.specs.Tasks.{limits}
use Rattle.rules.specs.Setting.{Tables}
use Rattle.rules.specs.Marks.{ID, PV, EN, size, values, head_length_of}
use Rattle.rules.specs.Image.{to_idle, to_inversion}
use Rattle.rules.specs.Framing.{read}
use Rattle.rules.specs.Offsets.{last_offset}

-- the byte offset of the first PV, behind the head and the ID records
abbrev pub inversions_offset : ℕ → ℕ → ℕ
inversions_offset n idles = head_length_of n + idles * size ID

-- and that of EN, behind all records
abbrev pub end_offset : ℕ → ℕ → ℕ → ℕ
end_offset n idles inversions = inversions_offset n idles + inversions * size PV

-- the ID at a byte offset
abbrev pub idle_in : List ℕ → ℕ → Idle
idle_in bytes at = to_idle (values ID (drop at bytes))

-- the PV at a byte offset
abbrev pub inversion_in : List ℕ → ℕ → Inversion
inversion_in bytes at = to_inversion (values PV (drop at bytes))

-- so many ID records from a byte offset on
unfoldable pub idles_at : List ℕ → ℕ → ℕ → List Idle
idles_at bytes at many = map to_idle (read ID many (drop at bytes))

-- so many PV records from a byte offset on
unfoldable pub inversions_at : List ℕ → ℕ → ℕ → List Inversion
inversions_at bytes at many = map to_inversion (read PV many (drop at bytes))

-- the tables of an image with so many tasks, ID and PV records
abbrev pub tables_at : List ℕ → ℕ → ℕ → ℕ → Tables
tables_at bytes n idles inversions = record {
  idles = idles_at bytes (head_length_of n) idles;
  inversions = inversions_at bytes (inversions_offset n idles) inversions;
}

-- every PV's task is below n
abbrev pub TasksBelow : ℕ → List Inversion → Type 0
TasksBelow n [] = Unit {0}
TasksBelow n (r ∷ p) = (r.task < n) × TasksBelow n p

-- tables whose offsets can be told: up to 16 tasks, records that lie in the image, EN ends by the last offset, and every PV's task is below n
pub record HasOffsets (bytes : List ℕ) (n idles inversions : ℕ) : Type 0 where
  pub few : n ≤ limits.tasks
  pub stand : end_offset n idles inversions ≤ length bytes
  pub short : end_offset n idles inversions + size EN ≤ last_offset
  pub tasks : TasksBelow n (inversions_at bytes (inversions_offset n idles) inversions)
