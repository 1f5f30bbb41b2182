-- What a table image that is accepted comes to, and what rebuilding writes of its timetable. Assumes nothing.
use Rattle.std.specs.Prelude.{◌≡◌, List, map, ℕ, ◌+◌, ◌*◌, ◌≤◌, length}
use Rattle.rules.specs.declared.Entry.{Entry}
use Rattle.rules.specs.declared.Offsets.{Offsets}
use Rattle.rules.specs.Refusals.{gives}
use Rattle.rules.specs.Tasks.{Set, limits}
use Rattle.rules.specs.Setting.{Tables}
use Rattle.rules.specs.Judging.{judge_tables}
use Rattle.rules.specs.Marks.{SL, EN, size, head_length_of}
use Rattle.rules.specs.Image.{image, records, of_entry}
use Rattle.rules.specs.Offsets.{first_offsets}
use Rattle.rules.specs.Operations.{read_tables}
use Rattle.sets.specs.declared.Kept.{Kept}
use Rattle.sets.specs.Kept.{tasks_in, Keeps}
use Rattle.writing.specs.Writing.{put_at}

-- an accepted image: its set, its tables with the offsets as at a cycle's start, and the timetable behind them
pub record TimetableBehind (bytes : List ℕ) (ts : Set) (first : Offsets) (τ : List Entry) : Type 0 where
  pub tables : Tables
  pub read : read_tables bytes ≡ gives (record { set = ts; tables = tables })
  pub judged : judge_tables ts tables ≡ gives τ
  pub offsets : first ≡ first_offsets ts tables

-- the bytes of the longest image of a valid timetable: TS, 16 tasks, 4,096 entries, EN; 28,971
abbrev pub longest_image : ℕ
longest_image = head_length_of limits.tasks + limits.jobs * size SL + size EN

-- the bytes of entries
abbrev pub entries_bytes : List Entry → List ℕ
entries_bytes τ = image (records SL (map of_entry τ))

-- entries put into an output behind the tasks
abbrev pub entries_put : List ℕ → ℕ → List Entry → List ℕ
entries_put old n τ = put_at old (head_length_of n) (entries_bytes τ)

-- an accepted image, what is kept of its set, and room for the entries of its timetable behind the tasks
pub record CanPut (ts : Set) (bytes : List ℕ) (kept : Kept) (first : Offsets) (out : List ℕ) : Type 0 where
  pub entries : List Entry
  pub behind : TimetableBehind bytes ts first entries
  pub keeps : Keeps ts kept
  pub room : head_length_of (tasks_in kept) + length entries * size SL ≤ length out
