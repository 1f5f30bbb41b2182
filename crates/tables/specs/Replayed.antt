-- Replay and comparison in one pass: what it is given, and which records had no effect. Assumes nothing.
use Rattle.std.specs.Prelude.{◌≡◌, List, ℕ, ◌+◌, ◌*◌, ◌-◌, ◌/◌, ◌≤◌, ◌<◌, ltb, length, Result, Ok, Err, ⊤}
use Rattle.rules.specs.declared.Offsets.{Offsets as OffsetsOf}
use Rattle.rules.specs.declared.Located.{Located}
use Rattle.rules.specs.Timetable.{pick}
use Rattle.rules.specs.Marks.{ID, PV, size, head_count_of}
use Rattle.rules.specs.Offsets.{last_offset}
use Rattle.rules.specs.Tasks.{Set, limits}
use Rattle.sets.specs.declared.Kept.{Kept}
use Rattle.replay.specs.Runs.{CanReplay}

-- the byte behind so many ID records
abbrev pub behind_idles : ℕ → ℕ → ℕ
behind_idles first idles = first + idles * size ID

-- the offsets at which replay ended: none is before the first record of its kind, and all are of 32 bits
pub record Ended (before idles first idle wasted : ℕ) : Type 0 where
  pub few : before ≤ head_count_of limits.tasks
  pub short : behind_idles first idles ≤ last_offset
  pub idle_behind : first ≤ idle
  pub wasted_behind : behind_idles first idles ≤ idle → wasted < last_offset → behind_idles first idles ≤ wasted

-- 19 of the record with an index, at an offset
abbrev pub no_effect : ℕ → ℕ → Result ⊤ Located
no_effect place offset = Err (record { number = 19; place = place; offset = offset })

-- 19 at the first ID record that is left, else at the first PV record that had no effect, with so many records before them all
unfoldable pub unused_at : ℕ → ℕ → ℕ → ℕ → ℕ → Result ⊤ Located
unused_at before idles first idle wasted =
    pick (ltb idle (behind_idles first idles)) (no_effect (before + (idle - first) / size ID) idle)
    (pick (ltb wasted last_offset) (no_effect (before + idles + (wasted - behind_idles first idles) / size PV) wasted) (Ok tt))

-- what may be replayed, and how many ID records its tables have
pub record CanCompare (ts : Set) (bytes : List ℕ) (kept : Kept) (idles : ℕ) (first : OffsetsOf) : Type 0 where
  pub can : CanReplay ts bytes kept first
  pub idle_records : idles ≡ length can.tables.idles
