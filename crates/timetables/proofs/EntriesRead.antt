-- Entries read one behind the other from a framed image are those that framing hands on, and lie inside the image. Assumes nothing.
use Rattle.std.proofs.Common.{◌≡◌, ℕ, zero, suc, ◌+◌, ◌-◌, ◌*◌, ◌<◌, ◌≤◌, List, [], ◌∷◌, map, length, drop, sym, refl, ap, ◌∙◌, ap₂, arith, drop-drop}
use lib.ListN.{length-map}
use Rattle.fields.specs.Number.{Bytes}
use Rattle.rules.specs.declared.Layout.{Layout}
use Rattle.rules.specs.Refusals.{gives}
use Rattle.rules.specs.Marks.{TS, TK, SL, EN, size, head_length_of}
use Rattle.rules.specs.Image.{to_task, to_entry}
use Rattle.rules.specs.Framing.{frame, read, behind_tasks, set_in, entries_in}
use Rattle.rules.specs.Operations.{Timed, read_timetable}
use Rattle.rules.proofs.Arrays.{read_length}
use Rattle.rules.proofs.Held.{behind_tasks_drop}
use Rattle.rules.proofs.Images.{framed_timetable, timetable_image_length}
use Rattle.images.proofs.BodyLaws.{entry_body_is}
use Rattle.timetables.specs.Entries.{entry_in, entries_at}

module _ (bytes : List ℕ) (at listed j : ℕ) where
  -- with an entry left, the first is at the offset, and the others are behind it
  pub entry_left : j < listed → entries_at bytes at (listed - j) ≡ entry_in bytes at ∷ entries_at bytes (at + size SL) (listed - (j + 1))
  unfolding entries_at
  entry_left l = let e : listed - j ≡ suc (listed - (j + 1)) = omega arith in rw e

  -- at the end none is left
  pub no_entry_left : listed ≤ j → entries_at bytes at (listed - j) ≡ []
  unfolding entries_at
  no_entry_left l = let e : listed - j ≡ 0 = omega arith in rw e

-- so many entries there are
pub entries_length : (bytes : List ℕ) (at many : ℕ) → length (entries_at bytes at many) ≡ many
unfolding entries_at
entries_length bytes at zero = refl
entries_length bytes at (suc many) = ap suc (entries_length bytes (at + size SL) many)

-- entries that lie in an image are those of the SL records there
pub entries_are : (bytes : List ℕ) (at many : ℕ) → at + many * size SL ≤ length bytes →
    entries_at bytes at many ≡ map to_entry (read SL many (drop at bytes))
unfolding entries_at
entries_are bytes at zero h = refl
entries_are bytes at (suc many) h =
    ap₂ ◌∷◌ (entry_body_is bytes at (omega arith))
    (entries_are bytes (at + size SL) many (omega arith)
    ∙ ap (λ (rest : List ℕ). map to_entry (read SL many rest)) (sym (drop-drop (size SL) at bytes)))

module _ (bytes : List ℕ) (l : Layout) (b : Bytes bytes) (framed : frame 1 bytes ≡ gives l) where
  -- what the image holds
  abbrev held : Timed
  held = record { set = set_in l bytes; entries = entries_in l bytes }

  -- is what is read of it
  timetable_read : read_timetable bytes ≡ gives held
  timetable_read = rw framed

  -- it has as many tasks and entries as its layout says
  tasks_many : length (set_in l bytes).tasks ≡ l.tasks
  tasks_many = length-map (read TK l.tasks (drop (size TS) bytes)) to_task ∙ read_length TK l.tasks (drop (size TS) bytes)

  -- and as many entries
  entries_many : length (entries_in l bytes) ≡ l.listed
  entries_many = length-map (read SL l.listed (behind_tasks l bytes)) to_entry ∙ read_length SL l.listed (behind_tasks l bytes)

  -- so long it is
  long : length bytes ≡ head_length_of l.tasks + l.listed * size SL + size EN
  long =
      let w = framed_timetable bytes b held timetable_read in
      ap length w.1 ∙ timetable_image_length (set_in l bytes) (entries_in l bytes) ∙ omega (arith, tasks_many, entries_many)

  -- its entries stand at their places behind the tasks
  pub entries_framed : entries_at bytes (head_length_of l.tasks) l.listed ≡ entries_in l bytes
  entries_framed =
      entries_are bytes (head_length_of l.tasks) l.listed (omega (arith, long))
      ∙ ap (λ (rest : List ℕ). map to_entry (read SL l.listed rest))
      (sym (behind_tasks_drop l bytes))
