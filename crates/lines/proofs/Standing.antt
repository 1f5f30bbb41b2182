-- What stands in the image of a valid timetable: its set behind TS, and entry j at its byte offset. Assumes nothing.
use mathlib.Core.Path.{◌≡◌, refl, sym, ◌∙◌, ap}
use mathlib.Core.List.{List, [], ◌∷◌, ◌++◌, map}
use Prim.Native.Nat.{ℕ, zero, suc, ◌+◌, ◌*◌, ◌<◌}
use native.Mathlib.Omega.{arith}
use lib.ListN.{length, get_or, drop, length-map, get_or-append}
use lib.Seq.{drop-drop}
use Rattle.fields.proofs.Bodies.{values_body}
use Rattle.rules.specs.declared.Layout.{Layout}
use Rattle.rules.specs.declared.Task.{Task}
use Rattle.rules.specs.declared.Entry.{Entry}
use Rattle.rules.specs.declared.TaskSet.{TaskSet}
use Rattle.rules.specs.Refusals.{gives}
use Rattle.rules.specs.Tasks.{Set, no_task, task, hyperperiod}
use Rattle.rules.specs.Timetable.{entry_at}
use Rattle.rules.specs.Priority.{slot}
use Rattle.rules.specs.Marks.{TS, TK, SL, row, size, body_length, head_length_of, values}
use Rattle.rules.specs.Image.{of_task, of_entry, to_task, to_entry, records, end_record, image, WritableTimetable, head_count}
use Rattle.rules.specs.Framing.{frame, read, behind_tasks, set_in, entries_in}
use Rattle.rules.specs.Operations.{Timed, read_timetable}
use Rattle.rules.specs.Promised.{TimetableImage}
use Rattle.rules.proofs.Cases.{then_gives, gives_in}
use Rattle.rules.proofs.Arrays.{inside_alike, read_length}
use Rattle.rules.proofs.GoodSets.{set_good}
use Rattle.rules.proofs.Held.{behind_tasks_drop}
use Rattle.rules.proofs.Images.{written_timetable, timetable_image_length, one_timetable_image}
use Rattle.rules.proofs.ValidTimetables.{valid_timetable}
use Rattle.rules.proofs.Writable.{valid_writable}
use Rattle.images.specs.declared.Head.{Head}
use Rattle.images.specs.Bodies.{part_of, head_of, entry_of}
use Rattle.images.proofs.BodyLaws.{head_body_is, entry_body_is}
use Rattle.framing.specs.SetRead.{set_read}
use Rattle.framing.proofs.SetLaws.{set_read_is}

-- entry j of those that are read is read at its own place
read_entry : (many j : ℕ) (bytes : List ℕ) → j < many →
    entry_at (map to_entry (read SL many bytes)) j ≡ to_entry (values SL (drop (j * size SL) bytes))
read_entry zero j bytes l = absurd (omega arith)
read_entry (suc many) zero bytes l = refl
read_entry (suc many) (suc j) bytes l =
    let e : size SL + j * size SL ≡ suc j * size SL = omega arith in
    read_entry many j (drop (size SL) bytes) (omega arith) ∙ rw (drop-drop (j * size SL) (size SL) bytes, e)

-- the layout of the image, and what is read by it
pub record ReadAs (bytes : List ℕ) (ts : Set) (τ : List Entry) : Type 0 where
  pub layout : Layout
  pub set : set_in layout bytes ≡ ts
  pub entries : entries_in layout bytes ≡ τ
  pub many_tasks : layout.tasks ≡ length ts.tasks
  pub many_entries : layout.listed ≡ length τ

module _ {bytes : List ℕ} {ts : Set} {τ : List Entry} (t : TimetableImage bytes ts τ) where
  -- it can be written
  writable : WritableTimetable ts τ
  writable =
      let g = set_good ts t.h t.good in
      valid_writable ts τ g.0 ((valid_timetable ts (hyperperiod ts) τ).1 (rw (← g.1) t.valid))

  -- how long it is
  pub image_long : length bytes ≡ head_length_of (length ts.tasks) + length τ * size SL + 6
  image_long = ap length t.is ∙ timetable_image_length ts τ ∙ omega arith

  -- what is read from it
  read_as : ReadAs bytes ts τ
  read_as =
      then_gives (frame 1 bytes) (λ (l : Layout). gives (record { set = set_in l bytes; entries = entries_in l bytes }))
      (record { set = ts; entries = τ })
      (ap read_timetable t.is ∙ written_timetable ts τ writable)
      (λ l f e.
      let same = gives_in _ _ e in
      let tasks : List (List ℕ) = read TK l.tasks (drop (size TS) bytes) in
      let entries : List (List ℕ) = read SL l.listed (behind_tasks l bytes) in
      let its-set : set_in l bytes ≡ ts = ap (λ (i : Timed). i.set) same in
      let its_entries : entries_in l bytes ≡ τ = ap (λ (i : Timed). i.entries) same in
      record {
        layout = l;
        set = its-set;
        entries = its_entries;
        many_tasks = sym (read_length TK l.tasks (drop (size TS) bytes)) ∙ sym (length-map tasks to_task) ∙ ap (λ (us : Set). length us.tasks) its-set;
        many_entries = sym (read_length SL l.listed (behind_tasks l bytes)) ∙ sym (length-map entries to_entry) ∙ ap length its_entries;
      })

  -- its TS has the number of tasks
  pub head_stands : (head_of (part_of bytes 2 (body_length TS))).n ≡ length ts.tasks
  head_stands =
      ap (λ (h : Head). h.n) (head_body_is bytes 0 (omega (arith, image_long)))
      ∙ ap (λ (b : List ℕ). slot (values TS b) 2) t.is
      ∙ ap (λ (v : List ℕ). slot v 2)
      (values_body (row TS).widths (1 ∷ 1 ∷ length ts.tasks ∷ [])
      (image (records TK (map of_task ts.tasks) ++ (records SL (map of_entry τ) ++ end_record (head_count ts + length τ))))
      (omega arith, (omega arith, (omega (arith, t.good.few_tasks), tt))))

  -- the set that is read has its tasks
  pub task_stands : (i : ℕ) (d : Task) → i < length ts.tasks → get_or (set_read (length ts.tasks) bytes).tasks i d ≡ task ts i
  task_stands i d l =
      let r = read_as in
      ap (λ (n : ℕ). get_or (set_read n bytes).tasks i d) (sym r.many_tasks)
      ∙ ap (λ (s : TaskSet). get_or s.tasks i d) (set_read_is bytes r.layout (omega (arith, image_long, r.many_tasks)))
      ∙ rw (ap (λ (us : Set). us.tasks) r.set) (get_or-append ts.tasks _ d i l ∙ inside_alike ts.tasks i d no_task l)

  -- entry j stands at its byte offset
  pub entry_stands : (j at : ℕ) → j < length τ → at ≡ head_length_of (length ts.tasks) + j * size SL →
      entry_of (part_of bytes (at + 2) (body_length SL)) ≡ entry_at τ j
  entry_stands j at l e =
      let r = read_as in
      let n = r.layout.tasks in
      let place : size TS + n * size TK + j * size SL ≡ at = omega (arith, r.many_tasks) in
      entry_body_is bytes at (omega (arith, image_long))
      ∙ sym
      (ap (λ (σ : List Entry). entry_at σ j) (sym r.entries)
      ∙ read_entry r.layout.listed j (behind_tasks r.layout bytes) (omega (arith, r.many_entries))
      ∙ rw (
        behind_tasks_drop r.layout bytes,
        drop-drop (j * size SL) (size TS + n * size TK) bytes,
        place,
      ))

-- an image is that of one timetable
pub one_image : {bytes : List ℕ} {ts us : Set} {τ σ : List Entry} → TimetableImage bytes ts τ → TimetableImage bytes us σ → (ts ≡ us) × (τ ≡ σ)
one_image {bytes} {ts} {us} {τ} {σ} t u = one_timetable_image ts us τ σ (writable t) (writable u) (sym t.is ∙ u.is)
