-- Rebuilding from a table image that is judged: the refusal that it was judged with, no room, or the image of its timetable. Assumes nothing.
use mathlib.Core.Path.{◌≡◌, sym, ◌∙◌, ap, ap₂}
use mathlib.Core.List.{List, [], ◌∷◌, map}
use Prim.Native.Nat.{ℕ, ◌+◌, ◌*◌, ◌≤◌, ◌<◌}
use native.Mathlib.Omega.{arith}
use lib.ListN.{length, length-map}
use borrow.Author.Tests.{le-leb, lt-leb}
use Rattle.rules.specs.declared.Entry.{Entry}
use Rattle.rules.specs.declared.Offsets.{Offsets}
use Rattle.rules.specs.declared.Located.{Located}
use Rattle.std.specs.Prelude.{Ok, Err}
use Rattle.rules.specs.Refusals.{Judged, gives, refuses, refusal}
use Rattle.rules.specs.Tasks.{Set, all_jobs, hyperperiod, memory_set}
use Rattle.rules.specs.Marks.{SL, EN, size, head_length_of, head_count_of}
use Rattle.rules.specs.Image.{image, records, record_of, head_records, of_entry, timetable_image, head_count}
use Rattle.rules.specs.Located.{located, RefusedAt}
use Rattle.rules.specs.Operations.{rebuilt, rebuilt_image, make_answer, output_after, into, rebuild, rebuild_output, Rebuilds}
use Rattle.rules.proofs.GoodSets.{set_good}
use Rattle.rules.proofs.ValidTimetables.{no_fault_valid, valid_length}
use Rattle.rules.proofs.Images.{records_length, timetable_image_length}
use Rattle.rules.proofs.AcceptedTables.{its_tables}
use Rattle.sets.specs.declared.Kept.{Kept}
use Rattle.sets.specs.Kept.{tasks_in, all_jobs_in, hyperperiod_in, Keeps}
use Rattle.tables.specs.declared.Tables.{Tables as Judgement}
use Rattle.tables.specs.Judged.{Good}
use Rattle.writing.specs.Writing.{put_at, record_put}
use Rattle.writing.proofs.ImagePut.{image_put}
use Rattle.rebuilding.specs.Rebuilt.{TimetableBehind, entries_bytes, entries_put}

-- what an image is refused with is answered, and the output is as it was
pub refused_so : (bytes old : List ℕ) (r : Located) → RefusedAt bytes (rebuilt bytes) r →
    Rebuilds bytes old (Err r) old
unfolding rebuild rebuild_output
refused_so bytes old r e = record { answer = rw e.judged (ap Err e.there); output = rw e.judged }

-- behind the tables of an image that is not refused there is a timetable
pub behind_good : {bytes : List ℕ} {t : Judgement} {kept : Kept} (g : Good bytes t kept) → TimetableBehind bytes (memory_set t.set) t.first g.entries
behind_good g = record { tables = g.tables; read = g.read; judged = g.judged; offsets = g.offsets }

-- the bytes of entries are as long as so many SL records
pub entries_length : (τ : List Entry) → length (entries_bytes τ) ≡ length τ * size SL
entries_length τ = records_length SL (map of_entry τ) ∙ ap (λ (n : ℕ). n * size SL) (length-map τ of_entry)

module _ (bytes : List ℕ) (ts : Set) (first-at : Offsets) (τ : List Entry) (g : TimetableBehind bytes ts first-at τ) where
  -- the timetable has as many entries as a cycle has jobs
  pub as_many_entries : length τ ≡ all_jobs (hyperperiod ts) ts
  as_many_entries = valid_length ((no_fault_valid ts τ).0 (its_tables ts g.tables τ g.judged).0)

  -- so many jobs are kept
  pub jobs_kept : {kept : Kept} → Keeps ts kept → all_jobs_in kept ≡ all_jobs (hyperperiod ts) ts
  jobs_kept {kept} k = k.all_there ∙ ap (λ (h : ℕ). all_jobs h ts) (set_good ts (hyperperiod_in kept) k.good).1

-- what is written of an image that is accepted
module _ {bytes : List ℕ} {t : Judgement} {kept : Kept} (g : Good bytes t kept) where
  abbrev ts : Set
  ts = memory_set t.set

  -- its timetable has as many entries as jobs are kept
  many : length g.entries ≡ all_jobs_in kept
  many = let b = behind_good g in as_many_entries _ _ _ _ b ∙ sym (jobs_kept _ _ _ _ b g.keeps)

  -- how long the image of the timetable is
  abbrev long : ℕ
  long = head_length_of t.set.n + all_jobs_in kept * size SL + size EN

  image_long : length (timetable_image ts g.entries) ≡ long
  image_long = timetable_image_length ts g.entries ∙ omega (arith, g.tasks_many, many)

  -- it is given, where there is room
  image_given : (room : ℕ) → rebuilt_image room bytes ≡ into room (timetable_image ts g.entries)
  image_given room = rw (g.read, g.judged)

  -- an output that is too short is refused, and is as it was
  pub too_short : (old : List ℕ) (n : ℕ) → n ≡ long → length old < n → Rebuilds bytes old (Err (located bytes (refusal 20 0))) old
  unfolding rebuild rebuild_output
  too_short old n n_is short =
      let e : rebuilt_image (length old) bytes ≡ refuses (refusal 20 0) =
      image_given (length old) ∙ rw (lt-leb (length (timetable_image ts g.entries)) (length old) (omega (arith, image_long))) in
      record { answer = rw e; output = rw e }

  -- else the length of the image is answered; and the set, the entries and EN put one behind the other are the image at the front of the output, with all
  -- other bytes as they were
  pub put_out : (old set_put entries_in end-put : List ℕ) (n end before : ℕ) → n ≡ long → n ≤ length old →
      set_put ≡ put_at old 0 (image (head_records 1 ts)) →
      entries_in ≡ entries_put set_put (tasks_in kept) g.entries →
      end-put ≡ record_put entries_in end (record_of EN (before ∷ [])) →
      end + size EN ≡ n → before ≡ head_count_of t.set.n + all_jobs_in kept → Rebuilds bytes old (Ok n) end-put
  unfolding rebuild rebuild_output
  put_out old set_put entries_in end-put n end before n_is room first_put second third end_is before_is =
      let given : rebuilt_image (length old) bytes ≡ gives (timetable_image ts g.entries) =
      image_given (length old) ∙ rw (le-leb (length (timetable_image ts g.entries)) (length old) (omega (arith, image_long))) in
      let here : end ≡ head_length_of (length ts.tasks) + length (entries_bytes g.entries) =
      omega (arith, g.tasks_many, many, entries_length g.entries) in
      let number : before ≡ head_count ts + length g.entries = omega (arith, g.tasks_many, many) in
      let behind : entries_in ≡ entries_put (put_at old 0 (image (head_records 1 ts))) (length ts.tasks) g.entries =
      second ∙ ap₂ (λ (o : List ℕ) (k : ℕ). entries_put o k g.entries) first_put g.keeps.n_tasks in
      record {
        answer = ap Ok (n_is ∙ sym image_long) ∙ sym (ap (make_answer bytes) given);
        output =
            third
            ∙ rw (here, number, behind) (image_put 1 ts (records SL (map of_entry g.entries)) (head_count ts + length g.entries) old (omega (arith, image_long)))
            ∙ sym (ap (λ (z : Judged (List ℕ)). output_after z old) given);
      }
