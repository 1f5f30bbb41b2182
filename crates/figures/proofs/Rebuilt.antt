-- The entries of an accepted image's timetable, rebuilt in the scratch: they are read there as the timetable's, which is valid. Assumes nothing.
use mathlib.Core.Path.{◌≡◌, refl, sym, ◌∙◌, ap, ap₂}
use mathlib.Core.List.{List, [], ◌∷◌, ◌++◌, map, append_assoc}
use mathlib.Core.Option.{none}
use Prim.Native.Nat.{ℕ, suc, ◌+◌, ◌*◌, ◌≤◌}
use native.Mathlib.Omega.{arith}
use lib.ListN.{length, take, drop, length-map}
use lib.Seq.{drop_at, length-take-le}
use Rattle.rules.specs.declared.Entry.{Entry}
use Rattle.rules.specs.declared.Offsets.{Offsets}
use Rattle.rules.specs.Tasks.{Set, limits, hyperperiod}
use Rattle.rules.specs.Timetable.{ValidTimetable}
use Rattle.rules.specs.Priority.{setting}
use Rattle.rules.specs.Marks.{Mark, SL, row, size, head_length_of}
use Rattle.rules.specs.Image.{Each, record_of, written, image, records, of_entry, to_entry, head_count, head_length}
use Rattle.rules.specs.Framing.{read}
use Rattle.rules.specs.Judging.{timetable_fault}
use Rattle.rules.proofs.Framed.{values_written, behind_written}
use Rattle.rules.proofs.AcceptedTables.{its_tables, no_faults}
use Rattle.rules.proofs.ValidTimetables.{entries_valid, no_fault_valid}
use Rattle.rules.proofs.Writable.{valid_writable}
use Rattle.sets.specs.declared.Kept.{Kept}
use Rattle.sets.specs.Kept.{tasks_in, all_jobs_in, Keeps}
use Rattle.sets.proofs.SetKept.{kept_good}
use Rattle.writing.proofs.Puts.{put_fits, put_length}
use Rattle.rebuilding.specs.Rebuilt.{TimetableBehind, longest_image, entries_bytes, entries_put, CanPut}
use Rattle.rebuilding.proofs.Rebuilding.{as_many_entries, jobs_kept, entries_length}
use Rattle.timetables.specs.Entries.{entries_at}
use Rattle.timetables.specs.Judged.{entries_behind, EntriesValid}
use Rattle.timetables.proofs.EntriesRead.{entries_are}

-- records of one mark are read as they were written, whatever bytes follow them
read_back : (m : Mark) (vs : List (List ℕ)) (rest : List ℕ) → Each (row m).widths vs → read m (length vs) (image (records m vs) ++ rest) ≡ vs
read_back m [] rest f = refl
read_back m (v ∷ vs) rest f =
    let others : List ℕ = image (records m vs) ++ rest in
    ap (read m (suc (length vs))) (append_assoc (written (record_of m v)) (image (records m vs)) rest)
    ∙ ap₂ ◌∷◌ (values_written m v others f.0) (ap (read m (length vs)) (behind_written m v others) ∙ read_back m vs rest f.1)

entries_back : (τ : List Entry) → map to_entry (map of_entry τ) ≡ τ
entries_back [] = refl
entries_back (e ∷ τ) = ap (λ (σ : List Entry). e ∷ σ) (entries_back τ)

module _ {bytes : List ℕ} {ts : Set} {kept : Kept} {first : Offsets} {τ : List Entry} (b : TimetableBehind bytes ts first τ) (keeps : Keeps ts kept) where
  no_fault : timetable_fault ts τ ≡ none
  no_fault = (its_tables ts b.tables τ b.judged).0

  pub valid : ValidTimetable ts (hyperperiod ts) τ
  valid = (no_fault_valid ts τ).0 no_fault

  -- as many entries as are kept
  pub all_entries : length τ ≡ all_jobs_in kept
  all_entries = as_many_entries bytes ts first τ b ∙ sym (jobs_kept bytes ts first τ b keeps)

  few_entries : length τ ≤ limits.jobs
  few_entries = omega (arith, as_many_entries bytes ts first τ b, (kept_good keeps).few_jobs)

  -- the longest image has room for them
  pub room : (old : List ℕ) → length old ≡ longest_image → CanPut ts bytes kept first old
  room old long = record { entries = τ; behind = b; keeps = keeps; room = omega (arith, long, few_entries, keeps.few) }

  abbrev at : ℕ
  at = head_length_of (tasks_in kept)

  module _ (old : List ℕ) {out : List ℕ} (long : length old ≡ longest_image) (put : out ≡ entries_put old (tasks_in kept) τ) where
    fits : at + length (entries_bytes τ) ≤ length old
    fits = omega (arith, long, few_entries, keeps.few, entries_length τ)

    -- where they were put they are read
    read_there : entries_behind out ts (length τ) ≡ τ
    read_there =
        let place : head_length ts ≡ at = ap head_length_of (sym keeps.n_tasks) in
        let rest : List ℕ = drop (at + length (entries_bytes τ)) old in
        let stands : drop at out ≡ entries_bytes τ ++ rest =
        ap (drop at) (put ∙ put_fits old at (entries_bytes τ) fits) ∙ drop_at (take at old) (entries_bytes τ ++ rest) at (length-take-le at old (omega (arith, fits))) in
        let inside : at + length τ * size SL ≤ length out = omega (arith, fits, entries_length τ, ap length put, put_length old at (entries_bytes τ)) in
        let writable = valid_writable ts τ (no_faults ts b.tables τ b.judged).0 (entries_valid (setting ts) _ τ (head_count ts) [] 0 no_fault) in
        ap (λ (k : ℕ). entries_at out k (length τ)) place
        ∙ entries_are out at (length τ) inside
        ∙ ap₂ (λ (k : ℕ) (d : List ℕ). map to_entry (read SL k d)) (sym (length-map τ of_entry)) stands
        ∙ ap (map to_entry) (read_back SL (map of_entry τ) rest writable.entries_fit)
        ∙ entries_back τ

    pub all_read : entries_behind out ts (all_jobs_in kept) ≡ τ
    all_read = rw (← all_entries) read_there

    pub entries_stand : EntriesValid ts out kept (all_jobs_in kept)
    entries_stand = record {
      stand = record {
        keeps = keeps;
        inside = omega (arith, fits, entries_length τ, ap length put, put_length old (head_length_of (tasks_in kept)) (entries_bytes τ), all_entries, keeps.n_tasks);
      };
      no_fault = rw all_read no_fault;
    }
