-- Deriving from a timetable image that is judged: the refusal that it was judged with, no room, or the image of its tables. Assumes nothing.
use mathlib.Core.Path.{◌≡◌, refl, sym, ◌∙◌, ap}
use mathlib.Core.Bool.{true}
use mathlib.Core.List.{List, [], ◌∷◌}
use Prim.Native.Nat.{ℕ, ◌+◌, ◌*◌, ◌≤◌, ◌<◌}
use native.Mathlib.Omega.{arith}
use lib.ListN.{length}
use borrow.Author.Tests.{le-leb, lt-leb}
use Rattle.rules.specs.declared.Entry.{Entry}
use Rattle.rules.specs.declared.Located.{Located}
use Rattle.std.specs.Prelude.{Ok, Err}
use Rattle.rules.specs.Refusals.{Judged, gives, refuses, refusal}
use Rattle.rules.specs.Tasks.{Set, limits, memory_set}
use Rattle.rules.specs.Setting.{Tables}
use Rattle.rules.specs.Judging.{tables}
use Rattle.rules.specs.Marks.{ID, PV, EN, size, head_length_of}
use Rattle.rules.specs.Image.{image, record_of, head_records, table_image}
use Rattle.rules.specs.Located.{located, RefusedAt}
use Rattle.rules.specs.Operations.{derived, derived_image, make_answer, output_after, into, derive, derive_output, Derives}
use Rattle.rules.proofs.GoodSets.{set_good}
use Rattle.rules.proofs.Images.{records_before, table_image_length}
use Rattle.sets.specs.declared.Kept.{Kept}
use Rattle.sets.specs.Kept.{hyperperiod_in}
use Rattle.writing.specs.Writing.{put_at, record_put}
use Rattle.timetables.specs.declared.Timetable.{Timetable}
use Rattle.timetables.specs.declared.Counts.{Counts}
use Rattle.timetables.specs.Judged.{entries_behind, Good, EntriesValid}
use Rattle.timetables.specs.Counted.{Counted}
use Rattle.derivation.specs.Putting.{tables_put, CanPut}
use Rattle.derivation.proofs.ImagePut.{table_put}
use Rattle.derivation.proofs.ValidEntries.{few_idles, few_inversions}

-- what an image is refused with is answered, and the output is as it was
pub refused_so : {bytes : List ℕ} {r : Located} (old : List ℕ) → RefusedAt bytes (derived bytes) r → Derives bytes old (Err r) old
unfolding derive derive_output
refused_so old r = record { answer = rw r.judged (ap Err r.there); output = rw r.judged }

module _ {bytes : List ℕ} {kept : Kept} {t : Timetable} (g : Good bytes true t kept) where
  -- the set's tasks
  abbrev ts : Set
  ts = memory_set t.set

  abbrev τ : List Entry
  τ = entries_behind bytes ts t.listed

  -- the entries are those of a valid timetable
  its_entries : EntriesValid ts bytes kept t.listed
  its_entries = record { stand = g.stand; no_fault = g.no_fault }

  -- with these tables
  abbrev X : Tables
  X = tables ts τ

  -- they are derived
  derives : derived bytes ≡ gives (record { set = ts; tables = X })
  derives = rw (g.read, (set_good ts (hyperperiod_in kept) g.stand.keeps.good).0, g.no_fault)

  -- and their image is put where there is room
  image_given : (room : ℕ) → derived_image room bytes ≡ into room (table_image ts X)
  image_given room = rw derives

  -- they are counted
  abbrev c : Counts
  c = t.counts

  -- as many as there are
  counted : Counted ts τ c
  counted = g.counted refl

  -- and can be put where there is room for them
  pub can_put : {out : List ℕ} → head_length_of t.set.n + c.idles * size ID + c.inversions * size PV ≤ length out →
      CanPut ts bytes kept t.listed c out
  can_put room = record { valid = its_entries; counted = counted; room = omega (arith, g.tasks_many) }

  -- what is counted is few
  pub few_counted : (c.idles ≤ limits.ticks) × (c.inversions ≤ limits.jobs) × (t.set.n ≤ limits.tasks)
  few_counted = (
    omega (arith, counted.idles, few_idles its_entries),
    omega (arith, counted.inversions, few_inversions its_entries),
    omega (arith, g.tasks_many, g.stand.keeps.n_tasks, g.stand.keeps.few),
  )

  -- how long the image of its tables is
  abbrev long : ℕ
  long = head_length_of t.set.n + c.idles * size ID + c.inversions * size PV + size EN

  -- so long it is
  image_long : length (table_image ts X) ≡ long
  image_long = table_image_length ts X ∙ omega (arith, g.tasks_many, counted.idles, counted.inversions)

  -- an output that is too short is refused, and is as it was
  pub too_short : (old : List ℕ) (n : ℕ) → n ≡ long → length old < n →
      Derives bytes old (Err (located bytes (refusal 20 0))) old
  unfolding derive derive_output
  too_short old n n_is short =
      let e : derived_image (length old) bytes ≡ refuses (refusal 20 0) =
      image_given (length old) ∙ rw (lt-leb (length (table_image ts X)) (length old) (omega (arith, image_long))) in
      record { answer = rw e; output = rw e }

  module _ (old : List ℕ) (n : ℕ) (n_is : n ≡ long) (room : n ≤ length old) where
    -- the image is given
    given : derived_image (length old) bytes ≡ gives (table_image ts X)
    given = image_given (length old) ∙ rw (le-leb (length (table_image ts X)) (length old) (omega (arith, image_long)))

    -- else the length of the image is answered
    pub answered : Ok n ≡ derive bytes old
    unfolding derive
    answered = ap Ok (n_is ∙ sym image_long) ∙ sym (ap (make_answer bytes) given)

    -- and the set, the tables and EN put one behind the other are the image at the front of the output, with all other bytes as they were
    pub put_out : (set_put tables_in end-put : List ℕ) (end before : ℕ) →
        set_put ≡ put_at old 0 (image (head_records 2 ts)) →
        tables_in ≡ tables_put set_put ts X →
        end-put ≡ record_put tables_in end (record_of EN (before ∷ [])) →
        end + size EN ≡ n → before ≡ t.set.n + 1 + c.idles + c.inversions → end-put ≡ derive_output bytes old
    unfolding derive_output
    put_out set_put tables_in end-put end before first second third end_is before-is =
        let here : end ≡ head_length_of (length ts.tasks) + length X.idles * size ID + length X.inversions * size PV =
        omega (arith, g.tasks_many, counted.idles, counted.inversions) in
        let number : before ≡ records_before ts X = omega (arith, g.tasks_many, counted.idles, counted.inversions) in
        let behind : tables_in ≡ tables_put (put_at old 0 (image (head_records 2 ts))) ts X = second ∙ ap (λ (o : List ℕ). tables_put o ts X) first in
        third
        ∙ rw (here, number, behind) (table_put ts X old (omega (arith, image_long)))
        ∙ sym (ap (λ (z : Judged (List ℕ)). output_after z old) given)
