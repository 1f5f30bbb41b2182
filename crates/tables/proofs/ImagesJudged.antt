-- A table image judged: by framing, then by its set, then by its records, then by replay and comparison. Assumes nothing.
use mathlib.Core.Path.{◌≡◌, refl, sym, ◌∙◌, ap, ap₂, subst}
use mathlib.Core.Bool.{true}
use mathlib.Core.List.{List, ◌++◌}
use mathlib.Core.Option.{none, some}
use Prim.Native.Nat.{ℕ, ◌+◌, ◌*◌, ◌-◌, ◌≤◌}
use native.Mathlib.Omega.{arith}
use lib.ListN.{length, replicate}
use borrow.Author.Tests.{le-leb}
use Rattle.fields.specs.Number.{Bytes}
use Rattle.rules.specs.declared.TaskSet.{TaskSet}
use Rattle.rules.specs.declared.Layout.{Layout}
use Rattle.rules.specs.declared.Offsets.{Offsets as OffsetsOf}
use Rattle.rules.specs.declared.Refusal.{Refusal}
use Rattle.rules.specs.declared.Located.{Located}
use Rattle.std.specs.Prelude.{Result, Ok, Err, ⊤, MatchResult}
use Rattle.std.specs.Result.{IsErrAnd}
use Rattle.rules.proofs.Locations.{refused_answer, answer_refuses}
use Rattle.rules.specs.Refusals.{gives}
use Rattle.rules.specs.Tasks.{Set, limits, hyperperiod, few_enough, set_fault, judge_set, memory_set}
use Rattle.rules.specs.Setting.{Tables}
use Rattle.rules.specs.Judging.{records_fault, judge_tables}
use Rattle.rules.specs.Marks.{ID, PV, EN, size, head_length_of}
use Rattle.rules.specs.Image.{head_count, head_length, table_image}
use Rattle.rules.specs.Framing.{frame, set_in, tables_in}
use Rattle.rules.specs.Located.{offset_of, located, RefusedAt}
use Rattle.rules.specs.Offsets.{first_offsets}
use Rattle.rules.specs.Operations.{read_tables, rebuilt, check_tables}
use Rattle.rules.specs.Dispatcher.{zero_task}
use Rattle.rules.proofs.Cases.{by_judged, clash, both_in}
use Rattle.rules.proofs.GoodSets.{set_good}
use Rattle.rules.proofs.Images.{records_before, framed_tables, table_image_length}
use Rattle.rules.proofs.RefusalPlaces.{set_place}
use Rattle.rules.proofs.RecordOffsets.{idles_begin, inversions_begin}
use Rattle.rules.proofs.ShownAt.{Stand}
use Rattle.rules.proofs.StandingTables.{read_stand}
use Rattle.rules.proofs.Arrays.{memory_many}
use Rattle.sets.specs.declared.Kept.{Kept}
use Rattle.sets.specs.Kept.{tasks_in as kept_tasks, hyperperiod_in, Keeps}
use Rattle.sets.proofs.SetKept.{kept_cycle}
use Rattle.sets.proofs.Answers.{refused_fault}
use Rattle.framing.specs.SetRead.{set_read, set_located}
use Rattle.framing.specs.Frames.{frame_answer}
use Rattle.framing.proofs.Promises.{refused_is}
use Rattle.framing.proofs.SetLaws.{set_tasks_many, set_slots_many, set_located_there}
use Rattle.framing.proofs.RoomLaws.{framed_room, framed_set, tasks_framed}
use Rattle.records.specs.Tables.{inversions_offset, end_offset, tables_at, HasOffsets}
use Rattle.records.specs.Told.{CanJudge, answer_to, RecordsTold}
use Rattle.records.proofs.RecordsJudged.{none_wrong, one_wrong}
use Rattle.records.proofs.RecordsRead.{idles_length, inversions_length, tables_framed}
use Rattle.records.proofs.OffsetsTold.{tasks_below}
use Rattle.tables.specs.declared.Tables.{Tables as Judgement}
use Rattle.tables.specs.Replayed.{CanCompare}
use Rattle.tables.specs.Judged.{SetStands, Good}

-- behind `map_err` a value is the one that was there, and an error what was made of the one that was there
module _ {T E D : Type 0} {r : Result T D} (Q : E → D → Type 0) where
  pub ok_through : (s : Result T E) (x : T) → MatchResult s (λ y. r ≡ Ok y) (λ e. IsErrAnd r (Q e)) → r ≡ Ok x → s ≡ Ok x
  ok_through (Ok y) x m e = let same : Ok y ≡ Ok x = sym m ∙ e in cc
  ok_through (Err d) x m e = absurd (rw e at m)

  pub err_through : (s : Result T E) (d : D) → MatchResult s (λ y. r ≡ Ok y) (λ e. IsErrAnd r (Q e)) → r ≡ Err d → (e : E) × (s ≡ Err e) × Q e d
  err_through (Ok y) d m e = let no = sym m ∙ e in clash (cc)
  err_through (Err q) d m e = (q, refl, rw e at m)

-- framing refuses
pub judged_by_framing : (bytes : List ℕ) (r : Located) → Err r ≡ frame_answer bytes (frame 2 bytes) → RefusedAt bytes (rebuilt bytes) r
judged_by_framing bytes r e = let f = refused_is bytes (frame 2 bytes) r e in record { judged = rw f.judged; there = f.there }

-- the tables behind the tasks of a set
abbrev its_tables : List ℕ → TaskSet → Layout → Tables
its_tables bytes s l = tables_at bytes s.n l.listed l.inversions

-- the set of an image that is framed
module _ (bytes : List ℕ) {l : Layout} {s : TaskSet} (b : Bytes bytes) (framed : frame 2 bytes ≡ gives l) (is : s ≡ set_read l.tasks bytes) where
  -- it has as many tasks as the layout says, at most 16, in 16 slots
  many : s.n ≡ l.tasks
  many = rw is (set_tasks_many bytes l.tasks)

  few : s.n ≤ limits.tasks
  few = omega (arith, many, (framed_room 2 bytes l framed).0)

  slots : length s.tasks ≡ limits.tasks
  slots = rw is (set_slots_many bytes l.tasks (framed_room 2 bytes l framed).0)

  -- its tasks are the image's
  its_tasks : memory_set s ≡ set_in l bytes
  its_tasks = ap memory_set is ∙ tasks_framed 2 bytes l framed

  -- there are n of them
  pub its_tasks_many : length (memory_set s).tasks ≡ s.n
  its_tasks_many = memory_many s (omega (arith, few, slots))

  -- the image is read as this set and these tables
  pub read_so : read_tables bytes ≡ gives (record { set = memory_set s; tables = its_tables bytes s l })
  read_so =
      let same : its_tables bytes s l ≡ tables_in l bytes =
      ap (λ (n : ℕ). tables_at bytes n l.listed l.inversions) many ∙ sym (tables_framed l bytes) in
      rw (framed, its_tasks, same)

  -- the records stand in the image, with EN behind them
  pub long : end_offset s.n l.listed l.inversions + size EN ≡ length bytes
  long =
      let w = framed_tables bytes b (record { set = memory_set s; tables = its_tables bytes s l }) read_so in
      sym (ap length w.1
      ∙ table_image_length (memory_set s) (its_tables bytes s l)
      ∙ omega (
        arith,
        its_tasks_many,
        idles_length bytes (head_length_of s.n) l.listed,
        inversions_length bytes (inversions_offset s.n l.listed) l.inversions,
      ))

  -- a fault of the set refuses it
  fault_of_set : (r : Refusal) → judge_set s ≡ Err r → (set_fault (memory_set s) ≡ some r) × (set_located r ≡ located bytes r)
  fault_of_set r e =
      let w = framed_tables bytes b (record { set = memory_set s; tables = its_tables bytes s l }) read_so in
      let some_tasks : 1 ≤ s.n = omega (arith, w.0.some_tasks, its_tasks_many) in
      let counted : few_enough s.n ≡ true = both_in _ _ (le-leb 1 s.n some_tasks) (le-leb s.n limits.tasks few) in
      let fault : set_fault (memory_set s) ≡ some r = rw counted at (refused_fault s r e) in
      (fault, set_located_there 2 bytes (memory_set s) _ w.1 r fault)

  pub judged_by_set : (r : Refusal) → judge_set s ≡ Err r → RefusedAt bytes (rebuilt bytes) (set_located r)
  judged_by_set r e = let f = fault_of_set r e in record { judged = rw (read_so, f.0); there = f.1 }

  -- at one of its records
  pub set_fault_place : (r : Refusal) → judge_set s ≡ Err r → r.place ≤ 16
  set_fault_place r e = omega (arith, (set_place (memory_set s) r (fault_of_set r e).0).0, its_tasks_many, few)

  -- behind its tasks its slots are zero
  pub its_zero_slots : s.tasks ≡ (memory_set s).tasks ++ replicate (limits.tasks - s.n) zero_task
  its_zero_slots =
      let shape : s.tasks ≡ (set_in l bytes).tasks ++ replicate (limits.tasks - l.tasks) zero_task =
      ap (λ (x : TaskSet). x.tasks) (is ∙ framed_set 2 bytes l framed) in
      shape ∙ ap₂ (λ (us : Set) (n : ℕ). us.tasks ++ replicate (limits.tasks - n) zero_task) (sym its_tasks) (sym many)

-- a framed image with a good set
module _ {bytes : List ℕ} {s : TaskSet} {kept : Kept} {l : Layout} (b : Bytes bytes) (st : SetStands bytes s kept l) where
  -- its tables
  abbrev X : Tables
  X = its_tables bytes s l

  -- there are n tasks
  tasks_many : length (memory_set s).tasks ≡ s.n
  tasks_many = its_tasks_many bytes b st.framed st.set_is

  -- the image is read as the set and its tables
  read : read_tables bytes ≡ gives (record { set = memory_set s; tables = X })
  read = read_so bytes b st.framed st.set_is

  -- what is kept is kept of the set: its number of tasks and its hyperperiod are there
  keeps : Keeps (memory_set s) kept
  keeps = st.keeps

  n_is : kept_tasks kept ≡ s.n
  n_is = keeps.n_tasks ∙ tasks_many

  no_fault : set_fault (memory_set s) ≡ none
  no_fault = (set_good (memory_set s) (hyperperiod_in kept) keeps.good).0

  cycle_is : hyperperiod_in kept ≡ hyperperiod (memory_set s)
  cycle_is = kept_cycle keeps

  -- its records can be judged
  pub can_judge : CanJudge bytes kept l.listed l.inversions
  can_judge =
      let is : bytes ≡ table_image (memory_set s) X =
      (framed_tables bytes b (record { set = memory_set s; tables = X }) read).1 in
      let listed : length X.idles ≡ l.listed = idles_length bytes (head_length_of s.n) l.listed in
      let inverted : length X.inversions ≡ l.inversions = inversions_length bytes (inversions_offset s.n l.listed) l.inversions in
      record {
        set = memory_set s;
        keeps = keeps;
        stand = rw n_is (omega (arith, long bytes b st.framed st.set_is));
        idles_begin = λ j h. rw keeps.n_tasks (idles_begin bytes (memory_set s) X is j (omega (arith, listed)));
        inversions_begin = λ j h.
            rw keeps.n_tasks
            (subst (λ (k : ℕ). offset_of (head_count (memory_set s) + k + j) bytes ≡ head_length (memory_set s) + k * size ID + j * size PV) listed
            (inversions_begin bytes (memory_set s) X is j (omega (arith, inverted))));
      }

  -- the answer to the first fault of its records
  first_fault : {r : Result ⊤ Located} → RecordsTold bytes kept l.listed l.inversions r →
      r ≡ answer_to bytes (records_fault (memory_set s) (hyperperiod (memory_set s)) X)
  first_fault told = rw (cycle_is, n_is) at (told (memory_set s) keeps)

  -- a record that breaks its rule refuses it
  pub judged_by_records : (r : Located) → RecordsTold bytes kept l.listed l.inversions (Err r) → RefusedAt bytes (rebuilt bytes) r
  judged_by_records r told =
      let wrong = one_wrong bytes _ r (first_fault told) in
      record { judged = rw (read, no_fault, wrong.0); there = wrong.1 }

  module _ (none_broken : RecordsTold bytes kept l.listed l.inversions (Ok tt)) where
    -- no record breaks its rule
    records_good : records_fault (memory_set s) (hyperperiod (memory_set s)) X ≡ none
    records_good = none_wrong bytes _ (first_fault none_broken)

    -- the offsets as at a cycle's start can be told
    pub has_offsets : HasOffsets bytes s.n l.listed l.inversions
    has_offsets =
        let stand : Stand bytes (memory_set s) X (records_before (memory_set s) X) = read_stand bytes (memory_set s) X b read no_fault records_good in
        record {
          few = few bytes b st.framed st.set_is;
          stand = omega (arith, long bytes b st.framed st.set_is);
          short = omega (
            arith,
            stand.short,
            tasks_many,
            idles_length bytes (head_length_of s.n) l.listed,
            inversions_length bytes (inversions_offset s.n l.listed) l.inversions,
          );
          tasks = rw tasks_many at (tasks_below (memory_set s) (hyperperiod (memory_set s)) X records_good);
        }

    module _ (first : OffsetsOf) (offsets_are : (ts : Set) → length ts.tasks ≡ s.n → first ≡ first_offsets ts X) where
      -- its tables can be replayed
      pub can_compare : CanCompare (memory_set s) bytes kept l.listed first
      can_compare = record {
        can = record {
          tables = X;
          read = read;
          good = no_fault;
          records_good = records_good;
          keeps = keeps;
          first_is = offsets_are (memory_set s) tasks_many;
        };
        idle_records = sym (idles_length bytes (head_length_of s.n) l.listed);
      }

      -- where checking its tables comes to nothing it is accepted
      pub judged_good : Ok tt ≡ check_tables bytes → Good bytes (record { set = s; first = first }) kept
      unfolding check_tables
      judged_good accepted =
          by_judged (judge_tables (memory_set s) X)
          (λ τ e. record {
            tables = X;
            entries = τ;
            few = few bytes b st.framed st.set_is;
            tasks_many = tasks_many;
            zero_slots = its_zero_slots bytes b st.framed st.set_is;
            read = read;
            judged = e;
            keeps = keeps;
            offsets = offsets_are (memory_set s) tasks_many;
          })
          (λ r e. let refused-too : Ok tt ≡ Err (located bytes r) = rw (read, e) at accepted in clash (cc))

-- plain checking answers as the image was judged
module _ (bytes : List ℕ) where
  pub refusal_answered : (r : Located) → RefusedAt bytes (rebuilt bytes) r → Err r ≡ check_tables bytes
  unfolding check_tables
  refusal_answered r w = sym (refused_answer _ w)

  -- and the other way round
  pub refusal_judged : (r : Located) → Err r ≡ check_tables bytes → RefusedAt bytes (rebuilt bytes) r
  unfolding check_tables
  refusal_judged r e = answer_refuses _ bytes (rebuilt bytes) r (sym e)

  pub acceptance_answered : (t : Judgement) (kept : Kept) → Good bytes t kept → Ok tt ≡ check_tables bytes
  unfolding check_tables
  acceptance_answered t kept g = rw (g.read, g.judged)
