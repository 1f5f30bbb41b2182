-- A timetable image judged: by framing, then by its set, then by its entries. Assumes nothing.
use Rattle.std.proofs.Common.{Result, Ok, Err, ◌≡◌, ℕ, ◌+◌, ◌*◌, ◌<◌, ◌≤◌, Bool, true, List, length, sym, refl, ap, ◌∙◌, arith, le-leb}
use mathlib.Core.Option.{none, some}
use Rattle.fields.specs.Number.{Bytes}
use Rattle.rules.specs.declared.TaskSet.{TaskSet}
use Rattle.rules.specs.declared.Layout.{Layout}
use Rattle.rules.specs.declared.Place.{Place}
use Rattle.rules.specs.declared.Refusal.{Refusal}
use Rattle.rules.specs.declared.Located.{Located}
use Rattle.rules.specs.Refusals.{gives, refusal}
use Rattle.rules.specs.Tasks.{Set, few_enough, set_fault, judge_set, memory_set}
use Rattle.rules.specs.Marks.{SL, size, head_count_of, head_length_of}
use Rattle.rules.specs.Image.{head_count, head_length, timetable_image}
use Rattle.rules.specs.Located.{located, bare, RefusedAt}
use Rattle.rules.specs.Framing.{frame, set_in, entries_in}
use Rattle.rules.specs.Operations.{read_timetable, derived, check_timetable}
use Rattle.rules.proofs.Arrays.{memory_many}
use Rattle.rules.proofs.Cases.{both_in}
use Rattle.rules.proofs.GoodSets.{set_good}
use Rattle.rules.proofs.Images.{framed_timetable}
use Rattle.rules.proofs.Locations.{run_located, refused_answer}
use Rattle.rules.proofs.RefusalPlaces.{set_place}
use Rattle.rules.proofs.RecordOffsets.{entries_begin}
use Rattle.sets.specs.declared.Kept.{Kept}
use Rattle.sets.specs.Kept.{hyperperiod_in, Keeps}
use Rattle.sets.proofs.Answers.{refused_fault}
use Rattle.framing.specs.SetRead.{set_read, set_located}
use Rattle.framing.specs.Frames.{Reached, RunOf, BehindTasks, behind_run, frame_answer}
use Rattle.framing.proofs.SetLaws.{set_tasks_many, set_slots_many, set_located_there}
use Rattle.framing.proofs.RoomLaws.{tasks_framed}
use Rattle.framing.proofs.Runs.{none_run}
use Rattle.framing.proofs.Promises.{framed_is}
use Rattle.timetables.specs.declared.Timetable.{Timetable}
use Rattle.timetables.specs.declared.Stop.{Stop}
use Rattle.timetables.specs.declared.Stop.TheVariants.{Broken, Missing, Complete}
use Rattle.timetables.specs.declared.Walk.{Walk}
use Rattle.timetables.specs.Entries.{entries_at}
use Rattle.timetables.specs.Judged.{entries_behind, fault_behind, EntriesStand, AllPassed, Stops, Walked, told_by, told_of, Good, JudgedAs}
use Rattle.timetables.proofs.EntriesRead.{entries_framed, entries_length}
use Rattle.timetables.proofs.PlacesReached.{reached, framed_tasks, all_listed, more_listed}

-- the set behind whose tasks framing has come to a place
pub record SetBehind (bytes : List ℕ) (p : Place) (s : TaskSet) : Type 0 where
  pub fits : Bytes bytes
  pub re : Reached 1 bytes p
  pub behind : BehindTasks bytes p
  pub is : s ≡ set_read p.tasks bytes

module _ {bytes : List ℕ} {p : Place} {s : TaskSet} (q : SetBehind bytes p s) where
  -- the set in its first slots
  abbrev ts : Set
  ts = memory_set s

  -- it has the tasks before the place
  many : s.n ≡ p.tasks
  many = rw q.is (set_tasks_many bytes p.tasks)

  pub its_tasks_many : length ts.tasks ≡ s.n
  its_tasks_many =
      let slots : length s.tasks ≡ 16 = rw q.is (set_slots_many bytes p.tasks q.behind.few) in
      memory_many s (omega (arith, many, q.behind.few))

  -- which is behind them
  here : head_length ts ≡ p.offset
  here = omega (arith, many, its_tasks_many, q.behind.offset)

  -- what is kept of it is all that a walk over entries needs
  pub set_stands : {kept : Kept} → Keeps ts kept → EntriesStand ts bytes kept 0
  set_stands keeps = record { keeps = keeps; inside = omega (arith, here, q.re.placed.inside) }

  -- where the image is framed with its tasks
  module _ (l : Layout) (framed : frame 1 bytes ≡ gives l) (same : l.tasks ≡ p.tasks) where
    -- its tasks are the set's
    its_tasks : ts ≡ set_in l bytes
    its_tasks =
        let s-is : s ≡ set_read l.tasks bytes = q.is ∙ ap (λ (n : ℕ). set_read n bytes) (sym same) in
        ap memory_set s-is ∙ tasks_framed 1 bytes l framed

    -- it is read as this set and the entries behind it
    read_so : read_timetable bytes ≡ gives (record { set = ts; entries = entries_behind bytes ts l.listed })
    read_so =
        let n_is : length ts.tasks ≡ l.tasks = omega (arith, its_tasks_many, many, same) in
        let its_entries : entries_behind bytes ts l.listed ≡ entries_in l bytes =
        ap (λ (n : ℕ). entries_at bytes (head_length_of n) l.listed) n_is ∙ entries_framed bytes l q.fits framed in
        rw (its_entries, framed, its_tasks)

    -- so its bytes are those of the set and the entries
    image_is : bytes ≡ timetable_image ts (entries_behind bytes ts l.listed)
    image_is = (framed_timetable bytes q.fits (record { set = ts; entries = entries_behind bytes ts l.listed }) read_so).1

  -- the set is refused
  fault_of_set : {r : Refusal} → Err r ≡ judge_set s → set_fault ts ≡ some r
  fault_of_set {r} e =
      let few : few_enough s.n ≡ true =
      both_in _ _ (le-leb 1 s.n (omega (arith, many, q.behind.some))) (le-leb s.n 16 (omega (arith, many, q.behind.few))) in
      rw few at (refused_fault s r (sym e))

  pub judged_by_set : {r : Refusal} → Err r ≡ judge_set s → {l : Layout} → Ok l ≡ frame_answer bytes (frame 1 bytes) → {told : Located} →
      told ≡ set_located r → RefusedAt bytes (derived bytes) told
  judged_by_set {r} e {l} framed told-is =
      let f = framed_is bytes (frame 1 bytes) l framed in
      let same = framed_tasks q.re q.behind (none_run bytes p.offset SL 0 q.re.placed.inside).1 l f in
      let fault = fault_of_set e in
      rw told-is (record { judged = rw (read_so l f same, fault); there = set_located_there 1 bytes ts _ (image_is l f same) r fault })

  -- at one of its records
  pub set_fault_place : {r : Refusal} → Err r ≡ judge_set s → r.place ≤ 16
  set_fault_place {r} e = omega (arith, (set_place ts r (fault_of_set e)).0, its_tasks_many, many, q.behind.few)

  -- or good, and its entries are walked over
  module _ {count : Bool} {w : Walk} (walked : Walked ts bytes count w) where
    -- all entries passed are SL records behind the tasks
    run : RunOf bytes p.offset SL (length bytes) w.entries
    run = rw here at walked.run

    -- so many come before the end of the image
    pub few_entries : (p.index + w.entries ≤ length bytes) × (p.offset + w.entries * size SL ≤ length bytes)
    few_entries = (omega (arith, run.inside, q.behind.index, q.behind.offset), run.inside)

    -- framing comes to the place behind them
    pub walk_reached : Reached 1 bytes (behind_run SL p w.entries w.entries 0)
    walk_reached = reached q.re q.behind run

    -- and on to the end of the image
    module _ {kept : Kept} (keeps : Keeps ts kept) {l : Layout} (framed : Ok l ≡ frame_answer bytes (frame 1 bytes)) where
      -- the image is framed
      frames : frame 1 bytes ≡ gives l
      frames = framed_is bytes (frame 1 bytes) l framed

      -- and read as the set and these entries
      reads : read_timetable bytes ≡ gives (record { set = ts; entries = entries_behind bytes ts l.listed })
      reads = read_so l frames (framed_tasks q.re q.behind run l frames)

      -- the set has no fault
      no_set_fault : set_fault ts ≡ none
      no_set_fault = (set_good ts (hyperperiod_in kept) keeps.good).0

      -- a fault of its entries refuses it
      refuses_with : (r : Located) → fault_behind bytes ts l.listed ≡ some (bare r) → r ≡ located bytes (bare r) → RefusedAt bytes (derived bytes) r
      refuses_with r fault there = record { judged = rw (reads, no_set_fault, fault); there = there }

      -- the walk has passed all entries that are listed
      all : AllPassed ts bytes count w.entries w.counts → l.listed ≡ w.entries
      all passed = all_listed q.re q.behind run l frames (rw (← here) passed.ends)

      -- what stops the walk is told
      stop_told : (stop : Stop) → Stops ts bytes count w.entries w.counts stop → JudgedAs bytes count (told_by s w.entries w.counts stop) kept
      stop_told (Broken number) told =
          let more : w.entries < l.listed = more_listed q.re q.behind run l frames (rw (← here) told.one_more) in
          let place : head_count ts + w.entries ≡ head_count_of s.n + w.entries = omega (arith, its_tasks_many) in
          let entries = entries_begin bytes ts (entries_behind bytes ts l.listed) (image_is l frames (framed_tasks q.re q.behind run l frames)) in
          let inside : w.entries ≤ length (entries_behind bytes ts l.listed) = omega (arith, more, entries_length bytes (head_length ts) l.listed) in
          refuses_with _ (told.broken l.listed more ∙ ap (λ (k : ℕ). some (refusal number k)) place)
          (run_located bytes number told.of_an_entry _ _ SL _ entries w.entries inside _ _ (sym place) (omega (arith, its_tasks_many)))
      stop_told (Missing task) (passed, missing) = refuses_with _ (rw (all passed) missing) refl
      stop_told Complete (passed, none_missing) = record {
        set_is = q.is ∙ ap (λ (n : ℕ). set_read n bytes) (sym many);
        tasks_many = its_tasks_many;
        stand = record { keeps = keeps; inside = walked.run.inside };
        read = rw (← all passed) reads;
        no_fault = none_missing;
        counted = passed.counted;
        uncounted = walked.uncounted;
      }

      pub judged_told : {t : Result Timetable Located} → t ≡ told_of s w → JudgedAs bytes count t kept
      judged_told t-is = rw t-is (stop_told w.stop walked.stops)

-- plain checking answers as the image was judged
pub refusal_answered : {bytes : List ℕ} {r : Located} → RefusedAt bytes (derived bytes) r → Err r ≡ check_timetable bytes
unfolding check_timetable
refusal_answered r = sym (refused_answer _ r)

pub acceptance_answered : {bytes : List ℕ} {count : Bool} {kept : Kept} {t : Timetable} → Good bytes count t kept → Ok tt ≡ check_timetable bytes
unfolding check_timetable
acceptance_answered {kept = kept} {t = t} g = rw (g.read, (set_good (memory_set t.set) (hyperperiod_in kept) g.stand.keeps.good).0, g.no_fault)
