-- A walk over the entries of a timetable's image: its invariant, and what each of its ends says. Assumes nothing.
use Rattle.std.proofs.Common.{None, Some, ◌≡◌, ℕ, ◌+◌, ◌<◌, Bool, true, false, ◌⊎◌, List, [], length, take, sym, refl, ◌∙◌, inl, inr, arith}
use Rattle.rules.specs.declared.Entry.{Entry}
use Rattle.rules.specs.Tasks.{Set, hyperperiod}
use Rattle.rules.specs.Priority.{start_job}
use Rattle.rules.specs.Marks.{SL, size}
use Rattle.rules.specs.Image.{head_length}
use Rattle.rules.proofs.Cases.{differ}
use Rattle.rules.proofs.PriorityLaws.{StartKeepsRules}
use Rattle.sets.specs.declared.Kept.{Kept}
use Rattle.sets.specs.Kept.{tasks_in, hyperperiod_in, first_in}
use Rattle.images.specs.Table.{stands_at}
use Rattle.images.proofs.TableLaws.{stands_whole}
use Rattle.framing.specs.Frames.{RunOf}
use Rattle.framing.proofs.Runs.{none_run, one_more}
use Rattle.timetables.specs.declared.Counts.{Counts}
use Rattle.timetables.specs.declared.Stop.TheVariants.{Broken, Missing, Complete}
use Rattle.std.specs.Prelude.{nat_lt}
use Rattle.std.specs.List.{position}
use Rattle.timetables.specs.Walks.{entry_breaks}
use Rattle.timetables.specs.Entries.{entry_in}
use Rattle.timetables.specs.Judged.{EntriesStand, AllPassed, Walked}
use Rattle.timetables.specs.Instants.{idles_before, inverts}
use Rattle.timetables.specs.Counted.{no_counts}
use Rattle.timetables.proofs.Turns.{at_first, free_after, releases_after, GoodStart, turn_task, turn_good}
use Rattle.timetables.proofs.EntriesJudged.{JudgedFrom, judged_first, one_missing, none_missing, its_number, entry_refused, entry_keeps, judged_next}
use Rattle.timetables.proofs.Counting.{CountedFrom, counted_first, counted_all, counted_next, counted_with, FewSoFar, few_first, few_kept, few_more}

-- before entry j: SL records stand so far, what has started, what is judged, and what is counted where it is asked for
pub record Walking (ts : Set) (bytes : List ℕ) (kept : Kept) (count : Bool) (releases : List ℕ) (free : ℕ) (c : Counts) (at j : ℕ) : Type 0 where
  pub next : List ℕ
  pub judged : JudgedFrom ts bytes kept releases next free at j
  pub run : RunOf bytes (head_length ts) SL (length bytes) j
  pub counted : count ≡ true → CountedFrom ts bytes next free at j c
  pub uncounted : count ≡ false → c ≡ no_counts
  pub few : FewSoFar j c

-- before the first entry
pub walking_first : {ts : Set} {bytes : List ℕ} {kept : Kept} {count : Bool} {at : ℕ} → EntriesStand ts bytes kept 0 → at ≡ head_length ts →
    Walking ts bytes kept count (first_in kept) 0 no_counts at 0
walking_first {ts} {bytes} stand place = record {
  next = [];
  judged = judged_first (at_first stand.keeps place);
  run = (none_run bytes (head_length ts) SL (length bytes) (omega (arith, stand.inside))).1;
  counted = λ _. counted_first place;
  uncounted = λ _. refl;
  few = few_first;
}

module _ {ts : Set} {bytes : List ℕ} {kept : Kept} {count : Bool} {releases : List ℕ} {free : ℕ} {c : Counts} {at j : ℕ}
    (w : Walking ts bytes kept count releases free c at j) where
  -- no SL record stands here: the entries end
  module _ (no_entry : stands_at bytes at SL ≡ false) where
    all_passed : AllPassed ts bytes count j c
    all_passed = record { ends = rw (← w.judged.here.place) no_entry; counted = λ asked. counted_all (w.counted asked) w.few.slots }

    -- with a job missing
    pub ends_missing : {i : ℕ} → Some i ≡ position (λ r. nat_lt r (hyperperiod_in kept)) (take (tasks_in kept) releases) →
        Walked ts bytes count (record { stop = Missing i; entries = j; counts = c })
    ends_missing q = record { run = w.run; stops = (all_passed, one_missing w.judged q); uncounted = w.uncounted }

    -- or none
    pub ends_complete : None ≡ position (λ r. nat_lt r (hyperperiod_in kept)) (take (tasks_in kept) releases) →
        Walked ts bytes count (record { stop = Complete; entries = j; counts = c })
    ends_complete q = record { run = w.run; stops = (all_passed, none_missing w.judged q); uncounted = w.uncounted }

  module _ (stands : stands_at bytes at SL ≡ true) {e : Entry} (is : e ≡ entry_in bytes at) where
    -- its entry breaks a rule
    pub walk_broken : {number : ℕ} → Some number ≡ entry_breaks kept releases free e →
        Walked ts bytes count (record { stop = Broken number; entries = j; counts = c })
    walk_broken {number} q = record {
      run = w.run;
      stops = record {
        one_more = rw (← w.judged.here.place) stands;
        of_an_entry = its_number w.judged e is number q;
        broken = entry_refused w.judged e is number q;
      };
      uncounted = w.uncounted;
    }

    module _ (q : None ≡ entry_breaks kept releases free e) where
      -- the start keeps the rules of an entry
      keeps : StartKeepsRules ts (hyperperiod ts) w.next free e.task e.start
      keeps = entry_keeps w.judged e is q

      -- it is of a task, which has a slot, and no sum is large
      pub entry_task : e.task < tasks_in kept
      entry_task = turn_task w.judged.here e keeps

      pub entry_slot : e.task < 16
      entry_slot = omega (arith, entry_task, w.judged.here.keeps.few)

      pub good_start : GoodStart kept releases e
      good_start = turn_good w.judged.here e keeps

      -- what the entry's counting came to, where it was asked for
      abbrev TurnCounted : Counts → Type 0
      TurnCounted c' =
          ((count ≡ true)
          × (idle lower : Bool) × (idle ≡ idles_before (tasks_in kept) releases free e) × (lower ≡ inverts releases e)
          × (c' ≡ counted_with idle lower e.task c))
          ⊎ ((count ≡ false) × (c' ≡ c))

      -- before the next entry
      pub walking_next : (c' : Counts) → TurnCounted c' →
          Walking ts bytes kept count (releases_after kept releases e) (free_after kept e) c' (at + size SL) (j + 1)
      walking_next c' turn =
          let whole = stands_whole bytes at SL stands in
          record {
            next = start_job w.next e.task;
            judged = judged_next w.judged e is q;
            run = (one_more bytes (head_length ts) SL (length bytes) j at (size SL) refl w.judged.here.place w.run
                (omega (arith, w.judged.here.place, whole)) stands).1;
            counted = λ asked. its_count asked turn;
            uncounted = λ asked. not_counted asked turn;
            few = its_few turn;
          }
        where
          its_count : count ≡ true → TurnCounted c' → CountedFrom ts bytes (start_job w.next e.task) (free_after kept e) (at + size SL) (j + 1) c'
          its_count asked (inl t) = rw (t.5, t.3, t.4) (counted_next (w.counted asked) w.judged.here w.few.slots e is keeps)
          its_count asked (inr t) = differ (sym asked ∙ t.0)

          not_counted : count ≡ false → TurnCounted c' → c' ≡ no_counts
          not_counted asked (inl t) = differ (sym t.0 ∙ asked)
          not_counted asked (inr t) = t.1 ∙ w.uncounted asked

          its_few : TurnCounted c' → FewSoFar (j + 1) c'
          its_few (inl t) = rw t.5 (few_more w.few e.task entry_slot t.1 t.2)
          its_few (inr t) = rw t.1 (few_kept w.few)
