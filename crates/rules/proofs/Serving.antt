-- The dispatcher in service: the state after each entry of each cycle, and the turn from there. Assumes nothing.
use mathlib.Core.Path.{◌≡◌, refl, sym, ◌∙◌, ap}
use mathlib.Core.Bool.{true, false}
use mathlib.Core.List.{List, [], ◌∷◌, ◌++◌}
use mathlib.Core.Option.{none}
use Prim.Native.Nat.{ℕ, suc, ◌+◌, ◌*◌, ◌-◌, ◌≤◌, ◌<◌}
use native.Mathlib.Omega.{arith}
use lib.Dec.{ltb}
use lib.ListN.{length, take, drop, replicate, drop_of_length-le, length-append, length-replicate}
use lib.Seq.{take-suc, drop-cons}
use borrow.Author.Tests.{lt-ltb, le-ltb, le-leb, eq-eqb, ne_eqb}
use Rattle.rules.specs.declared.Entry.{Entry}
use Rattle.rules.specs.declared.Start.{Start}
use Rattle.rules.specs.declared.Dispatcher.{Dispatcher as State}
use Rattle.rules.specs.declared.Turn.{Turn}
use Rattle.std.specs.Prelude.{Ok}
use Rattle.rules.specs.Refusals.{Judged, gives, refuses, refusal}
use Rattle.rules.specs.Tasks.{Set, limits, task, hyperperiod, few_enough, GoodSet, set_fault}
use Rattle.rules.specs.Timetable.{entry_at, job_at, ValidTimetable}
use Rattle.rules.specs.Setting.{Tables}
use Rattle.rules.specs.Priority.{slot, start_job, all_started, setting}
use Rattle.rules.specs.Decision.{replay_from, replay}
use Rattle.rules.specs.Judging.{tables}
use Rattle.rules.specs.Operations.{Tabled}
use Rattle.rules.specs.Offsets.{Standing, standing, next_is, next_start, moved, lent, first_offsets}
use Rattle.rules.specs.Located.{located}
use Rattle.rules.specs.Dispatcher.{Shaped, zeros, zero_task, set_of, is_stopped, possible, began, latest_end, refused, started, start_next, last_cycle, after_running, at_cycle_start, next_turn, go_on, fresh, at_begin}
use Rattle.rules.specs.Calls.{start_of}
use Rattle.rules.specs.Image.{head_length}
use Rattle.rules.proofs.Cases.{both_in, clash}
use Rattle.rules.proofs.PriorityLaws.{slot_empty, slot_start_same}
use Rattle.rules.proofs.Arrays.{start_length, put_length, front_length, first_length, memory_keeps}
use Rattle.rules.proofs.Replayed.{replay_left, replay_end}
use Rattle.rules.proofs.Images.{records_before}
use Rattle.rules.proofs.StuckStarts.{by_next}
use Rattle.rules.proofs.Shown.{slot_front}
use Rattle.rules.proofs.Slots.{Same}
use Rattle.rules.proofs.ShownAt.{Stand}
use Rattle.rules.proofs.OneMoreStart.{starts_given, start_given, after_counts}
use Rattle.rules.proofs.OffsetReplay.{zeros_same, ReplaysAt, replay_begins, replay_starts, replay_stuck, next_replayed}
use Rattle.rules.proofs.KeptOffsets.{kept_behind, KeepsIdles, keeps_begin, keeps_starts}

-- a start answered, with the state beside it
abbrev pub answered : Start → State → Turn
answered a s = record { answer = Ok a; state = s }

-- the turn that makes the first start
abbrev pub first_turn : List ℕ → Tabled → Turn
first_turn bytes i = start_next bytes (fresh i) 0 (at_begin (fresh i))

module _ (bytes : List ℕ) (ts : Set) (X : Tables) (τ : List Entry) where
  -- what a state keeps of the image for all cycles: the set, and the offsets as at a cycle's start
  pub record Kept (s : State) : Type 0 where
    pub slots : length s.set.tasks ≡ limits.tasks
    pub same_set : set_of s ≡ ts
    pub tasks : s.set.n ≡ length ts.tasks
    pub first : s.first ≡ first_offsets ts X

  -- entry r of a cycle is next
  pub record Ready (r : ℕ) (a : Standing (List ℕ)) : Type 0 where
    pub replays : ReplaysAt bytes ts X (take r τ) a.next a.free a.offsets a.idle
    pub kept : ℕ
    pub keeps : KeepsIdles ts X (take r τ) a.next a.free a.idle kept
    pub next_slots : length a.next ≡ limits.tasks
    pub offset_slots : length a.offsets ≡ limits.tasks

  -- the state after entry r of cycle c has started
  pub record At (c r : ℕ) (s : State) : Type 0 where
    pub kept : Kept s
    pub cycle : s.cycle ≡ c
    pub running_task : s.running.task ≡ (entry_at τ r).task
    pub running_job : s.running.job ≡ job_at τ r
    pub running_start : s.running.start ≡ (entry_at τ r).start
    pub last_started : slot s.next s.running.task ≡ suc s.running.job
    pub ready : Ready (suc r) (after_running s)

  -- a call that answers entry r of cycle c
  pub record Serves (c r : ℕ) (turn : Turn) : Type 0 where
    pub state : State
    pub answers : turn ≡ answered (start_of (hyperperiod ts) τ c r) state
    pub at : At c r state

  -- what the dispatcher goes by: a set without a fault, and tables that stand in the image, replay to a valid timetable and are its own
  pub record Served : Type 0 where
    pub sound : set_fault ts ≡ none
    pub good : GoodSet ts (hyperperiod ts)
    pub stand : Stand bytes ts X (records_before ts X)
    pub whole : replay (setting ts) [] X ≡ gives τ
    pub own : tables ts τ ≡ X
    pub valid : ValidTimetable ts (hyperperiod ts) τ

  module _ (g : Served) where
    -- replay goes on with the entries that are left
    pub rest_given : {r : ℕ} {a : Standing (List ℕ)} (re : Ready r a) →
        replay_from (setting ts) (suc (hyperperiod ts)) a.next a.free re.replays.idles_left X.inversions ≡ gives (drop r τ)
    rest_given {r} re = starts_given r τ _ (sym re.replays.replayed ∙ g.whole)

    -- with none left all jobs have started
    all_have_started : {r : ℕ} {a : Standing (List ℕ)} → Ready r a → length τ ≤ r → all_started (hyperperiod ts) ts.tasks a.next ≡ true
    all_have_started {r} {a} re le =
        replay_end (setting ts) (suc (hyperperiod ts)) a.next a.free re.replays.idles_left X.inversions
        (rest_given re ∙ ap gives (drop_of_length-le τ {i = r} le))

    module _ (c r : ℕ) (a : Standing (List ℕ)) (s : State) (lt : r < length τ) (ke : Kept s) (re : Ready r a) where
      abbrev e : Entry
      e = entry_at τ r

      -- the entry that is next is the first of those left
      first_left : replay_from (setting ts) (suc (hyperperiod ts)) a.next a.free re.replays.idles_left X.inversions ≡ gives (e ∷ drop (suc r) τ)
      first_left = rest_given re ∙ ap gives (drop-cons τ r (record { task = 0; start = 0 }) lt)

      -- so not all jobs have started
      not_all_started : all_started (hyperperiod ts) ts.tasks a.next ≡ false
      not_all_started =
          replay_left (setting ts) (suc (hyperperiod ts)) a.next a.free re.replays.idles_left X.inversions e (drop (suc r) τ) first_left

      -- where it is the next start by offsets, it starts
      serves_found : (w : ℕ) → next_start (setting ts) (lent bytes ts) a ≡ next_is e.task e.start w → Serves c r (start_next bytes s c a)
      serves_found w n =
          let i : ℕ = e.task in
          let R = re.replays in
          let go = replay_starts g.stand g.sound R not_all_started i e.start w n in
          let one_more : take (suc r) τ ≡ take r τ ++ (e ∷ []) = take-suc τ r (record { task = 0; start = 0 }) lt in
          let job : slot a.next i ≡ job_at τ r = R.started i go.a_task ∙ omega (arith, after_counts [] (take r τ) i, slot_empty i) in
          let n' : next_start (setting (set_of s)) (lent bytes (set_of s)) a ≡ next_is i e.start w = rw ke.same_set n in
          let s' : State =
          record {
            set = s.set;
            next = start_job a.next i;
            cycle = c;
            running = record { task = i; job = slot a.next i; start = e.start };
            now = record { idle = w; inversions = moved (setting ts) (lent bytes ts) a.next a.offsets i };
            first = s.first;
          } in
          record {
            state = s';
            answers = ap (started bytes s c a) n' ∙ rw (ke.same_set, job);
            at = record {
              kept = record { slots = ke.slots; same_set = ke.same_set; tasks = ke.tasks; first = ke.first };
              cycle = refl;
              running_task = refl;
              running_job = job;
              running_start = refl;
              last_started = slot_start_same a.next i;
              ready = record {
                replays = rw (ke.same_set, one_more) go.goes_on;
                kept = kept_behind (setting ts) (lent bytes ts) a.next e.start re.kept a.idle w;
                keeps = rw (ke.same_set, one_more) (keeps_starts g.stand g.sound R re.keeps not_all_started i e.start w n);
                next_slots = start_length a.next i (omega (arith, go.a_task, g.good.few_tasks, re.next_slots)) ∙ re.next_slots;
                offset_slots = put_length a.offsets i _ (omega (arith, go.a_task, g.good.few_tasks, re.offset_slots)) ∙ re.offset_slots;
              };
            };
          }

      -- and it is
      serves_next : Serves c r (start_next bytes s c a)
      serves_next =
          let R = re.replays in
          by_next (next_start (setting ts) (lent bytes ts) a)
          (λ i t w n.
          let z = next_replayed g.stand g.sound R not_all_started i t w n in
          let later : Judged (List Entry) =
          replay_from (setting ts) (suc (hyperperiod ts)) (start_job a.next i) (t + (task ts i).time) z.idles_left X.inversions in
          let same : record { task = i; start = t } ≡ e = start_given (record { task = i; start = t }) e later (drop (suc r) τ) (sym z.goes_on ∙ first_left) in
          let its_task : i ≡ e.task = ap (λ (d : Entry). d.task) same in
          let its_start : t ≡ e.start = ap (λ (d : Entry). d.start) same in
          serves_found w (n ∙ rw (its_task, its_start)))
          (λ number n.
          let other : gives τ ≡ refuses (refusal 18 (length (take r τ))) =
          sym g.whole ∙ replay_stuck g.stand g.sound R not_all_started number n in
          clash (cc))

    -- at a cycle's start its first entry is next
    ready_first : (x offsets : List ℕ) → Same (length ts.tasks) x [] → Same (length ts.tasks) offsets (first_offsets ts X).inversions →
        length x ≡ limits.tasks → length offsets ≡ limits.tasks → Ready 0 (standing x 0 offsets (first_offsets ts X).idle)
    ready_first x offsets sx so lx lo = record {
      replays = replay_begins g.stand g.sound x offsets sx so;
      kept = head_length ts;
      keeps = keeps_begin g.stand g.sound x sx;
      next_slots = lx;
      offset_slots = lo;
    }

    -- beginning answers the first entry
    pub serves_first : 0 < length τ → Serves 0 0 (first_turn bytes (record { set = ts; tables = X }))
    serves_first lt =
        serves_next 0 0 (at_begin (fresh (record { set = ts; tables = X }))) (fresh (record { set = ts; tables = X })) lt
        (record {
          slots = omega (
            arith,
            length-append ts.tasks (replicate (limits.tasks - length ts.tasks) zero_task),
            length-replicate (limits.tasks - length ts.tasks) zero_task,
            g.good.few_tasks,
          );
          same_set = memory_keeps ts;
          tasks = refl;
          first = refl;
        })
        (ready_first zeros (first_offsets ts X).inversions (zeros_same (length ts.tasks)) (λ i l. refl) refl
        (first_length ts X g.good.few_tasks))

    module _ (c r : ℕ) (s : State) (a : At c r s) (an_entry : r < length τ) where
      -- such a state is possible
      possible_at : possible s ≡ true
      possible_at =
          let k = a.kept in
          let few : few_enough s.set.n ≡ true = rw k.tasks (both_in _ _ (le-leb _ _ g.good.some_tasks) (le-leb _ _ g.good.few_tasks)) in
          let number : ltb s.running.task s.set.n ≡ true = rw (k.tasks, a.running_task) (lt-ltb _ _ (g.valid.tasks_below_n r an_entry)) in
          rw (k.same_set, few, g.sound)
          (both_in _ _ a.ready.replays.counts
          (both_in _ _ number
          (both_in _ _ (eq-eqb _ _ a.last_started)
          (rw (a.running_task, a.running_job, a.running_start)
          (both_in _ _ (le-leb _ _ (g.valid.released r an_entry)) (le-leb _ _ (g.valid.in_time r an_entry)))))))

      -- each of its lists has all its slots
      pub shaped_at : Shaped s
      shaped_at = record {
        tasks = a.kept.slots;
        next = a.ready.next_slots;
        now = a.ready.offset_slots;
        first = rw a.kept.first (first_length ts X g.good.few_tasks);
      }

      -- and it is not the stopped one
      not_stopped : is_stopped s ≡ false
      not_stopped = rw (ne_eqb s.set.n 0 (λ z. omega (arith, a.kept.tasks, g.good.some_tasks)))

      -- the running job's start is the entry's, moved by the cycles before
      pub began_at : began s ≡ c * hyperperiod ts + (entry_at τ r).start
      began_at = rw (a.kept.same_set, a.cycle, a.running_start)

      -- and the latest end is the entry's
      pub latest_end_at : latest_end s ≡ c * hyperperiod ts + (entry_at τ r).start + (task ts (entry_at τ r).task).time
      latest_end_at = rw (a.kept.same_set, a.cycle, a.running_start, a.running_task)

      -- an end within the running job's time is followed by the next turn
      going_at : (end : ℕ) → began s ≤ end → end ≤ latest_end s → go_on bytes s end ≡ next_turn bytes s
      unfolding go_on
      going_at end lo hi = rw (not_stopped, possible_at, le-ltb end (began s) lo, le-ltb (latest_end s) end hi, go_on)

      -- an end before the running job's start is refused
      pub refuses_early : (end : ℕ) → end < began s → go_on bytes s end ≡ refused (located bytes (refusal 21 0)) s
      unfolding go_on
      refuses_early end l = rw (not_stopped, possible_at, lt-ltb end (began s) l, go_on)

      -- within a cycle the next turn starts from the running job's start + C
      within : suc r < length τ → next_turn bytes s ≡ start_next bytes s c (after_running s)
      within lt =
          let left : all_started (hyperperiod (set_of s)) (set_of s).tasks s.next ≡ false = rw a.kept.same_set (not_all_started c (suc r) (after_running s) s lt a.kept a.ready) in
          rw (left, next_turn) (rw a.cycle)

      -- going on answers the next entry of the cycle
      pub serves_within : (end : ℕ) → suc r < length τ → began s ≤ end → end ≤ latest_end s → Serves c (suc r) (go_on bytes s end)
      serves_within end lt lo hi =
          let v = serves_next c (suc r) (after_running s) s lt a.kept a.ready in
          record { state = v.state; answers = going_at end lo hi ∙ within lt ∙ v.answers; at = v.at }

      -- after the last entry of a cycle
      module _ (last : suc r ≡ length τ) where
        -- all jobs of the cycle have started
        done : all_started (hyperperiod (set_of s)) (set_of s).tasks s.next ≡ true
        done = rw a.kept.same_set (all_have_started a.ready (omega arith))

        -- the next turn starts from the start of the next cycle
        to_next_cycle : c < last_cycle → next_turn bytes s ≡ start_next bytes s (suc c) (at_cycle_start s)
        to_next_cycle lc = rw (done, lt-ltb s.cycle last_cycle (omega (arith, a.cycle)), next_turn) (rw a.cycle)

        -- where its first entry is next
        ready_again : Ready 0 (at_cycle_start s)
        ready_again =
            rw a.kept.first
            (ready_first _ _ (λ i l. slot_front s.set.n [] s.next i (omega (arith, a.kept.tasks)))
            (λ i l. slot_front s.set.n (first_offsets ts X).inversions s.now.inversions i (omega (arith, a.kept.tasks)))
            (front_length s.set.n [] s.next (omega (arith, a.kept.tasks, a.ready.next_slots, g.good.few_tasks)) ∙ a.ready.next_slots)
            (front_length s.set.n (first_offsets ts X).inversions s.now.inversions
            (omega (arith, a.kept.tasks, a.ready.offset_slots, g.good.few_tasks))
            ∙ a.ready.offset_slots))

        -- going on answers the first entry of the next cycle
        pub serves_next_cycle : (end : ℕ) → c < last_cycle → began s ≤ end → end ≤ latest_end s → Serves (suc c) 0 (go_on bytes s end)
        serves_next_cycle end lc lo hi =
            let v = serves_next (suc c) 0 (at_cycle_start s) s (omega arith) a.kept ready_again in
            record { state = v.state; answers = going_at end lo hi ∙ to_next_cycle lc ∙ v.answers; at = v.at }

        -- after the last cycle going on refuses
        pub refuses_after : (end : ℕ) → last_cycle ≤ c → began s ≤ end → end ≤ latest_end s → go_on bytes s end ≡ refused (located bytes (refusal 24 0)) s
        refuses_after end lc lo hi = going_at end lo hi ∙ rw (done, le-ltb s.cycle last_cycle (omega (arith, a.cycle)), next_turn)
