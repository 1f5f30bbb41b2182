-- A walk through a cycle, from start to start: what the rows of the code hold, and that they hold it after the next start. Replay and writing the
-- rebuilt timetable go this way. Assumes nothing.
use mathlib.Core.Path.{◌≡◌, refl, ◌∙◌}
use mathlib.Core.Bool.{true, false}
use mathlib.Core.List.{List, [], ◌∷◌, ◌++◌}
use mathlib.Core.Option.{none}
use Prim.Native.Nat.{ℕ, suc, ◌≤◌, ◌<◌}
use native.Mathlib.Omega.{arith}
use lib.ListN.{length, length-replicate}
use borrow.Author.Tests.{le-ltb}
use Rattle.fields.specs.Body.{head₀, tail₀}
use Rattle.rules.specs.declared.Task.{Task}
use Rattle.rules.specs.declared.Entry.{Entry}
use Rattle.rules.specs.Tasks.{Set, limits, jobs, all_jobs, hyperperiod, set_fault}
use Rattle.rules.specs.Setting.{Tables}
use Rattle.rules.specs.Priority.{slot, all_started}
use Rattle.rules.specs.Offsets.{lent, first_offsets}
use Rattle.rules.specs.Dispatcher.{zeros}
use Rattle.rules.proofs.Cases.{by_bool}
use Rattle.rules.proofs.Arrays.{first_length}
use Rattle.rules.proofs.GoodSets.{set_good}
use Rattle.rules.proofs.PriorityLaws.{slot_empty}
use Rattle.rules.proofs.ValidTimetables.{jobs_left}
use Rattle.rules.proofs.Shown.{from, shown_readable}
use Rattle.rules.proofs.ShownAt.{Stand}
use Rattle.rules.proofs.OffsetReplay.{ReplaysAt, StartsNext, zeros_same, replay_begins, replay_starts, done_length}
use Rattle.decision.specs.declared.Standing.{Standing}
use Rattle.sets.specs.declared.Kept.{Kept}
use Rattle.sets.specs.Kept.{tasks_in, hyperperiod_in, Keeps}
use Rattle.decision.specs.declared.Front.{Front}
use Rattle.decision.specs.Fits.{next_in, offsets_in, Stands}
use Rattle.decision.specs.declared.Found.{Found}
use Rattle.std.specs.Prelude.{Ok}
use Rattle.decision.specs.Next.{next_at, TasksRead}
use Rattle.replay.specs.Runs.{as_entry, InSlots, behind, front_behind, cycle_start, cycle_front}
use Rattle.replay.proofs.Stores.{start_stores, put_stores}
use Rattle.replay.proofs.Running.{is_found, answer_keeps, start_fits, slots_behind}

-- where the walk stands after starts σ: the rows fit the set and what has started, and replay stands there at the same offsets
pub record WalkAt (bytes : List ℕ) (ts : Set) (X : Tables) (kept : Kept) (σ : List Entry) (at : Standing) (front : Front) : Type 0 where
  pub stands : Stands ts kept at front
  pub slots : InSlots at
  pub replays : ReplaysAt bytes ts X σ (next_in at) front.free (offsets_in at) front.idle

-- where no job is left all have started
none_left_started : (h : ℕ) (ts : List Task) (x : List ℕ) → jobs_left h ts x ≡ 0 → all_started h ts x ≡ true
none_left_started h [] x e = refl
none_left_started h (t ∷ ts) x e =
    rw (le-ltb (head₀ x) (jobs h t) (omega arith), all_started) (none_left_started h ts (tail₀ x) (omega arith))

-- the start of a task's next job, and where the walk stands after it
pub record WalkGoesOn (bytes : List ℕ) (ts : Set) (X : Tables) (kept : Kept) (σ : List Entry) (at : Standing) (f : Found) : Type 0 where
  pub a_task : f.task < tasks_in kept
  pub goes_on : WalkAt bytes ts X kept (σ ++ (as_entry f ∷ [])) (behind ts at f) (front_behind ts f)

module _ {bytes : List ℕ} {ts : Set} {X : Tables} {before : ℕ} (st : Stand bytes ts X before) where
  -- at the start of a cycle
  pub walk_begins : {kept : Kept} → Keeps ts kept → WalkAt bytes ts X kept [] (cycle_start kept (first_offsets ts X)) (cycle_front (first_offsets ts X))
  walk_begins {kept} keeps = record {
    stands = record {
      fits = record {
        set = keeps;
        counts = λ i l. rw (zeros_same (suc i) i (omega arith), slot_empty i) (omega arith);
        releases_there = λ i l. keeps.first_there i l ∙ rw (zeros_same (suc i) i (omega arith), slot_empty i) (omega arith);
      };
      by_end = omega arith;
    };
    slots = record {
      next = length-replicate {A = ℕ} limits.tasks 0;
      releases = keeps.first_slots;
      offsets = first_length ts X (omega (arith, keeps.few, keeps.n_tasks));
    };
    replays =
        replay_begins st (set_good ts (hyperperiod_in kept) keeps.good).0 zeros (first_offsets ts X).inversions (zeros_same (length ts.tasks)) (λ i l. refl);
  }

  module _ {kept : Kept} {σ : List Entry} {at : Standing} {front : Front} (w : WalkAt bytes ts X kept σ at front) where
    -- the set is good
    pub walk_good : set_fault ts ≡ none
    walk_good = (set_good ts (hyperperiod_in kept) w.stands.fits.set.good).0

    -- as many starts as a cycle has jobs: all have started
    pub walk_all : all_jobs (hyperperiod ts) ts ≤ length σ → all_started (hyperperiod ts) ts.tasks (next_in at) ≡ true
    walk_all enough = none_left_started (hyperperiod ts) ts.tasks (next_in at) (omega (arith, w.replays.starts_left))

    -- fewer: a job is left
    pub walk_left : length σ < all_jobs (hyperperiod ts) ts → all_started (hyperperiod ts) ts.tasks (next_in at) ≡ false
    walk_left few =
        by_bool (all_started (hyperperiod ts) ts.tasks (next_in at)) (λ all. absurd (omega (arith, done_length st walk_good w.replays all))) (λ left. left)

    -- the offsets of all tasks can be read
    pub walk_readable : TasksRead bytes ts kept at
    walk_readable =
        rw w.stands.fits.set.n_tasks
        (shown_readable (lent bytes ts) (length ts.tasks) (offsets_in at) (λ i. from i (slot (next_in at) i) X.inversions) w.replays.placed)

    module _ (left : all_started (hyperperiod ts) ts.tasks (next_in at) ≡ false) where
      -- the next start is there: the walk goes on behind it
      pub walk_starts : (f : Found) → next_at ts bytes at front ≡ Ok f → WalkGoesOn bytes ts X kept σ at f
      walk_starts f e =
          let is = is_found ts bytes (next_in at) front.free (offsets_in at) front.idle f e in
          let on = start_fits f w.stands.fits w.slots (answer_keeps bytes front f w.stands.fits e) in
          let in_slots : f.task < limits.tasks = omega (arith, on.a_task, w.stands.fits.set.few) in
          let z : StartsNext bytes ts X σ (next_in at) (offsets_in at) f.task f.start f.idle =
          replay_starts st walk_good w.replays left f.task f.start f.idle is.next in
          record {
            a_task = on.a_task;
            goes_on = record {
              stands = on.stands;
              slots = slots_behind at f _ w.slots;
              replays = rw (
                start_stores (next_in at) f.task (omega (arith, w.slots.next)),
                put_stores (offsets_in at) f.task f.inversion (omega (arith, w.slots.offsets)),
                is.own,
              ) z.goes_on;
            };
          }
