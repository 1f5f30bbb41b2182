-- Replay through a cycle: at every decision all offsets can be read; where it is stuck the tables are refused with 18; and where it has found all
-- starts, replay of the tables stands there. Assumes nothing.
use mathlib.Core.Path.{◌≡◌, refl, sym, ◌∙◌, ap, subst}
use mathlib.Core.Bool.{Bool, true, false}
use mathlib.Core.List.{List, [], ◌∷◌, ◌++◌, append-nil}
use mathlib.Core.Option.{none}
use Prim.Native.Nat.{ℕ, zero, suc, ◌+◌, ◌-◌, min, ◌≤◌, ◌<◌}
use native.Mathlib.Omega.{arith}
use lib.Dec.{eqb}
use lib.Seq.{append_snoc}
use lib.ListN.{length, get_or, set, length-append}
use borrow.Author.Tests.{eq-eqb, ne_eqb}
use Rattle.std.specs.Prelude.{Ok, Err}
use Rattle.std.proofs.Common.{Fits, w8}
use Rattle.fields.specs.Number.{Bytes}
use Rattle.fields.proofs.Laws.{bytes_by_index}
use Rattle.rules.specs.declared.Entry.{Entry}
use Rattle.rules.specs.declared.Idle.{Idle}
use Rattle.rules.specs.declared.Offsets.{Offsets as OffsetsOf}
use Rattle.rules.specs.Refusals.{refuses, refusal}
use Rattle.rules.specs.Tasks.{Set, task, all_jobs, hyperperiod, set_fault}
use Rattle.rules.specs.Setting.{Tables}
use Rattle.rules.specs.Priority.{slot, start_job, all_started, setting}
use Rattle.rules.specs.Irregularities.{runs}
use Rattle.rules.specs.Judging.{judge_tables}
use Rattle.rules.specs.Offsets.{last_offset, Source, lent, past_own, standing, next_is, next_start}
use Rattle.rules.specs.Dispatcher.{zeros}
use Rattle.rules.proofs.Cases.{by_bool, by_eq, clash}
use Rattle.rules.proofs.Arrays.{slot_element}
use Rattle.rules.proofs.GoodSets.{a_job}
use Rattle.rules.proofs.PriorityLaws.{never_waits}
use Rattle.rules.proofs.Images.{records_before}
use Rattle.rules.proofs.Shown.{ShowsIdles, no_idle, an_idle}
use Rattle.rules.proofs.ShownAt.{Stand}
use Rattle.rules.proofs.StandingTables.{read_stand}
use Rattle.rules.proofs.StuckStarts.{by_next}
use Rattle.rules.proofs.OffsetReplay.{ReplaysAt, zeros_same}
use Rattle.rules.proofs.WastedRecords.{Wastes, wastes_begin, start_wastes, start_inverts, start_without, judged_late}
use Rattle.rules.proofs.KeptOffsets.{KeepsIdles, keeps_begin, keeps_along}
use Rattle.decision.specs.declared.Found.{Found}
use Rattle.decision.specs.declared.Standing.{Standing}
use Rattle.sets.specs.declared.Kept.{Kept}
use Rattle.sets.specs.Kept.{all_jobs_in}
use Rattle.decision.specs.declared.Front.{Front}
use Rattle.decision.specs.Fits.{next_in, offsets_in}
use Rattle.decision.specs.Next.{inverts, next_case, next_of, next_at, IdlesRead, none_left, one_more, AllRead}
use Rattle.sets.proofs.SetKept.{kept_cycle}
use Rattle.replay.specs.Runs.{wasted_after, Ends, as_entry, start_first, wasted_by, behind, front_behind, ends_of, AllReadIn, CanRun, CanReplay, cycle_start, cycle_front, cycle_of}
use Rattle.replay.proofs.Stores.{start_stores}
use Rattle.replay.proofs.Running.{by_answer, is_found, ends_stuck, ends_last, ends_more}
use Rattle.replay.proofs.Walk.{WalkAt, WalkGoesOn, walk_begins, walk_all, walk_left, walk_readable, walk_starts}

-- an image is lent as bytes
pub image_bytes : (image : List ℕ) → ((i : ℕ) → Fits w8 (get_or image i 0)) → Bytes image
image_bytes image known = bytes_by_index image (λ i. (known i).fits)

-- where a run that found all starts of a cycle ended: next job numbers, free instant and tasks' offsets; replay of the tables stands there after
-- these starts, with these records wasted, and all jobs have started
pub record CycleDone (bytes : List ℕ) (ts : Set) (X : Tables) (σ : List Entry) (idle wasted : ℕ) : Type 0 where
  pub next : List ℕ
  pub free : ℕ
  pub offsets : List ℕ
  pub replays : ReplaysAt bytes ts X σ next free offsets idle
  pub keeps : KeepsIdles ts X σ next free idle idle
  pub wastes : Wastes ts X σ next wasted
  pub all : all_started (hyperperiod ts) ts.tasks next ≡ true

-- idle records that are shown, one behind the other, can be read
idles_come : {S : Source} {o : ℕ} {idles : List Idle} → ShowsIdles S o idles → IdlesRead S o
idles_come (no_idle e) = none_left e
idles_come (an_idle e s) = one_more e (idles_come s)

-- the least offset of a record without effect stays at a start without a record of its own
wasted_stays : (wasted offset behind : ℕ) (b : Bool) → behind ≡ offset → wasted_after wasted offset behind b ≡ wasted
unfolding wasted_after
wasted_stays wasted offset behind b e = rw (eq-eqb behind offset e)

-- and at an inversion
wasted_kept : (wasted offset behind : ℕ) → wasted_after wasted offset behind true ≡ wasted
unfolding wasted_after
wasted_kept wasted offset behind = by_bool (eqb behind offset) (λ b. rw b) (λ b. rw b)

-- at any other start it is that record's, if it is smaller
wasted_falls : (wasted offset behind : ℕ) → (behind ≡ offset → ⊥) → wasted_after wasted offset behind false ≡ min wasted offset
unfolding wasted_after
wasted_falls wasted offset behind n = rw (ne_eqb behind offset n)

-- the tables of a good set stand in the image, and replay stands after some starts with a job left
module _ {bytes : List ℕ} {ts : Set} {X : Tables} {before : ℕ} (st : Stand bytes ts X before) (good : set_fault ts ≡ none) {σ : List Entry}
    {next : List ℕ} {free : ℕ} {offsets : List ℕ} {idle wasted : ℕ} (R : ReplaysAt bytes ts X σ next free offsets idle) (W : Wastes ts X σ next wasted)
    (left : all_started (hyperperiod ts) ts.tasks next ≡ false) where
  -- a task's own offset behind its start
  abbrev own_end : ℕ → ℕ
  own_end i = past_own ((lent bytes ts).inversion_shown (slot offsets i)) i (slot next i) (slot offsets i)

  -- a start that is found: the least offset of a record without effect
  wastes_on : (f : Found) → next_of ts bytes next free offsets idle ≡ Ok f →
      Wastes ts X (σ ++ (as_entry f ∷ [])) (start_job next f.task) (wasted_after wasted (slot offsets f.task) f.inversion f.inverts)
  wastes_on f e =
      let is = is_found ts bytes next free offsets idle f e in
      let i : ℕ = f.task in
      rw (is.own, is.jumps)
      (by_eq (own_end i) (slot offsets i)
      (λ u. rw (wasted_stays wasted (slot offsets i) (own_end i) (inverts ts next f.start i) u) (start_without st good R W left i f.start f.idle is.next u))
      (λ u. by_bool (runs ((setting ts).baseline next f.start) i)
      (λ b. rw (b, wasted_falls wasted (slot offsets i) (own_end i) u) (start_wastes st good R W left i f.start f.idle is.next u b))
      (λ b. rw (b, wasted_kept wasted (slot offsets i) (own_end i)) (start_inverts st good R W left i f.start f.idle is.next b))))

  -- the IDs used are the derived ones: the baseline never waits
  keeps_on : KeepsIdles ts X σ next free idle idle → (f : Found) → next_of ts bytes next free offsets idle ≡ Ok f →
      KeepsIdles ts X (σ ++ (as_entry f ∷ [])) (start_job next f.task) (f.start + (task ts f.task).time) f.idle f.idle
  keeps_on K f e =
      keeps_along st good R K left f.task f.start f.idle (is_found ts bytes next free offsets idle f e).next (never_waits ts (hyperperiod ts)) refl

  -- a stuck answer: 18 at the number of starts
  late_here : (number : ℕ) → next_of ts bytes next free offsets idle ≡ Err number → judge_tables ts X ≡ refuses (refusal 18 (length σ))
  late_here number e =
      by_next (next_start (setting ts) (lent bytes ts) (standing next free offsets idle))
      (λ i t o q. let other : next_case ts bytes next offsets (next_is i t o) ≡ Err number = rw q at e in clash (cc))
      (λ m q. judged_late st good R left m q)

-- where a run stands after some starts: the walk stands there, with these records wasted
record PointAt (bytes : List ℕ) (ts : Set) (X : Tables) (kept : Kept) (σ : List Entry) (at : Standing) (front : Front) (wasted : ℕ) : Type 0 where
  walk : WalkAt bytes ts X kept σ at front
  keeps : KeepsIdles ts X σ (next_in at) front.free front.idle front.idle
  wastes : Wastes ts X σ (next_in at) wasted

-- what a run behind some starts comes to, with as many starts as jobs are left: the tables are refused, or all jobs have started
record EndsSo (bytes : List ℕ) (ts : Set) (X : Tables) (σ : List Entry) (e : Ends) : Type 0 where
  stuck : (number : ℕ) → e.last ≡ Err number → judge_tables ts X ≡ refuses (refusal 18 (length (σ ++ e.entries)))
  done : (f : Found) → e.last ≡ Ok f → CycleDone bytes ts X (σ ++ e.entries) f.idle e.wasted

-- such an end, by its last answer
module _ {bytes : List ℕ} {ts : Set} {X : Tables} {σ : List Entry} where
  -- stuck at once
  stuck_so : (wasted number : ℕ) → judge_tables ts X ≡ refuses (refusal 18 (length σ)) →
      EndsSo bytes ts X σ (record { entries = []; wasted = wasted; last = Err number })
  stuck_so wasted number r = record { stuck = λ m e. rw (append-nil σ) r; done = λ f e. clash (cc) }

  -- with a last start
  done_so : {wasted : ℕ} (f : Found) → CycleDone bytes ts X (σ ++ (as_entry f ∷ [])) f.idle wasted →
      EndsSo bytes ts X σ (record { entries = as_entry f ∷ []; wasted = wasted; last = Ok f })
  done_so f d = record { stuck = λ number e. clash (cc); done = λ g e. let same : g ≡ f = cc in rw same d }

  -- with a start and others behind it
  more_so : (f : Found) (e : Ends) → EndsSo bytes ts X (σ ++ (as_entry f ∷ [])) e → EndsSo bytes ts X σ (start_first f e)
  more_so f e so = record {
    stuck = λ number l. rw (← append_snoc σ (as_entry f) e.entries) (so.stuck number l);
    done = λ g l. rw (← append_snoc σ (as_entry f) e.entries) (so.done g l);
  }

-- one start more is counted
one_entry : (σ : List Entry) (f : Found) → length (σ ++ (as_entry f ∷ [])) ≡ suc (length σ)
one_entry σ f = omega (arith, length-append σ (as_entry f ∷ []))

-- an image that may be replayed
module _ {ts : Set} {bytes : List ℕ} {kept : Kept} {first : OffsetsOf} (are-bytes : Bytes bytes) (can : CanReplay ts bytes kept first) where
  -- its tables, and the jobs of its cycle
  abbrev X : Tables
  X = can.tables

  abbrev all : ℕ
  all = all_jobs (hyperperiod ts) ts

  -- its tables stand in it
  pub cycle_stand : Stand bytes ts can.tables (records_before ts can.tables)
  cycle_stand = read_stand bytes ts X are-bytes can.read can.good can.records_good

  -- after some starts
  abbrev At : List Entry → Standing → Front → ℕ → Type 0
  At σ at front wasted = PointAt bytes ts X kept σ at front wasted

  -- with all starts made, all jobs have started
  point_done : {σ : List Entry} {at : Standing} {front : Front} {wasted : ℕ} → At σ at front wasted → all ≤ length σ →
      CycleDone bytes ts X σ front.idle wasted
  point_done {at = at} {front = front} a enough = record {
    next = next_in at;
    free = front.free;
    offsets = offsets_in at;
    replays = a.walk.replays;
    keeps = a.keeps;
    wastes = a.wastes;
    all = walk_all cycle_stand a.walk enough;
  }

  module _ {σ : List Entry} {at : Standing} {front : Front} {wasted : ℕ} (a : At σ at front wasted) where
    -- all offsets can be read
    point_read : AllRead bytes ts kept at front.idle
    point_read = record { tasks_read = walk_readable cycle_stand a.walk; idles_read = idles_come a.walk.replays.idles_shown }

    module _ (few : length σ < all) where
      -- a job is left
      point_left : all_started (hyperperiod ts) ts.tasks (next_in at) ≡ false
      point_left = walk_left cycle_stand a.walk few

      -- the next start is stuck: 18 at the number of starts
      point_stuck : (number : ℕ) → next_at ts bytes at front ≡ Err number → judge_tables ts X ≡ refuses (refusal 18 (length σ))
      point_stuck = late_here cycle_stand can.good a.walk.replays a.wastes point_left

      -- behind the next start
      point_on : (f : Found) → next_at ts bytes at front ≡ Ok f → At (σ ++ (as_entry f ∷ [])) (behind ts at f) (front_behind ts f) (wasted_by at wasted f)
      point_on f e =
          let i : ℕ = f.task in
          let w = a.walk in
          let g : WalkGoesOn bytes ts X kept σ at f = walk_starts cycle_stand w point_left f e in
          let stored : set (next_in at) i (get_or (next_in at) i 0 + 1) ≡ start_job (next_in at) i =
          start_stores (next_in at) i (omega (arith, g.a_task, w.stands.fits.set.few, w.slots.next)) in
          record {
            walk = g.goes_on;
            keeps = rw stored (keeps_on cycle_stand can.good w.replays a.wastes point_left a.keeps f e);
            wastes = rw (stored, ← slot_element (offsets_in at) i) (wastes_on cycle_stand can.good w.replays a.wastes point_left f e);
          }

      -- what one start comes to, where one job is left
      ends_here : all ≤ suc (length σ) → EndsSo bytes ts X σ (ends_of ts bytes zero at front wasted)
      ends_here last =
          by_answer (next_at ts bytes at front)
          (λ f q. rw (ends_last ts bytes at front wasted f q) (done_so f (point_done (point_on f q) (omega (arith, one_entry σ f)))))
          (λ m q. rw (ends_stuck ts bytes at front wasted zero m q) (stuck_so wasted m (point_stuck m q)))

      -- and what more come to
      ends_on : (more : ℕ) →
          ((f : Found) → next_at ts bytes at front ≡ Ok f →
          EndsSo bytes ts X (σ ++ (as_entry f ∷ [])) (ends_of ts bytes more (behind ts at f) (front_behind ts f) (wasted_by at wasted f))) →
          EndsSo bytes ts X σ (ends_of ts bytes (suc more) at front wasted)
      ends_on more later =
          by_answer (next_at ts bytes at front)
          (λ f q. rw (ends_more ts bytes at front wasted more f q)
          (more_so f (ends_of ts bytes more (behind ts at f) (front_behind ts f) (wasted_by at wasted f)) (later f q)))
          (λ m q. rw (ends_stuck ts bytes at front wasted (suc more) m q) (stuck_so wasted m (point_stuck m q)))

  -- with as many starts to come as jobs are left, all offsets can be read at each of these decisions
  run_read : (more : ℕ) (σ : List Entry) (at : Standing) (front : Front) (wasted : ℕ) → At σ at front wasted → suc more + length σ ≡ all →
      AllReadIn ts bytes kept more at front
  unfolding AllReadIn
  run_read zero σ at front wasted a left = point_read a
  run_read (suc more) σ at front wasted a left = (
    point_read a,
    λ f e.
        run_read more (σ ++ (as_entry f ∷ [])) (behind ts at f) (front_behind ts f) (wasted_by at wasted f) (point_on a (omega arith) f e) (omega (arith, one_entry σ f)),
  )

  -- what the run comes to
  run_ends : (more : ℕ) (σ : List Entry) (at : Standing) (front : Front) (wasted : ℕ) → At σ at front wasted → suc more + length σ ≡ all →
      EndsSo bytes ts X σ (ends_of ts bytes more at front wasted)
  run_ends zero σ at front wasted a left = ends_here a (omega arith) (omega arith)
  run_ends (suc more) σ at front wasted a left =
      ends_on a (omega arith) more
      (λ f q.
      run_ends more (σ ++ (as_entry f ∷ [])) (behind ts at f) (front_behind ts f) (wasted_by at wasted f) (point_on a (omega arith) f q) (omega (arith, one_entry σ f)))

  -- where the cycle begins
  cycle_begins : At [] (cycle_start kept first) (cycle_front first) last_offset
  cycle_begins = record {
    walk = subst (λ (o : OffsetsOf). WalkAt bytes ts X kept [] (cycle_start kept o) (cycle_front o)) (sym can.first_is)
        (walk_begins cycle_stand can.keeps);
    keeps = subst (λ (o : OffsetsOf). KeepsIdles ts X [] zeros 0 o.idle o.idle) (sym can.first_is)
        (keeps_begin cycle_stand can.good zeros (zeros_same (length ts.tasks)));
    wastes = wastes_begin cycle_stand can.good zeros (zeros_same (length ts.tasks));
  }

  -- as many starts are to come as it has jobs
  pub all_kept : all_jobs_in kept ≡ all_jobs (hyperperiod ts) ts
  all_kept = can.keeps.all_there ∙ ap (λ (h : ℕ). all_jobs h ts) (kept_cycle can.keeps)

  all_to_come : suc (all - 1) + 0 ≡ all
  all_to_come = omega (arith, all_kept, can.keeps.all_there, a_job can.keeps.good)

  -- the run through the cycle can begin, with as many starts as are kept
  pub cycle_can : CanRun ts bytes true kept (cycle_start kept first) (cycle_front first) (all_jobs_in kept)
  cycle_can = record {
    stands = cycle_begins.walk.stands;
    slots = λ _. cycle_begins.walk.slots;
    read = λ _. subst (λ (n : ℕ). AllReadIn ts bytes kept (n - 1) (cycle_start kept first) (cycle_front first)) (sym all_kept)
        (run_read (all - 1) [] (cycle_start kept first) (cycle_front first) last_offset cycle_begins all_to_come);
  }

  -- what the cycle comes to
  cycle_ends : EndsSo bytes ts X [] (cycle_of ts bytes kept first)
  cycle_ends = run_ends (all - 1) [] (cycle_start kept first) (cycle_front first) last_offset cycle_begins all_to_come

  -- a cycle that is stuck: the tables are refused with 18 at the number of starts
  pub cycle_stuck : (number : ℕ) → (cycle_of ts bytes kept first).last ≡ Err number →
      judge_tables ts can.tables ≡ refuses (refusal 18 (length (cycle_of ts bytes kept first).entries))
  cycle_stuck = cycle_ends.stuck

  -- a cycle whose last start is found
  pub cycle_done : (f : Found) → (cycle_of ts bytes kept first).last ≡ Ok f →
      CycleDone bytes ts can.tables (cycle_of ts bytes kept first).entries f.idle (cycle_of ts bytes kept first).wasted
  cycle_done = cycle_ends.done
