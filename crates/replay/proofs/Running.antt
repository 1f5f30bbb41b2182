-- A run of starts: a start that is found keeps the rules, also where nobody has judged the records; behind it the rows fit again; and where a run
-- stands from start to start. Assumes nothing.
use mathlib.Core.Path.{◌≡◌, refl, sym, ◌∙◌, ap}
use mathlib.Core.Bool.{Bool, true, false}
use mathlib.Core.List.{List, [], ◌∷◌}
use Prim.Native.Nat.{ℕ, zero, suc, ◌+◌, ◌-◌, ◌≤◌, ◌<◌}
use native.Mathlib.Omega.{arith}
use native.Mathlib.Nat.{add-zero, zero-add, div-le_self, le_of_dvd, suc-mul}
use lib.ListN.{length, get_or, set, length-set}
use lib.Seq.{get_or-set_same, get_or-set_other}
use borrow.Author.Tests.{lt-leb}
use Rattle.rules.specs.declared.Entry.{Entry}
use Rattle.rules.specs.Tasks.{Set, limits, task, release, jobs, GoodSet}
use Rattle.rules.specs.Priority.{slot, start_job, setting}
use Rattle.rules.specs.Marks.{SL, size}
use Rattle.rules.specs.Image.{record_of, of_entry, written}
use Rattle.rules.specs.Offsets.{last_offset, lent, past_own, standing, next_is, next_start}
use Rattle.rules.proofs.Cases.{by_eq, differ, clash}
use Rattle.rules.proofs.Arrays.{slot_element}
use Rattle.rules.proofs.GoodSets.{good_rules, good_positive}
use Rattle.rules.proofs.Framed.{written_length}
use Rattle.rules.proofs.PriorityLaws.{StartKeepsRules, ends_in_cycle, slot_start_same, slot_start_other}
use Rattle.rules.proofs.ForcedIdle.{released_in_cycle}
use Rattle.rules.proofs.StuckStarts.{by_next}
use Rattle.rules.proofs.NextTurns.{next_keeps_rules}
use Rattle.decision.specs.declared.Found.{Found}
use Rattle.decision.specs.declared.Stuck.{Stuck}
use Rattle.std.specs.Prelude.{Ok, Err}
use Rattle.sets.proofs.SetKept.{time_kept, period_kept}
use Rattle.decision.specs.declared.Standing.{Standing}
use Rattle.sets.specs.declared.Kept.{Kept}
use Rattle.sets.specs.Kept.{tasks_in, hyperperiod_in, times_in, periods_in}
use Rattle.decision.specs.declared.Front.{Front}
use Rattle.decision.specs.Fits.{next_in, releases_in, offsets_in, Fits, Stands}
use Rattle.decision.specs.Next.{inverts, AllRead, Answer, stuck_number, numbered, next_case, next_of, next_at}
use Rattle.decision.proofs.Fitting.{is_hyperperiod}
use Rattle.writing.specs.Writing.{put_at, record_put}
use Rattle.writing.proofs.Puts.{put_length}
use Rattle.replay.specs.declared.Run.{Run}
use Rattle.replay.specs.Runs.{Ends, as_entry, start_first, wasted_by, stepped, InSlots, CanStep, behind, front_behind, ends_of, AllReadIn, run_from, entries_from, PutsOn, Ran, CanRun}
use Rattle.replay.proofs.Stores.{start_stores}

-- an answer is a start, or stuck with a number
pub by_answer : {A : Type 0} (a : Answer) → ((f : Found) → a ≡ Ok f → A) → ((number : ℕ) → a ≡ Err number → A) → A
by_answer (Ok f) start stop = start f refl
by_answer (Err number) start stop = stop number refl

-- a start that is answered is the rule book's, with what it used
pub record IsFound (ts : Set) (bytes x : List ℕ) (free : ℕ) (offsets : List ℕ) (idle : ℕ) (f : Found) : Type 0 where
  pub next : next_start (setting ts) (lent bytes ts) (standing x free offsets idle) ≡ next_is f.task f.start f.idle
  pub own : f.inversion ≡ past_own ((lent bytes ts).inversion_shown (slot offsets f.task)) f.task (slot x f.task) (slot offsets f.task)
  pub jumps : f.inverts ≡ inverts ts x f.start f.task

pub is_found : (ts : Set) (bytes x : List ℕ) (free : ℕ) (offsets : List ℕ) (idle : ℕ) (f : Found) → next_of ts bytes x free offsets idle ≡ Ok f →
    IsFound ts bytes x free offsets idle f
is_found ts bytes x free offsets idle f e =
    by_next (next_start (setting ts) (lent bytes ts) (standing x free offsets idle))
    (λ i t o q.
    let is : next_case ts bytes x offsets (next_is i t o) ≡ Ok f = rw q at e in
    let same : f ≡ record {
      task = i;
      start = t;
      idle = o;
      inversion = past_own ((lent bytes ts).inversion_shown (slot offsets i)) i (slot x i) (slot offsets i);
      inverts = inverts ts x t i;
    } = cc in
    rw same (record { next = q; own = refl; jumps = refl }))
    (λ m q. let other : Err m ≡ Ok f = rw q at e in clash (cc))

-- so it keeps the rules
pub answer_keeps : {ts : Set} {kept : Kept} {at : Standing} (bytes : List ℕ) (front : Front) (f : Found) → Fits ts kept at → next_at ts bytes at front ≡ Ok f →
    StartKeepsRules ts (hyperperiod_in kept) (next_in at) f.start f.task f.start
answer_keeps {ts} {kept} {at} bytes front f fits e =
    rw (is_hyperperiod fits)
    (next_keeps_rules bytes ts (standing (next_in at) front.free (offsets_in at) front.idle) f.task f.start f.idle
    (is_found ts bytes (next_in at) front.free (offsets_in at) front.idle f e).next)

-- numbers that the code reckons with at a start, and the rows behind it, which fit again
pub record StartFits (ts : Set) (kept : Kept) (at : Standing) (f : Found) : Type 0 where
  pub a_task : f.task < tasks_in kept
  pub one_more : get_or (next_in at) f.task 0 + 1 ≤ limits.ticks
  pub next_release : get_or (releases_in at) f.task 0 + (task ts f.task).period ≤ 131070
  pub by_end : f.start + (task ts f.task).time ≤ hyperperiod_in kept
  pub stands : Stands ts kept (behind ts at f) (front_behind ts f)

module _ {ts : Set} {kept : Kept} {at : Standing} (fits : Fits ts kept at) (slots : InSlots at) (i : ℕ) (a : i < tasks_in kept) where
  -- next job numbers, and their releases
  abbrev next : List ℕ
  next = next_in at

  abbrev releases : List ℕ
  releases = releases_in at

  -- the releases of next jobs, after a start
  releases_on : (j : ℕ) → j < tasks_in kept →
      slot (set releases i (get_or releases i 0 + (task ts i).period)) j ≡ release (task ts j) (slot (start_job next i) j)
  releases_on j l =
      by_eq j i
      (λ u. rw (u, slot_start_same next i, slot_element (set releases i (get_or releases i 0 + (task ts i).period)) i)
      (get_or-set_same releases i _ 0 (omega (arith, fits.set.few, slots.releases))
      ∙ omega (arith, slot_element releases i, fits.releases_there i a, suc-mul (slot next i) (task ts i).period)))
      (λ u. slot_element (set releases i (get_or releases i 0 + (task ts i).period)) j
      ∙ get_or-set_other releases i j _ 0 u
      ∙ sym (slot_element releases j)
      ∙ fits.releases_there j l
      ∙ rw (slot_start_other next i j u))

  -- the next job numbers, of a task with a job left
  counts_on : slot next i < jobs (hyperperiod_in kept) (task ts i) → (j : ℕ) → j < tasks_in kept →
      slot (start_job next i) j ≤ jobs (hyperperiod_in kept) (task ts j)
  counts_on left j l =
      by_eq j i (λ u. rw (u, slot_start_same next i) (omega arith)) (λ u. rw (slot_start_other next i j u) (fits.counts j l))

-- behind a start that keeps the rules the rows fit again
pub start_fits : {ts : Set} {kept : Kept} {at : Standing} {free : ℕ} (f : Found) → Fits ts kept at → InSlots at →
    StartKeepsRules ts (hyperperiod_in kept) (next_in at) free f.task f.start → StartFits ts kept at f
start_fits {ts} {kept} {at} {free} f fits slots keeps =
    let i : ℕ = f.task in
    let h : ℕ = hyperperiod_in kept in
    let good : GoodSet ts h = fits.set.good in
    let a : i < tasks_in kept = omega (arith, fits.set.n_tasks, keeps.a_task) in
    let stored : set (next_in at) i (get_or (next_in at) i 0 + 1) ≡ start_job (next_in at) i =
    start_stores (next_in at) i (omega (arith, fits.set.few, slots.next)) in
    let ends : f.start + (task ts i).time ≤ h = ends_in_cycle ts h (good_rules good) (next_in at) free i f.start keeps in
    record {
      a_task = a;
      one_more = omega (arith, slot_element (next_in at) i, keeps.left, div-le_self h (task ts i).period, good.short);
      next_release = omega (
        arith,
        slot_element (releases_in at) i,
        fits.releases_there i a,
        released_in_cycle h (task ts i) (slot (next_in at) i) (good_rules good i) keeps.left,
        le_of_dvd {m = (task ts i).period} {n = h} (good_positive good) (good.is_hyperperiod.common i keeps.a_task),
        good.short,
      );
      by_end = ends;
      stands = record {
        fits = record {
          set = fits.set;
          counts = λ j l. rw stored (counts_on fits slots i a keeps.left j l);
          releases_there = λ j l. rw stored (releases_on fits slots i a j l);
        };
        by_end = ends;
      };
    }

-- the rows behind a start are in their slots
pub slots_behind : (at : Standing) (f : Found) (release : ℕ) → InSlots at → InSlots (stepped at f release)
slots_behind at f release slots = record {
  next = length-set (next_in at) f.task _ ∙ slots.next;
  releases = length-set (releases_in at) f.task _ ∙ slots.releases;
  offsets = length-set (offsets_in at) f.task _ ∙ slots.offsets;
}

-- all offsets can be read at the first of decisions
first_read : (ts : Set) (bytes : List ℕ) (kept : Kept) (more : ℕ) (at : Standing) (front : Front) → AllReadIn ts bytes kept more at front →
    AllRead bytes ts kept at front.idle
unfolding AllReadIn
first_read ts bytes kept zero at front all = all
first_read ts bytes kept (suc more) at front all = all.0

-- a run from a point, by what is answered there
module _ (ts : Set) (bytes : List ℕ) (at : Standing) (front : Front) (wasted : ℕ) where
  -- no start: it has come to its end
  pub ends_stuck : (more number : ℕ) → next_at ts bytes at front ≡ Err number →
      ends_of ts bytes more at front wasted ≡ record { entries = []; wasted = wasted; last = Err number }
  unfolding ends_of
  ends_stuck zero number e = rw (e, ends_of)
  ends_stuck (suc more) number e = rw (e, ends_of)

  -- a start, and none behind it is wanted
  pub ends_last : (f : Found) → next_at ts bytes at front ≡ Ok f →
      ends_of ts bytes 0 at front wasted ≡ record { entries = as_entry f ∷ []; wasted = wasted_by at wasted f; last = Ok f }
  unfolding ends_of
  ends_last f e = rw (e, ends_of)

  -- a start before others
  pub ends_more : (more : ℕ) (f : Found) → next_at ts bytes at front ≡ Ok f →
      ends_of ts bytes (suc more) at front wasted ≡ start_first f (ends_of ts bytes more (behind ts at f) (front_behind ts f) (wasted_by at wasted f))
  unfolding ends_of
  ends_more more f e = rw (e, ends_of)

-- behind the output's end nothing is put
none_put : (τ : List Entry) (out : List ℕ) (place : ℕ) → length out ≤ place → entries_from out place τ ≡ out
unfolding entries_from put_at
none_put [] out place past = refl
none_put (e ∷ τ) out place past =
    let bytes : List ℕ = written (record_of SL (of_entry e)) in
    rw (lt-leb (place + length bytes) (length out) (omega (arith, written_length SL (of_entry e)))) (none_put τ out (place + size SL) (omega arith))

-- an entry is put
pub puts_entry : {out : List ℕ} {place : ℕ} {out' : List ℕ} {place' : ℕ} (f : Found) →
    out' ≡ record_put out place (record_of SL (of_entry (as_entry f))) → place' ≡ place + size SL → PutsOn out place out' place' f
unfolding entries_from
puts_entry {out} {place} f o p = rw (o, p) (record { same_length = put_length out place _; on = λ τ. refl })

-- or its place is behind the output's end
pub puts_none : (out : List ℕ) (place : ℕ) (f : Found) → length out ≤ place → PutsOn out place out place f
puts_none out place f past =
    record { same_length = refl; on = λ τ. none_put (as_entry f ∷ τ) out place past ∙ sym (none_put τ out place past) }

-- what a run tells that comes behind so many starts
abbrev told_behind : ℕ → Ends → ℕ × ℕ × Answer
told_behind made e = (made + length e.entries, e.wasted, e.last)

-- where a run stands that began at a point, with an output and a place in it, when so many starts are made: the rows fit, the offsets can be read in what
-- is left, and what is left comes to what the whole run comes to
pub record RunAt (ts : Set) (bytes : List ℕ) (judged : Bool) (kept : Kept) (first : Standing) (from : Front) (wanted : ℕ) (old : List ℕ)
    (at : Standing) (front : Front) (wasted : ℕ) (out : List ℕ) (place made : ℕ) : Type 0 where
  pub stands : Stands ts kept at front
  pub slots : 1 < wanted → InSlots at
  pub left : made ≤ wanted - 1
  pub read : judged ≡ true → AllReadIn ts bytes kept (wanted - 1 - made) at front
  pub same_length : length out ≡ length old
  pub told : told_behind made (ends_of ts bytes (wanted - 1 - made) at front wasted) ≡ told_behind 0 (run_from ts bytes first from wanted)
  pub put : entries_from out place (ends_of ts bytes (wanted - 1 - made) at front wasted).entries ≡ entries_from old 0 (run_from ts bytes first from wanted).entries

module _ {ts : Set} {bytes : List ℕ} {judged : Bool} {kept : Kept} {first : Standing} {from : Front} {wanted : ℕ} (can : CanRun ts bytes judged kept first from wanted)
    (old : List ℕ) where
  -- at its beginning
  pub run_begins : RunAt ts bytes judged kept first from wanted old first from last_offset old 0 0
  run_begins =
      let none : wanted - 1 - 0 ≡ wanted - 1 = omega arith in
      record {
        stands = can.stands;
        slots = can.slots;
        left = omega arith;
        read = rw none can.read;
        same_length = refl;
        told = rw none;
        put = rw none;
      }

  -- what the run is to tell and to leave in the output
  abbrev Ended : Run → List ℕ → Type 0
  Ended = Ran (run_from ts bytes first from wanted) old

  module _ {at : Standing} {front : Front} {wasted : ℕ} {out : List ℕ} {place made : ℕ}
      (r : RunAt ts bytes judged kept first from wanted old at front wasted out place made) where
    -- the offsets can be read
    pub run_reads : judged ≡ true → AllRead bytes ts kept at front.idle
    run_reads j = first_read ts bytes kept (wanted - 1 - made) at front (r.read j)

    -- it has come to its end
    ended : (r : Run) {out' : List ℕ} → (r.made, r.wasted, numbered r.last) ≡ told_behind 0 (run_from ts bytes first from wanted) →
        out' ≡ entries_from old 0 (run_from ts bytes first from wanted).entries → Ended r out'
    ended r told output = record {
      made = ap (λ (t : ℕ × ℕ × Answer). t.0) told ∙ zero-add _;
      wasted = ap (λ (t : ℕ × ℕ × Answer). t.1) told;
      last = ap (λ (t : ℕ × ℕ × Answer). t.2) told;
      output = output;
    }

    -- no start is found
    pub run_stuck : (reason : Stuck) → next_at ts bytes at front ≡ Err (stuck_number reason) →
        Ended (record { made = made; wasted = wasted; last = Err reason }) out
    unfolding entries_from
    run_stuck reason e =
        let is = ends_stuck ts bytes at front wasted (wanted - 1 - made) (stuck_number reason) e in
        let told : told_behind made (record { entries = []; wasted = wasted; last = Err (stuck_number reason) })
        ≡ told_behind 0 (run_from ts bytes first from wanted) = rw is at r.told in
        let put : entries_from out place [] ≡ entries_from old 0 (run_from ts bytes first from wanted).entries = rw is at r.put in
        ended _ (rw (add-zero made) at told) put

    module _ (f : Found) (e : next_at ts bytes at front ≡ Ok f) where
      -- a start that is found keeps the rules
      its_rules : StartKeepsRules ts (hyperperiod_in kept) (next_in at) f.start f.task f.start
      its_rules = answer_keeps bytes front f r.stands.fits e

      -- its task has a slot
      pub run_task : f.task < limits.tasks
      run_task = omega (arith, its_rules.a_task, r.stands.fits.set.n_tasks, r.stands.fits.set.few)

      -- it was the last that was wanted
      pub run_ends : {out' : List ℕ} {place' : ℕ} → PutsOn out place out' place' f → wanted ≤ made + 1 →
          Ended (record { made = made + 1; wasted = wasted_by at wasted f; last = Ok f }) out'
      unfolding entries_from
      run_ends puts enough =
          let none : wanted - 1 - made ≡ 0 = omega (arith, r.left) in
          let is = ends_last ts bytes at front wasted f e in
          ended _ (rw (none, is) at r.told) (sym (puts.on []) ∙ (rw (none, is) at r.put))

      module _ (more : made + 1 < wanted) where
        -- more are wanted: the numbers and rows
        run_start : StartFits ts kept at f
        run_start = start_fits f r.stands.fits (r.slots (omega arith)) its_rules

        -- it may be noted in the rows
        pub run_steps : CanStep kept at f
        run_steps =
            let on = run_start in
            record {
              slots = r.slots (omega arith);
              in_slots = run_task;
              free = omega (arith, on.by_end, time_kept r.stands.fits.set f.task on.a_task, r.stands.fits.set.good.short);
              counts = omega (arith, on.one_more);
              release = omega (arith, on.next_release, period_kept r.stands.fits.set f.task on.a_task);
            }

        -- where the run stands behind it
        run_behind : {out' : List ℕ} {place' : ℕ} → PutsOn out place out' place' f →
            RunAt ts bytes judged kept first from wanted old (behind ts at f) (front_behind ts f) (wasted_by at wasted f) out' place' (made + 1)
        unfolding AllReadIn
        run_behind puts =
            let rest : ℕ = wanted - 1 - (made + 1) in
            let others : Ends = ends_of ts bytes rest (behind ts at f) (front_behind ts f) (wasted_by at wasted f) in
            let left : wanted - 1 - made ≡ suc rest = omega arith in
            let is = ends_more ts bytes at front wasted rest f e in
            let told : told_behind made (start_first f others) ≡ told_behind 0 (run_from ts bytes first from wanted) = rw (left, is) at r.told in
            let counted : made + suc (length others.entries) ≡ made + 1 + length others.entries = omega arith in
            record {
              stands = run_start.stands;
              slots = λ l. slots_behind at f _ (r.slots l);
              left = omega arith;
              read = λ j. (rw left at (r.read j)).1 f e;
              same_length = puts.same_length ∙ r.same_length;
              told = rw counted at told;
              put = sym (puts.on others.entries) ∙ (rw (left, is) at r.put);
            }

        -- as the code notes it, with the time and the period that are kept
        pub run_on : {at' : Standing} {front' : Front} {wasted' : ℕ} {out' : List ℕ} {place' : ℕ} →
            at' ≡ stepped at f (get_or (releases_in at) f.task 0 + get_or (periods_in kept) f.task 0) →
            front' ≡ record { free = f.start + get_or (times_in kept) f.task 0; idle = f.idle } →
            wasted' ≡ wasted_by at wasted f → PutsOn out place out' place' f →
            RunAt ts bytes judged kept first from wanted old at' front' wasted' out' place' (made + 1)
        run_on noted reached is-wasted puts =
            let period = period_kept r.stands.fits.set f.task run_start.a_task in
            let time = time_kept r.stands.fits.set f.task run_start.a_task in
            let rows = ap (λ (k : ℕ). stepped at f (get_or (releases_in at) f.task 0 + k)) period in
            rw (noted ∙ rows, reached, time, is-wasted) (run_behind puts)

-- one start may run wherever the rows fit, for records that nobody has judged
pub one_may_run : {ts : Set} {kept : Kept} {at : Standing} {front : Front} (bytes : List ℕ) → Stands ts kept at front → CanRun ts bytes false kept at front 1
one_may_run bytes stands = record {
  stands = stands;
  slots = λ l. absurd (omega arith);
  read = λ j. differ (sym j);
}

-- its last answer is the next start
pub one_answer : (ts : Set) (bytes : List ℕ) (at : Standing) (front : Front) → (run_from ts bytes at front 1).last ≡ next_at ts bytes at front
one_answer ts bytes at front =
    by_answer (next_at ts bytes at front)
    (λ f e. rw (ends_last ts bytes at front last_offset f e) (sym e))
    (λ m e. rw (ends_stuck ts bytes at front last_offset 0 m e) (sym e))
