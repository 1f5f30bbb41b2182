-- The walk through a valid timetable's entries: what is added up from one to the next, and what it comes to. Assumes nothing.
use mathlib.Core.Path.{◌≡◌, refl, sym, ◌∙◌, ap, subst}
use mathlib.Core.Bool.{true}
use mathlib.Core.List.{List, [], ◌∷◌}
use mathlib.Core.Option.{Option, none, some}
use Prim.Native.Nat.{ℕ, suc, ◌+◌, ◌*◌, ◌-◌, ◌≤◌, ◌<◌}
use native.Mathlib.Omega.{arith}
use native.Mathlib.Numerals.{add-one}
use native.Mathlib.Nat.{sub-zero, suc-mul}
use lib.Dec.{eqb}
use lib.ListN.{length, get_or, set, replicate, length-set}
use lib.IntN.{ℤ, pos, ◌-ℤ◌}
use lib.Seq.{get_or-set_same, get_or-set_other}
use borrow.Author.Tests.{eq-eqb, ne_eqb}
use Rattle.rules.specs.declared.Entry.{Entry}
use Rattle.rules.specs.Tasks.{Set, limits, task, release, due, hyperperiod}
use Rattle.rules.specs.Timetable.{pick, entry_at}
use Rattle.rules.specs.Setting.{Setting, instant}
use Rattle.rules.specs.Priority.{slot, start_job, setting}
use Rattle.rules.specs.Marks.{SL, size}
use Rattle.rules.specs.Image.{head_length}
use Rattle.rules.specs.Ticks.{busy_ticks, forced_ticks}
use Rattle.rules.specs.Lateness.{lateness_at, larger, worst_among, worst_lateness}
use Rattle.rules.proofs.Cases.{by_bool, by_eq, by_nat}
use Rattle.rules.proofs.GoodSets.{good_rules, some_jobs}
use Rattle.rules.proofs.PriorityLaws.{StartKeepsRules, slot_empty, least_below, slot_start_same, slot_start_other}
use Rattle.rules.proofs.ValidTimetables.{no_fault_valid}
use Rattle.rules.proofs.TickFigures.{ticks_entrywise}
use Rattle.rules.proofs.PossibleStates.{none_left}
use Rattle.rules.proofs.Theory.{ValidFrom, finished}
use Rattle.rules.proofs.Positions.{Before, at_first, is_entry, at_next}
use Rattle.sets.specs.declared.Kept.{Kept}
use Rattle.sets.specs.Kept.{tasks_in, slack_in, first_in, Keeps}
use Rattle.sets.proofs.SetKept.{kept_good, slack_kept, first_kept, one_set}
use Rattle.timetables.specs.Entries.{entry_in, entries_at}
use Rattle.timetables.specs.Judged.{entries_behind, EntriesValid}
use Rattle.timetables.specs.Instants.{instant_of}
use Rattle.timetables.proofs.EntriesRead.{no_entry_left, entries_length}
use Rattle.timetables.proofs.Turns.{AtEntry, free_after, releases_after, its_release, turn_instant, freed}
use Rattle.timetables.proofs.ValidTurns.{ValidAt, first_left, entry_keeps, entry_task, entry_next, first_valid}
use Rattle.figures.specs.Times.{larger_of, worsened, TimesTold}
use Rattle.figures.proofs.Differences.{minus_both}

-- before entry j: what is added up, with what the entries left add to it, is the whole; and each task's worst among the entries so far is in its slot, where
-- the task has had a job
pub record WalkedTo (ts : Set) (bytes : List ℕ) (kept : Kept) (listed : ℕ) (releases : List ℕ) (worst : List ℤ) (busy forced free at j : ℕ) : Type 0 where
  pub next : List ℕ
  pub so_far : j ≤ listed
  pub walk : ValidAt ts bytes kept listed releases next free at j
  pub before : Before ts (hyperperiod ts) (entries_behind bytes ts listed) j next free (entries_at bytes at (listed - j))
  pub busy_is : busy + busy_ticks (setting ts) (entries_at bytes at (listed - j)) ≡ busy_ticks (setting ts) (entries_behind bytes ts listed)
  pub forced_is : forced + forced_ticks (setting ts) next free (entries_at bytes at (listed - j))
      ≡ forced_ticks (setting ts) [] 0 (entries_behind bytes ts listed)
  pub few : busy_ticks (setting ts) (entries_behind bytes ts listed) + forced_ticks (setting ts) [] 0 (entries_behind bytes ts listed) ≤ limits.ticks
  pub slots : length worst ≡ limits.tasks
  pub worst_is : (i : ℕ) → i < length ts.tasks →
      worst_among ts (entries_behind bytes ts listed) i j ≡ pick (eqb (slot next i) 0) none (some (get_or worst i (pos 0)))

-- the ticks of both kinds are no more than the cycle has
few_ticks : {ts : Set} {bytes : List ℕ} {kept : Kept} {listed : ℕ} → EntriesValid ts bytes kept listed →
    busy_ticks (setting ts) (entries_behind bytes ts listed) + forced_ticks (setting ts) [] 0 (entries_behind bytes ts listed) ≤ limits.ticks
few_ticks {ts} {bytes} {listed = listed} valid =
    let good = kept_good valid.stand.keeps in
    omega (arith, (ticks_entrywise good ((no_fault_valid ts (entries_behind bytes ts listed)).0 valid.no_fault)).inside, good.short)

-- before the first entry
pub walked_none : {ts : Set} {bytes : List ℕ} {kept : Kept} {listed : ℕ} {releases : List ℕ} {at : ℕ} → EntriesValid ts bytes kept listed →
    AtEntry ts kept releases [] at 0 → WalkedTo ts bytes kept listed releases (replicate 16 (pos 0)) 0 0 0 at 0
walked_none {ts} {bytes} {listed = listed} {at = at} valid here =
    let place : at ≡ head_length ts = omega (arith, here.place) in
    let all : entries_at bytes at (listed - 0) ≡ entries_behind bytes ts listed = rw (sub-zero listed, place) in
    record {
      next = [];
      so_far = omega arith;
      walk = first_valid valid here;
      before = rw all (at_first ts (hyperperiod ts) (entries_behind bytes ts listed));
      busy_is = rw all (omega arith);
      forced_is = rw all (omega arith);
      few = few_ticks valid;
      slots = refl;
      worst_is = λ i l. rw (slot_empty i);
    }

-- a worst so far and one more
larger_next : (k : ℕ) (o : Option ℤ) (w late : ℤ) → o ≡ pick (eqb k 0) none (some w) → larger o late ≡ larger_of (eqb k 0) w late
larger_next k o w late e = by_bool (eqb k 0) (λ b. rw (b, rw b at e)) (λ b. rw (b, rw b at e))

module _ {ts : Set} {bytes : List ℕ} {kept : Kept} {listed : ℕ} {releases : List ℕ} {worst : List ℤ} {busy forced free at j : ℕ}
    (w : WalkedTo ts bytes kept listed releases worst busy forced free at j) (more : j < listed) {e : Entry} (is : e ≡ entry_in bytes at) where
  abbrev τ : List Entry
  τ = entries_behind bytes ts listed

  -- the entries behind this one
  abbrev others : List Entry
  others = entries_at bytes (at + size SL) (listed - (j + 1))

  keeps : StartKeepsRules ts (hyperperiod ts) w.next free e.task e.start
  keeps = entry_keeps w.walk more is

  a_slot : e.task < tasks_in kept
  a_slot = entry_task w.walk more is

  its_place : Before ts (hyperperiod ts) τ j w.next free (e ∷ others)
  its_place = rw (first_left w.walk more is) at w.before

  is_left : entries_at bytes at (listed - j) ≡ e ∷ others
  is_left = first_left w.walk more is

  -- the latest start that keeps its job's deadline
  latest_is : get_or releases e.task 0 + get_or (slack_in kept) e.task 0
      ≡ release (task ts e.task) (slot w.next e.task) + ((task ts e.task).deadline - (task ts e.task).time)
  latest_is = omega (arith, its_release w.walk.here e.task a_slot, slack_kept w.walk.here.keeps e.task a_slot)

  -- its lateness, by its start and the latest start that keeps its deadline
  late_is : pos e.start -ℤ pos (get_or releases e.task 0 + get_or (slack_in kept) e.task 0) ≡ lateness_at ts τ j
  late_is =
      let t = task ts e.task in
      let k = slot w.next e.task in
      let here = is_entry ts (hyperperiod ts) τ its_place in
      let rule = good_rules (kept_good w.walk.here.keeps) e.task in
      let due-is : release t k + (t.deadline - t.time) + t.time ≡ due t k = omega (arith, rule.fits) in
      rw (here, ← (w.before.started e.task), latest_is, ← due-is) (sym (minus_both e.start (release t k + (t.deadline - t.time)) t.time))

  -- its job is its task's first where its release is still the first
  first_is : eqb (get_or releases e.task 0) (get_or (first_in kept) e.task 0) ≡ eqb (slot w.next e.task) 0
  first_is =
      let t = task ts e.task in
      let rule = good_rules (kept_good w.walk.here.keeps) e.task in
      let released = its_release w.walk.here e.task a_slot in
      let offset = first_kept w.walk.here.keeps e.task a_slot in
      by_nat (slot w.next e.task)
      (λ z. rw (eq-eqb (get_or releases e.task 0) (get_or (first_in kept) e.task 0) (omega (arith, ap (λ (k : ℕ). k * t.period) z)), eq-eqb (slot w.next e.task) 0 z))
      (λ k s. rw (
        ne_eqb (get_or releases e.task 0) (get_or (first_in kept) e.task 0) (λ q. omega (arith, ap (λ (m : ℕ). m * t.period) s, suc-mul k t.period, rule.takes_time, rule.fits, rule.within)),
        ne_eqb (slot w.next e.task) 0 (λ q. omega arith),
      ))

  -- the worst with it
  abbrev its_worst : ℤ
  its_worst = larger_of (eqb (get_or releases e.task 0) (get_or (first_in kept) e.task 0)) (get_or worst e.task (pos 0))
      (pos e.start -ℤ pos (get_or releases e.task 0 + get_or (slack_in kept) e.task 0))

  worst_own : (i : ℕ) → i ≡ e.task → worst_among ts τ i (suc j) ≡ some (larger (worst_among ts τ i j) (lateness_at ts τ j))
  worst_own i q = let here : (entry_at τ j).task ≡ i = ap (λ (x : Entry). x.task) (is_entry ts (hyperperiod ts) τ its_place) ∙ sym q in rw (eq-eqb _ _ here)

  worst_other : (i : ℕ) → (i ≡ e.task → ⊥) → worst_among ts τ i (suc j) ≡ worst_among ts τ i j
  worst_other i n = rw (ne_eqb (entry_at τ j).task i (λ q. n (sym q ∙ ap (λ (x : Entry). x.task) (is_entry ts (hyperperiod ts) τ its_place))))

  worst_more : (i : ℕ) → i < length ts.tasks →
      worst_among ts τ i (suc j) ≡ pick (eqb (slot (start_job w.next e.task) i) 0) none (some (get_or (set worst e.task its_worst) i (pos 0)))
  worst_more i l =
      let in-worst : e.task < length worst = omega (arith, w.slots, a_slot, w.walk.here.keeps.few) in
      by_eq i e.task
      (λ q.
      let many : slot (start_job w.next e.task) i ≡ suc (slot w.next i) = rw q (slot_start_same w.next e.task) in
      let with_it : larger (worst_among ts τ i j) (lateness_at ts τ j) ≡ its_worst =
      larger_next (slot w.next i) (worst_among ts τ i j) (get_or worst i (pos 0)) (lateness_at ts τ j) (w.worst_is i l)
      ∙ rw (q, first_is, ← late_is) in
      let stored : get_or (set worst e.task its_worst) i (pos 0) ≡ its_worst = rw q (get_or-set_same worst e.task its_worst (pos 0) in-worst) in
      worst_own i q ∙ ap some (with_it ∙ sym stored) ∙ rw (many, ne_eqb (suc (slot w.next i)) 0 (λ z. omega arith)))
      (λ n. worst_other i n ∙ w.worst_is i l ∙ rw (slot_start_other w.next e.task i n, get_or-set_other worst e.task i its_worst (pos 0) n))

  -- the sums with it
  instant_here : instant_of (tasks_in kept) releases free ≡ instant (setting ts) w.next free
  instant_here = turn_instant w.walk.here e keeps

  pub waits_from : instant_of (tasks_in kept) releases free ≤ e.start
  waits_from =
      omega (arith, instant_here, keeps.free, keeps.released, least_below (hyperperiod ts) ts.tasks w.next e.task keeps.a_task keeps.left)

  forced_more : forced + (e.start - instant_of (tasks_in kept) releases free)
      + forced_ticks (setting ts) (start_job w.next e.task) (free_after kept e) others ≡ forced_ticks (setting ts) [] 0 τ
  forced_more =
      let here : forced_ticks (setting ts) w.next free (entries_at bytes at (listed - j))
      ≡ (e.start - instant (setting ts) w.next free) + forced_ticks (setting ts) (start_job w.next e.task) (free_after kept e) others =
      ap (forced_ticks (setting ts) w.next free) is_left ∙ rw (freed w.walk.here e keeps) in
      omega (arith, w.forced_is, here, instant_here)

  walked_more : WalkedTo ts bytes kept listed (releases_after kept releases e) (set worst e.task its_worst) (busy + (free_after kept e - e.start))
      (forced + (e.start - instant_of (tasks_in kept) releases free)) (free_after kept e) (at + size SL) (j + 1)
  walked_more = record {
    next = start_job w.next e.task;
    so_far = omega arith;
    walk = entry_next w.walk more is;
    before = subst (λ (k : ℕ). Before ts (hyperperiod ts) τ k (start_job w.next e.task) (free_after kept e) others) (sym (add-one j))
        (rw (freed w.walk.here e keeps) at (at_next ts (hyperperiod ts) τ its_place));
    busy_is = omega (arith, w.busy_is, ap (busy_ticks (setting ts)) is_left, freed w.walk.here e keeps);
    forced_is = forced_more;
    few = w.few;
    slots = length-set worst e.task its_worst ∙ w.slots;
    worst_is = λ i l. ap (worst_among ts τ i) (add-one j) ∙ worst_more i l;
  }

  -- as it is told by the functions that are called
  pub walked_on : {worse : List ℤ} {t : ℕ} →
      worse ≡ worsened worst e.task (eqb (get_or releases e.task 0) (get_or (first_in kept) e.task 0))
      (pos e.start -ℤ pos (get_or releases e.task 0 + get_or (slack_in kept) e.task 0)) →
      t ≡ instant_of (tasks_in kept) releases free →
      WalkedTo ts bytes kept listed (releases_after kept releases e) worse (busy + (free_after kept e - e.start)) (forced + (e.start - t)) (free_after kept e)
      (at + size SL) (j + 1)
  walked_on l n = rw (n, l) walked_more

-- behind the last entry all jobs have started
all_done : {G : Setting} {x : G.Started} {f : ℕ} → ValidFrom G x f [] → G.all_started x ≡ true
all_done (finished e) = e

module _ {ts : Set} {bytes : List ℕ} {kept : Kept} {listed : ℕ} {releases : List ℕ} {worst : List ℤ} {busy forced free at j : ℕ}
    (w : WalkedTo ts bytes kept listed releases worst busy forced free at j) (done : listed ≤ j) where
  all_seen : entries_at bytes at (listed - j) ≡ []
  all_seen = no_entry_left bytes at listed j done

  -- every task has had a job
  had_jobs : (i : ℕ) → i < length ts.tasks → 1 ≤ slot w.next i
  had_jobs i l =
      let ended = subst (λ (σ : List Entry). ValidFrom (setting ts) w.next free σ) all_seen w.walk.valid in
      omega (arith, none_left (hyperperiod ts) ts w.next (all_done ended) i l, some_jobs (kept_good w.walk.here.keeps) i l)

  worst_told : (i : ℕ) → i < length ts.tasks → worst_lateness ts (entries_behind bytes ts listed) i ≡ get_or worst i (pos 0)
  unfolding worst_lateness
  worst_told i l =
      let all : length (entries_behind bytes ts listed) ≡ j = omega (arith, entries_length bytes (head_length ts) listed, w.so_far) in
      rw (all, w.worst_is i l, ne_eqb (slot w.next i) 0 (λ z. omega (arith, had_jobs i l)))

  -- of the only set that the rows are kept of
  pub walked_all : {us : Set} → Keeps us kept → TimesTold us (entries_behind bytes us listed) (record { busy = busy; forced = forced; worst = worst })
  walked_all keeps = rw (one_set keeps w.walk.all.keeps) (record {
    busy = omega (arith, w.busy_is, ap (busy_ticks (setting ts)) all_seen);
    forced = omega (arith, w.forced_is, ap (forced_ticks (setting ts) w.next free) all_seen);
    slots = w.slots;
    worst = λ i l. sym (worst_told i l);
  })
