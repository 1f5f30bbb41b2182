-- A turn of a walk through a timetable's entries: what the array of next releases holds before and after an entry that breaks no rule, its bounds, and
-- what the entry adds to the tables. Assumes nothing.
use Rattle.std.proofs.Common.{◌≡◌, ℕ, suc, ◌+◌, ◌-◌, ◌*◌, ◌<◌, ◌≤◌, true, false, List, [], ◌∷◌, length, get_or, take, set, sym, refl, ap, ◌∙◌, arith, length-set, get_or-take, take-take, le-ltb, lt-ltb}
use Rattle.std.specs.Prelude.{nat_lt, MatchOption}
use Rattle.std.specs.List.{position}
use lib.Seq.{take-set-lt}
use Rattle.rules.specs.declared.Entry.{Entry}
use Rattle.rules.specs.declared.Inversion.{Inversion}
use Rattle.rules.specs.Tasks.{Set, limits, no_task, task, release, hyperperiod, GoodSet}
use Rattle.rules.specs.Setting.{Setting, instant}
use Rattle.rules.specs.Priority.{slot, start_job, entry_breaks as breaks, setting}
use Rattle.rules.specs.Marks.{SL, size}
use Rattle.rules.specs.Image.{head_length}
use Rattle.rules.specs.Irregularities.{runs, forced_idles, inversion_of, inversions}
use Rattle.rules.specs.Judging.{missing_from}
use Rattle.rules.proofs.Cases.{by_le}
use Rattle.rules.proofs.GoodSets.{good_rules}
use Rattle.rules.proofs.PriorityLaws.{StartKeepsRules, due_in_cycle}
use Rattle.rules.proofs.Pairs.{inversion_path}
use Rattle.rules.proofs.Writable.{insert_length}
use Rattle.sets.specs.declared.Kept.{Kept}
use Rattle.sets.specs.Kept.{tasks_in, hyperperiod_in, times_in, periods_in, slack_in, first_in, Keeps}
use Rattle.timetables.specs.Walks.{next_releases, entry_breaks}
use Rattle.timetables.specs.Counted.{task_inversions}
use Rattle.timetables.specs.Instants.{instant_of, inverts}
use Rattle.timetables.proofs.Releases.{releases_length, good_releases, release_in_slot, release_stored, release_follows, release_in_cycle}
use Rattle.timetables.proofs.StartRules.{number_of, breaks_no_task, breaks_of_task, lowest_missing}
use Rattle.sets.proofs.SetKept.{kept_cycle, kept_good, slack_kept, time_kept, period_kept, period_short}
use Rattle.timetables.proofs.FirstReleases.{first_releases}
use Rattle.timetables.proofs.OwnInversions.{other_task, regular, inverted}
use Rattle.timetables.proofs.Instants.{instant_is, lower_inverts, none_lower_runs, some_left, is_waiting, idle_before, no_idle_before}

-- before entry j, at its byte offset: what is kept of the set, what has started, and the releases of the next jobs
pub record AtEntry (ts : Set) (kept : Kept) (releases next : List ℕ) (at j : ℕ) : Type 0 where
  pub keeps : Keeps ts kept
  pub slots : length releases ≡ 16
  pub releases_are : take (tasks_in kept) releases ≡ next_releases ts.tasks next
  pub place : at ≡ head_length ts + j * size SL

-- before the first entry nothing has started
pub at_first : {ts : Set} {kept : Kept} {at : ℕ} → Keeps ts kept → at ≡ head_length ts → AtEntry ts kept (first_in kept) [] at 0
at_first keeps first = record { keeps = keeps; slots = keeps.first_slots; releases_are = first_releases keeps; place = omega arith }

-- the instant from which the processor is free after an entry, and the releases of the next jobs then
abbrev pub free_after : Kept → Entry → ℕ
free_after kept e = e.start + get_or (times_in kept) e.task 0

abbrev pub releases_after : Kept → List ℕ → Entry → List ℕ
releases_after kept releases e = set releases e.task (get_or releases e.task 0 + get_or (periods_in kept) e.task 0)

-- a start that breaks no rule, by its task's slots: its job is released, and no sum is large
pub record GoodStart (kept : Kept) (releases : List ℕ) (e : Entry) : Type 0 where
  pub a_task : e.task < tasks_in kept
  pub a_slot : e.task < 16
  pub is_released : get_or releases e.task 0 ≤ e.start
  pub release_fits : get_or releases e.task 0 + get_or (periods_in kept) e.task 0 ≤ 2 * limits.ticks
  pub latest_fits : get_or releases e.task 0 + get_or (slack_in kept) e.task 0 ≤ limits.ticks
  pub end_fits : free_after kept e ≤ limits.ticks

module _ {ts : Set} {kept : Kept} {releases next : List ℕ} {at j : ℕ} (w : AtEntry ts kept releases next at j) where
  -- the set's cycle
  abbrev h : ℕ
  h = hyperperiod ts

  -- its setting
  abbrev G : Setting
  G = setting ts

  -- the set is good
  good : GoodSet ts h
  good = kept_good w.keeps

  -- a task's slot holds the release of its next job
  pub its_release : (i : ℕ) → i < tasks_in kept → get_or releases i 0 ≡ release (task ts i) (slot next i)
  its_release i l =
      sym (get_or-take (tasks_in kept) releases i 0 l)
      ∙ ap (λ (rs : List ℕ). get_or rs i 0) w.releases_are
      ∙ release_in_slot ts.tasks next i no_task (omega (arith, w.keeps.n_tasks))

  -- what an entry breaks, by its task's slots
  pub breaks_in_slots : (f : ℕ) (e : Entry) → breaks ts h next f e.task e.start ≡ number_of (entry_breaks kept releases f e)
  breaks_in_slots f e =
      by_le (tasks_in kept) e.task
      (λ past. rw (le-ltb e.task (tasks_in kept) past) (breaks_no_task ts h next f e.task e.start (omega (arith, w.keeps.n_tasks))))
      (λ l. rw (lt-ltb e.task (tasks_in kept) l, kept_cycle w.keeps, slack_kept w.keeps e.task l, its_release e.task l)
      (breaks_of_task ts h next f e.task e.start (good_releases good) (good_rules good e.task) (omega (arith, w.keeps.n_tasks))))

  -- what a search of the slots for a release in the cycle finds: the lowest task with a job missing
  pub missing_in_slots : MatchOption (position (λ r. nat_lt r (hyperperiod_in kept)) (take (tasks_in kept) releases))
      (length ts.tasks ≤ missing_from 0 h ts.tasks next) (λ i. (i < length ts.tasks) × (i ≡ missing_from 0 h ts.tasks next))
  missing_in_slots =
      let lowest = missing_from 0 h ts.tasks next in
      rw (kept_cycle w.keeps, w.releases_are, lowest_missing h ts.tasks next (good_releases good), releases_length ts.tasks next)
      (by_le (length ts.tasks) lowest (λ le. rw (le-ltb lowest (length ts.tasks) le) le) (λ lt. rw (lt-ltb lowest (length ts.tasks) lt) (lt, refl)))

  module _ {f : ℕ} (e : Entry) (keeps : StartKeepsRules ts h next f e.task e.start) where
    -- the entry is of a task
    pub turn_task : e.task < tasks_in kept
    turn_task = omega (arith, keeps.a_task, w.keeps.n_tasks)

    -- the next job numbers after the entry
    abbrev next_after : List ℕ
    next_after = start_job next e.task

    -- its job ends when the processor is free again
    pub freed : e.start + (task ts e.task).time ≡ free_after kept e
    freed = ap (λ (c : ℕ). e.start + c) (sym (time_kept w.keeps e.task turn_task))

    -- what its start means for its slots
    pub turn_good : GoodStart kept releases e
    turn_good =
        let t = task ts e.task in
        let k = slot next e.task in
        let rule = good_rules good e.task in
        let is = its_release e.task turn_task in
        let period = period_kept w.keeps e.task turn_task in
        record {
          a_task = turn_task;
          a_slot = omega (arith, turn_task, w.keeps.few);
          is_released = omega (arith, is, keeps.released);
          release_fits = omega (arith, is, period, period_short w.keeps e.task turn_task, good.short, release_in_cycle h t k rule keeps.left);
          latest_fits = omega (arith, is, slack_kept w.keeps e.task turn_task, due_in_cycle h k t rule keeps.left, rule.fits, good.short);
          end_fits = omega (arith, freed, keeps.in_time, due_in_cycle h k t rule keeps.left, good.short);
        }

    -- the walk at the next entry
    pub turn_next : AtEntry ts kept (releases_after kept releases e) next_after (at + size SL) (j + 1)
    turn_next =
        let t = task ts e.task in
        let v = get_or releases e.task 0 + get_or (periods_in kept) e.task 0 in
        let later : v ≡ release t (suc (slot next e.task)) =
        omega (arith, its_release e.task turn_task, period_kept w.keeps e.task turn_task, release_follows t (slot next e.task)) in
        record {
          keeps = w.keeps;
          slots = length-set releases e.task v ∙ w.slots;
          releases_are = take-set-lt (tasks_in kept) releases e.task v turn_task
              ∙ rw (w.releases_are, later) (release_stored ts.tasks next e.task no_task keeps.a_task);
          place = omega (arith, w.place);
        }

    -- the instant of decision
    pub turn_instant : instant_of (tasks_in kept) releases f ≡ instant G next f
    turn_instant = rw w.releases_are
        (instant_is ts h next (good_releases good) f (omega (arith, good.short)) (some_left ts h e [] keeps (good_rules good e.task)))

    -- the releases of lower tasks stand before the entry's own
    lower_releases_are : take e.task releases ≡ take e.task (next_releases ts.tasks next)
    lower_releases_are = sym (take-take e.task (tasks_in kept) releases (omega (arith, turn_task))) ∙ ap (take e.task) w.releases_are

    -- the start is an instant of the cycle
    in_cycle : e.start < h
    in_cycle =
        let rule = good_rules good e.task in
        omega (arith, keeps.in_time, due_in_cycle h (slot next e.task) (task ts e.task) rule keeps.left, rule.takes_time)

    -- where a lower task's release has come, the baseline would not make the start
    inverted_start : inverts releases e ≡ true → runs (G.baseline next e.start) e.task ≡ false
    inverted_start b = lower_inverts ts h next (good_releases good) e.start e.task in_cycle keeps.a_task (rw lower_releases_are at b)

    -- where none has, it would
    regular_start : inverts releases e ≡ false → runs (G.baseline next e.start) e.task ≡ true
    regular_start b =
        none_lower_runs ts h next (good_releases good) e.start e.task in_cycle keeps.a_task (is_waiting ts h e [] keeps)
        (rw lower_releases_are at b)

    -- the record of the entry
    abbrev turn_record : Inversion
    turn_record = record { task = e.task; job = slot next e.task; delay = e.start - get_or releases e.task 0 }

    -- is the one that the rule book gives it
    its_record : inversion_of G next e ≡ turn_record
    its_record = inversion_path (inversion_of G next e) turn_record refl refl (rw (its_release e.task turn_task))

    module _ (σ : List Entry) where
      -- a forced idle before the entry
      pub turn_idle : (t : ℕ) → t ≡ instant_of (tasks_in kept) releases f → t < e.start →
          forced_idles G next f (e ∷ σ) ≡ record { start = t; length = e.start - t } ∷ forced_idles G next_after (free_after kept e) σ
      turn_idle t is lt = rw (← freed) (idle_before ts h e σ keeps t (is ∙ turn_instant) lt)

      -- or none
      pub turn_no_idle : (t : ℕ) → t ≡ instant_of (tasks_in kept) releases f → e.start ≤ t →
          forced_idles G next f (e ∷ σ) ≡ forced_idles G next_after (free_after kept e) σ
      turn_no_idle t is le = rw (← freed) (no_idle_before ts h e σ keeps t (is ∙ turn_instant) le)

      -- an inversion of the entry's task
      pub turn_inverted : inverts releases e ≡ true →
          task_inversions G e.task next (e ∷ σ) ≡ turn_record ∷ task_inversions G e.task next_after σ
      turn_inverted b = rw (← its_record) (inverted ts h next e σ (inverted_start b))

      -- of no other task
      pub turn_others : (k : ℕ) → (k ≡ e.task → ⊥) → task_inversions G k next (e ∷ σ) ≡ task_inversions G k next_after σ
      turn_others k other = other_task ts h k next e σ other

      -- or of none
      pub turn_regular : inverts releases e ≡ false → (k : ℕ) →
          task_inversions G k next (e ∷ σ) ≡ task_inversions G k next_after σ
      turn_regular b k = regular ts h next e σ (regular_start b) k

      -- there is one inversion more in all
      pub one_more : inverts releases e ≡ true →
          length (inversions G next (e ∷ σ)) ≡ suc (length (inversions G next_after σ))
      one_more b = rw (inverted_start b) (insert_length (inversion_of G next e) (inversions G next_after σ))

      -- or none more
      pub no_more : inverts releases e ≡ false → length (inversions G next (e ∷ σ)) ≡ length (inversions G next_after σ)
      no_more b = rw (regular_start b)
