-- A decision that uses no idle record: the task chosen by slots and bits is the rule book's, and so is what is answered of it. Assumes nothing.
use Rattle.std.specs.Prelude.{Ok, Err}
use mathlib.Core.Path.{◌≡◌, sym, ◌∙◌, ap}
use mathlib.Core.Bool.{true, false}
use mathlib.Core.List.{List}
use mathlib.Core.Option.{Option}
use Prim.Native.Nat.{ℕ, suc, ◌+◌, ◌-◌, ◌≤◌, ◌<◌}
use native.Mathlib.Omega.{arith}
use lib.Dec.{leb}
use lib.Count.{count_trailing_zeros}
use lib.ListN.{length, get_or}
use borrow.Author.Tests.{leb-true, le-ltb, le-leb, lt-leb}
use Rattle.rules.specs.Tasks.{Set, task, hyperperiod, KeepsItsRule}
use Rattle.rules.specs.Setting.{lowest}
use Rattle.rules.specs.Priority.{slot, late, waiting, entry_breaks, setting}
use Rattle.rules.specs.Decision.{Choice, start_task, recorded}
use Rattle.rules.specs.DecisionRule.{Waiting}
use Rattle.rules.specs.Irregularities.{runs}
use Rattle.rules.specs.Marks.{PV, size}
use Rattle.rules.specs.Offsets.{last_offset, lent, past_own, idle_now, standing, all_readable}
use Rattle.rules.proofs.Cases.{by_bool, by_option, by_eq, by_le, by_nat, both_in, clash, differ}
use Rattle.rules.proofs.PriorityLaws.{keeps_rules, breaks_none, waits_later, ends_in_cycle, setting_laws}
use Rattle.rules.proofs.Steps.{decide_waits}
use Rattle.rules.proofs.Arrays.{slot_element}
use Rattle.rules.proofs.GoodSets.{good_rules}
use Rattle.rules.proofs.Lowest.{lowest_from_some, lowest_from_below, below_lowest, none_lowest}
use Rattle.rules.proofs.LateJobs.{waits_keeps, ends_late}
use Rattle.rules.proofs.Inversions.{lower_waits, not_run}
use Rattle.rules.proofs.Starts.{lowest_from_same}
use Rattle.rules.proofs.NextTurns.{shown_choice, idle_ends, next_starts, next_refused, next_past, by_one_turn}
use Rattle.decision.specs.declared.Chosen.{Chosen}
use Rattle.decision.specs.declared.Standing.{Standing}
use Rattle.sets.specs.declared.Kept.{Kept}
use Rattle.sets.specs.Kept.{tasks_in, hyperperiod_in, slack_in}
use Rattle.decision.specs.Fits.{next_in, releases_in, offsets_in}
use Rattle.decision.specs.Waiting.{mask_of, come_by, clear_bit, task_number}
use Rattle.decision.specs.declared.Idled.{Idled}
use Rattle.decision.specs.Next.{Answer, inverts, next_case, next_of, past_if, delays_in, choice_of, Choosing, IsChosen, StartsAt}
use Rattle.decision.proofs.Masks.{other_than, same_fails, other_kept, lowest_other, lowest_number}
use Rattle.decision.proofs.Fitting.{is_hyperperiod, a_task, left_before, waits_as}
use Rattle.decision.proofs.Looking.{recorded_come, past_if_own, own_room}

-- a decision that uses no idle record, before the end of the cycle or at it
module _ {ts : Set} {bytes : List ℕ} {kept : Kept} {at : Standing} {f : ℕ} {d : Idled} (s : StartsAt ts bytes kept at f d) where
  -- the instant, and the ID offset
  abbrev t : ℕ
  t = d.start

  abbrev o : ℕ
  o = d.idle

  -- the number of tasks and the hyperperiod, D − C, next job numbers, their releases and the tasks' offsets
  abbrev n : ℕ
  n = tasks_in kept

  abbrev h : ℕ
  h = hyperperiod_in kept

  abbrev slack : List ℕ
  slack = slack_in kept

  abbrev x : List ℕ
  x = next_in at

  abbrev releases : List ℕ
  releases = releases_in at

  abbrev offsets : List ℕ
  offsets = offsets_in at

  -- the hyperperiod, as the rule book works it out
  abbrev H : ℕ
  H = hyperperiod ts

  -- the next start that the rule book answers
  abbrev answered : Answer
  answered = next_of ts bytes x f offsets o

  -- what the rule book decides
  abbrev decided : Choice
  decided = shown_choice (setting ts) (lent bytes ts) (standing x f offsets o) t

  -- the delay that each task's offset shows for its next job
  abbrev delay : ℕ → Option ℕ
  delay = delays_in ts bytes x offsets

  -- every task keeps its own rule
  keep : (j : ℕ) → KeepsItsRule (task ts j)
  keep = good_rules s.fits.set.good

  -- the hyperperiod that is given is that one
  same : h ≡ H
  same = is_hyperperiod s.fits

  -- all offsets can be read
  all_read : all_readable (setting ts) (lent bytes ts) offsets o ≡ true
  all_read = both_in _ _ s.idle_read (rw s.fits.set.n_tasks at s.tasks_read)

  -- a task that is refused
  refused : (i : ℕ) → decided ≡ start_task i → (setting ts).breaks_in_replay x t i t ≡ 18 → Err 18 ≡ answered
  refused i d e = ap (next_case ts bytes x offsets) (sym (next_refused bytes ts (standing x f offsets o) t s.is_instant i 17 all_read d e))

  -- at the end of the cycle nothing starts
  pub none_at_end : h ≤ t → Err 18 ≡ answered
  none_at_end past =
      by_one_turn bytes ts (standing x f offsets o) t s.is_instant (λ a. differ (sym all_read ∙ a))
      (λ l a d. absurd (omega (arith, same, idle_ends bytes ts (standing x f offsets o) t s.is_instant l d)))
      (λ i a d e.
      let keeps = keeps_rules ts H x t i t ((setting_laws ts H keep).replay_refuses x t i t e) in
      absurd (omega (arith, same, (keep i).takes_time, ends_in_cycle ts H keep x t i t keeps)))
      (λ i number a d e.
      by_nat (entry_breaks ts H x t i t) (λ z. let g : late 0 ≡ suc number = sym (ap late z) ∙ e in clash (cc)) (λ m z. refused i d (ap late z)))
      (λ r a d.
      let later : t < r = waits_later ts H x t r (decide_waits (setting ts) x t (idle_now ((lent bytes ts).idle_shown o) t) delay r d) in
      ap (next_case ts bytes x offsets) (sym (next_past bytes ts (standing x f offsets o) t s.is_instant r a d (omega (arith, same)))))

  module _ (before : t < h) where
    -- the lowest task with a record for this instant
    recorded_same : lowest (length ts.tasks) (recorded (setting ts) delay x t) ≡ lowest n (recorded (setting ts) delay x t)
    recorded_same = rw s.fits.set.n_tasks

    -- a task waits from its release on
    waits_same : (j : ℕ) → j < length ts.tasks → waiting ts H x t j ≡ come_by releases t j
    waits_same j l = rw same at (waits_as s.fits j (omega (arith, s.fits.set.n_tasks)) t before)

    -- the lowest waiting task
    waiting_same : lowest (length ts.tasks) (waiting ts H x t) ≡ lowest n (come_by releases t)
    waiting_same =
        rw s.fits.set.n_tasks (lowest_from_same (length ts.tasks) 0 (waiting ts H x t) (come_by releases t) (λ j l. waits_same j (omega arith)))

    -- 16 tasks at most
    few : n ≤ 16
    few = s.fits.set.few

    module _ {mask : ℕ} (is_mask : mask ≡ mask_of n (come_by releases t)) where
      -- its task is looked for
      pub choosing : Choosing ts bytes kept at t mask
      choosing = record {
        fits = s.fits;
        tasks_read = s.tasks_read;
        before_end = before;
        is_mask = is_mask;
      }

      -- the task that is looked for
      abbrev looked_for : ℕ
      looked_for = choice_of ts n bytes x offsets t mask

      -- it has come and is the rule book's choice; or there is none
      by_chosen : {A : Type 0} → ((i : ℕ) → looked_for ≡ i → i < n → slot releases i ≤ t → decided ≡ start_task i → A) →
          (looked_for ≡ 16 → decided ≡ start_task (length ts.tasks) → A) → A
      by_chosen starts none-come =
          by_option (lowest n (recorded (setting ts) delay x t))
          (λ e.
          let choice : looked_for ≡ task_number (lowest n (come_by releases t)) = rw e (lowest_number n (come_by releases t) few is_mask) in
          by_option (lowest n (come_by releases t)) (λ g. none-come (choice ∙ ap task_number g) (rw (s.no_idle, recorded_same, e, waiting_same, g)))
          (λ i g.
          starts i (choice ∙ ap task_number g) (omega (arith, lowest_from_below n 0 (come_by releases t) i g))
          (leb-true (slot releases i) t (lowest_from_some n 0 (come_by releases t) i g)) (rw (s.no_idle, recorded_same, e, waiting_same, g))))
          (λ i e.
          let below : i < n = omega (arith, lowest_from_below n 0 (recorded (setting ts) delay x t) i e) in
          starts i (rw e) below (recorded_come s.fits delay t i below (lowest_from_some n 0 (recorded (setting ts) delay x t) i e))
          (rw (s.no_idle, recorded_same, e)))

      module _ {c : Chosen} (is-chosen : IsChosen ts bytes kept at t mask c) where
        -- no task is chosen
        pub none_chosen : n ≤ c.task → Err 18 ≡ answered
        none_chosen past =
            by_chosen (λ i q l come d. absurd (omega (arith, is-chosen.is_task)))
            (λ q d. refused (length ts.tasks) d (rw (le-ltb (length ts.tasks) (length ts.tasks) (omega arith))))

        -- the task that is chosen
        abbrev i : ℕ
        i = c.task

        module _ (l : i < n) where
          -- it waits, and the rule book starts it
          by_waiting : {A : Type 0} → (slot releases i ≤ t → decided ≡ start_task i → A) → A
          by_waiting go =
              by_chosen (λ j q m come d. let e : j ≡ i = sym q ∙ sym is-chosen.is_task in go (rw e at come) (rw e at d))
              (λ q d. absurd (omega (arith, few, is-chosen.is_task)))

          -- its release has come
          pub chosen_come : get_or releases i 0 ≤ t
          chosen_come = by_waiting (λ come d. omega (arith, slot_element releases i))

          -- its job would end late
          pub chosen_late : get_or slack i 0 < t - get_or releases i 0 → Err 18 ≡ answered
          chosen_late over =
              by_waiting
              (λ come d.
              refused i d
              (ends_late ts H x t i
              (omega (
                arith,
                slot_element slack i,
                slot_element releases i,
                s.fits.set.slack_there i l,
                s.fits.releases_there i l,
                (keep i).fits,
              ))))

          -- it waits
          chosen_waits : slot releases i ≤ t → Waiting ts H x t i
          chosen_waits come = record {
            a_task = a_task s.fits l;
            left = rw same at (left_before s.fits i l (omega arith));
            released = omega (arith, s.fits.releases_there i l);
          }

          -- the rule book runs another exactly where, with the task's own bit cleared, one is left that is not above it
          lower_inverts : slot releases i ≤ t → leb (count_trailing_zeros 16 (clear_bit mask i)) i ≡ inverts ts x t i
          lower_inverts come =
              rw (is_mask, lowest_other n i (come_by releases t) few (omega (arith, few)))
              (by_option (lowest n (other_than i (come_by releases t)))
              (λ e. rw (e, lt-leb 16 i (omega (arith, few)))
              (is_run (λ j k w. differ (sym w ∙ none_lowest n 0 (other_than i (come_by releases t)) e j (omega arith) (omega arith)))))
              (λ j e.
              let left : other_than i (come_by releases t) j ≡ true = lowest_from_some n 0 _ j e in
              by_le j i
              (λ at_most. by_eq j i (λ own. differ (sym (rw own at left) ∙ same_fails i (come_by releases t)))
              (λ other.
              let below : j < i = omega arith in
              rw (e, le-leb j i at_most, not_run ts H x t i (a_task s.fits l) j below (lower_waiting j below left))))
              (λ above. rw (e, lt-leb j i above)
              (is_run (λ m k w. differ (sym w ∙ below_lowest n 0 (other_than i (come_by releases t)) j e m (omega arith) (omega arith)))))))
            where
              -- a lower task that has come waits
              lower_waiting : (j : ℕ) → j < i → other_than i (come_by releases t) j ≡ true → waiting ts H x t j ≡ true
              lower_waiting j k w =
                  waits_same j (omega (arith, s.fits.set.n_tasks)) ∙ sym (other_kept i (come_by releases t) j (λ e. omega arith)) ∙ w

              -- where no lower one has come, the task is run
              is_run : ((j : ℕ) → j < i → other_than i (come_by releases t) j ≡ true → ⊥) → false ≡ inverts ts x t i
              is_run none_lower =
                  by_bool (runs ((setting ts).baseline x t) i) (λ b. rw b)
                  (λ b.
                  let w = lower_waits ts H x t i (a_task s.fits l) (waits_same i (a_task s.fits l) ∙ le-leb (slot releases i) t come) b in
                  absurd
                  (none_lower w.0 w.1
                  (other_kept i (come_by releases t) w.0 (λ e. omega (arith, w.1))
                  ∙ sym (waits_same w.0 (omega (arith, w.1, s.fits.set.n_tasks)))
                  ∙ w.2)))

          -- behind its own record there is room
          pub chosen_room : c.own ≡ true → get_or offsets i 0 + size PV ≤ last_offset
          chosen_room own =
              rw (slot_element offsets i) at (own_room ts bytes i (slot x i) (slot offsets i) c.own (is-chosen.is_own l) own)

          -- it starts
          pub chosen_starts : t - get_or releases i 0 ≤ get_or slack i 0 → {inversion lower : ℕ} →
              inversion ≡ past_if c.own (get_or offsets i 0) → lower ≡ count_trailing_zeros 16 (clear_bit mask i) →
              Ok (record { task = i; start = t; idle = o; inversion = inversion; inverts = leb lower i }) ≡ answered
          chosen_starts in_time {inversion} {lower} is-inversion is_lower =
              by_waiting
              (λ come d.
              let keeps = waits_keeps ts H x t i (chosen_waits come)
              (λ over.
              omega (
                arith,
                slot_element slack i,
                slot_element releases i,
                s.fits.set.slack_there i l,
                s.fits.releases_there i l,
                (keep i).fits,
              )) in
              let past : inversion ≡ past_own ((lent bytes ts).inversion_shown (slot offsets i)) i (slot x i) (slot offsets i) =
              is-inversion ∙ ap (past_if c.own) (sym (slot_element offsets i))
              ∙ past_if_own ts bytes i (slot x i) (slot offsets i) c.own (is-chosen.is_own l) in
              let inverted : leb lower i ≡ inverts ts x t i = rw is_lower (lower_inverts come) in
              rw (past, inverted)
              (ap (next_case ts bytes x offsets)
              (sym (next_starts bytes ts (standing x f offsets o) t s.is_instant i all_read d (ap late (breaks_none ts H x t i t keeps))))))
