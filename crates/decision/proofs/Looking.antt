-- The task of a decision, looked for among the bits of the mask of the waiting tasks: a task with a record for this instant is one of them.
-- Assumes nothing.
use Rattle.std.specs.Prelude.{Option as Told, is_some}
use mathlib.Core.Path.{◌≡◌, refl, sym, ◌∙◌, ap}
use mathlib.Core.Bool.{Bool, true, false}
use mathlib.Core.List.{List}
use mathlib.Core.Option.{Option, none, some}
use Prim.Native.Nat.{ℕ, ◌+◌, ◌-◌, ◌≤◌, ◌<◌}
use native.Mathlib.Omega.{arith}
use lib.Count.{count_trailing_zeros}
use lib.ListN.{get_or}
use borrow.Author.Tests.{leb-true, eqb-true, le-leb, eq-eqb, ne_eqb}
use Rattle.rules.specs.declared.Inversion.{Inversion}
use Rattle.rules.specs.Tasks.{Set, task, release}
use Rattle.rules.specs.Setting.{lowest}
use Rattle.rules.specs.Priority.{slot, setting}
use Rattle.rules.specs.Decision.{falls_at, recorded, is_of}
use Rattle.rules.specs.Marks.{PV, size}
use Rattle.rules.specs.Offsets.{Shown, unreadable, no_record, shows, last_offset, lent, own_delay, past_own, readable}
use Rattle.rules.proofs.Cases.{by_bool, by_option, by_eq, by_le, differ}
use Rattle.rules.proofs.Arrays.{slot_element}
use Rattle.rules.proofs.Lowest.{lowest_from_some, lowest_from_below, below_lowest, none_lowest}
use Rattle.decision.specs.declared.Standing.{Standing}
use Rattle.sets.specs.declared.Kept.{Kept}
use Rattle.sets.specs.Kept.{tasks_in}
use Rattle.decision.specs.Fits.{next_in, releases_in, offsets_in, Fits}
use Rattle.decision.specs.Shown.{delay_case, has_delay}
use Rattle.decision.specs.Waiting.{mask_of, come_by, clear_bit}
use Rattle.decision.specs.Next.{past_if, delays_in, is_delay, Choosing, IsChosen}
use Rattle.decision.proofs.Masks.{zero_empty, other_than, same_fails, other_kept, mask_clear, mask_empty, mask_some, cleared_above}
use Rattle.decision.proofs.WholeRecords.{inversion_after}
use Rattle.decision.proofs.Reading.{tasks_read_each}

-- a delay falls at an instant where it is the time since the release
falls_as : (d : Option ℕ) (r t : ℕ) → r ≤ t → has_delay d (t - r) ≡ falls_at d r t
falls_as none r t come = refl
falls_as (some d) r t come =
    by_eq (r + d) t (λ e. eq-eqb d (t - r) (omega arith) ∙ sym (eq-eqb (r + d) t e))
    (λ e. ne_eqb d (t - r) (λ q. e (omega arith)) ∙ sym (ne_eqb (r + d) t e))

-- it falls at or after the release
falls_after : (d : Option ℕ) (r t : ℕ) → falls_at d r t ≡ true → r ≤ t
falls_after none r t e = differ (sym e)
falls_after (some d) r t e = omega (arith, eqb-true (r + d) t e)

-- where it falls there is one
falls_some : (d : Option ℕ) (r t : ℕ) → falls_at d r t ≡ true → true ≡ is_delay d
falls_some none r t e = sym e
falls_some (some d) r t e = refl

-- whether one is told
some_delay : (d : Option ℕ) → is_some (delay_case d) ≡ is_delay d
some_delay none = refl
some_delay (some d) = refl

-- what a task's offset shows for job k of task i
module _ (ts : Set) (bytes : List ℕ) (i k offset : ℕ) where
  -- what the offset shows
  abbrev there : Shown Inversion
  there = (lent bytes ts).inversion_shown offset

  -- the offset shows the task's own record, or not
  by_own : {A : Type 0} → ((delay : ℕ) → own_delay there i k ≡ some delay → past_own there i k offset ≡ offset + size PV → offset + size PV ≤ last_offset → A) →
      (own_delay there i k ≡ none → past_own there i k offset ≡ offset → A) → A
  by_own {A} own other = from there refl
    where
      -- by what it shows
      from : (shown : Shown Inversion) → there ≡ shown → A
      from unreadable e = other (rw e) (rw e)
      from no_record e = other (rw e) (rw e)
      from (shows r after) e =
          by_bool (is_of r i k)
          (λ b. let a = inversion_after ts bytes offset r after e in own r.delay (rw (e, b, own_delay)) (rw (e, b, past_own) a.0) a.1)
          (λ b. other (rw (e, b, own_delay)) (rw (e, b, past_own)))

  module _ (own : Bool) (is_own : own ≡ is_delay (own_delay there i k)) where
    -- the offset behind the task's start
    pub past_if_own : past_if own offset ≡ past_own there i k offset
    past_if_own =
        by_own (λ delay e past ends. let is : own ≡ true = rw e at is_own in rw (is, past))
        (λ e p. let is : own ≡ false = rw e at is_own in rw (is, p))

    -- a record that is the task's own leaves room behind it
    pub own_room : own ≡ true → offset + size PV ≤ last_offset
    own_room is =
        by_own (λ delay e past ends. ends) (λ e p. let is-not : own ≡ false = rw e at is_own in differ (sym is ∙ is-not))

-- a task whose record names an instant has come by then
pub recorded_come : {ts : Set} {kept : Kept} {at : Standing} → Fits ts kept at →
    (delay : ℕ → Option ℕ) (t i : ℕ) → i < tasks_in kept → recorded (setting ts) delay (next_in at) t i ≡ true → slot (releases_in at) i ≤ t
recorded_come {ts} {at = at} fits delay t i l e =
    omega (arith, fits.releases_there i l, falls_after (delay i) (release (task ts i) (slot (next_in at) i)) t e)

-- what is left of the mask: waiting tasks alone, and every one with a record for this instant
pub record Left (ts : Set) (bytes : List ℕ) (kept : Kept) (at : Standing) (t left : ℕ) : Type 0 where
  pub test : ℕ → Bool
  pub is_left : left ≡ mask_of (tasks_in kept) test
  pub waits : (j : ℕ) → j < tasks_in kept → test j ≡ true → come_by (releases_in at) t j ≡ true
  pub has_own : (j : ℕ) → j < tasks_in kept → recorded (setting ts) (delays_in ts bytes (next_in at) (offsets_in at)) (next_in at) t j ≡ true → test j ≡ true

module _ {ts : Set} {bytes : List ℕ} {kept : Kept} {at : Standing} {t mask : ℕ} (c : Choosing ts bytes kept at t mask) where
  -- the number of tasks, next job numbers, their releases and the tasks' offsets
  abbrev n : ℕ
  n = tasks_in kept

  abbrev x : List ℕ
  x = next_in at

  abbrev releases : List ℕ
  releases = releases_in at

  abbrev offsets : List ℕ
  offsets = offsets_in at

  -- the delay that each task's offset shows for its next job
  abbrev delay : ℕ → Option ℕ
  delay = delays_in ts bytes x offsets

  -- has its next job a record for this instant
  abbrev now : ℕ → Bool
  now = recorded (setting ts) delay x t

  -- 16 tasks at most
  few : n ≤ 16
  few = c.fits.set.few

  -- a task's offset can be read
  pub choosing_read : {i : ℕ} → i < n → readable ((lent bytes ts).inversion_shown (get_or offsets i 0)) ≡ true
  choosing_read {i} l =
      ap (λ (o : ℕ). readable ((lent bytes ts).inversion_shown o)) (sym (slot_element offsets i))
      ∙ tasks_read_each (lent bytes ts) n offsets c.tasks_read i l

  -- at first the whole mask is left
  pub left_all : Left ts bytes kept at t mask
  left_all = record {
    test = come_by releases t;
    is_left = c.is_mask;
    waits = λ j l e. e;
    has_own = λ j l e. le-leb (slot releases j) t (recorded_come c.fits delay t j l e);
  }

  -- the delay that its offset shows, by the slots
  delay_as : (i : ℕ) → own_delay ((lent bytes ts).inversion_shown (get_or offsets i 0)) i (get_or x i 0) ≡ delay i
  delay_as i = rw (← slot_element offsets i, ← slot_element x i)

  module _ {left : ℕ} (s : Left ts bytes kept at t left) where
    -- where none is left, none has a record for this instant
    none_left : left ≡ 0 → lowest n now ≡ none
    none_left e =
        by_option (lowest n now) (λ g. g)
        (λ j g.
        let l : j < n = omega (arith, lowest_from_below n 0 now j g) in
        differ
        (sym (s.has_own j l (lowest_from_some n 0 now j g))
        ∙ none_lowest n 0 s.test (mask_empty n s.test few s.is_left e) j (omega arith) (omega arith)))

    -- then the lowest of the mask is chosen
    pub chosen_lowest : left ≡ 0 → {first : ℕ} {own : Bool} {d : Told ℕ} → first ≡ count_trailing_zeros 16 mask → own ≡ is_some d →
        d ≡ delay_case (own_delay ((lent bytes ts).inversion_shown (get_or offsets first 0)) first (get_or x first 0)) →
        IsChosen ts bytes kept at t mask (record { task = first; own = own })
    chosen_lowest e {first} {d = d} is-first is_own told = record {
      is_task = is-first ∙ sym (rw (none_left e));
      is_own = λ l. is_own ∙ ap is_some told ∙ some_delay _ ∙ ap is_delay (delay_as first);
    }

    -- the lowest that is left
    module _ (full : left ≡ 0 → ⊥) {i : ℕ} (is_lowest : i ≡ count_trailing_zeros 16 left) where
      -- by its test
      found : lowest n s.test ≡ some i
      found = mask_some n s.test few s.is_left full is_lowest

      -- it is one of n
      pub left_below : i < n
      left_below = omega (arith, lowest_from_below n 0 s.test i found)

      -- it has one of 16 slots
      pub left_slot : i < 16
      left_slot = omega (arith, few, left_below)

      -- the lowest bit is cleared, by its number
      pub cleared : {less : ℕ} → less ≡ clear_bit left (count_trailing_zeros 16 left) → less ≡ clear_bit left i
      cleared e = e ∙ ap (clear_bit left) (sym is_lowest)

      -- it has come
      left_come : slot releases i ≤ t
      left_come = leb-true (slot releases i) t (s.waits i left_below (lowest_from_some n 0 s.test i found))

      -- so has its release in the array
      pub left_released : get_or releases i 0 ≤ t
      left_released = omega (arith, left_come, slot_element releases i)

      -- with a record for this instant it is the lowest that has one
      lowest_now : now i ≡ true → lowest n now ≡ some i
      lowest_now here =
          by_option (lowest n now) (λ g. differ (sym here ∙ none_lowest n 0 now g i (omega arith) (omega (arith, left_below))))
          (λ j g.
          let l : j < n = omega (arith, lowest_from_below n 0 now j g) in
          by_le i j
          (λ above. by_eq j i (λ q. g ∙ ap some q) (λ q. differ (sym here ∙ below_lowest n 0 now j g i (omega arith) (omega arith))))
          (λ below. differ
          (sym (s.has_own j l (lowest_from_some n 0 now j g)) ∙ below_lowest n 0 s.test i found j (omega arith) below)))

      -- whether its offset shows a record for this instant is told
      module _ {told : Bool} (is-told : told ≡ has_delay (own_delay ((lent bytes ts).inversion_shown (get_or offsets i 0)) i (get_or x i 0))
          (t - get_or releases i 0)) where
        -- as the rule book tells it
        told_now : told ≡ now i
        told_now =
            let there : get_or releases i 0 ≡ release (task ts i) (slot x i) = sym (slot_element releases i) ∙ c.fits.releases_there i left_below in
            is-told ∙ rw (delay_as i, there) (falls_as (delay i) (release (task ts i) (slot x i)) t (omega (arith, left_released)))

        -- with one it is chosen
        pub chosen_shown : told ≡ true → IsChosen ts bytes kept at t mask (record { task = i; own = true })
        chosen_shown e =
            let here : now i ≡ true = sym told_now ∙ e in
            record {
              is_task = sym (rw (lowest_now here));
              is_own = λ l. falls_some (delay i) (release (task ts i) (slot x i)) t here;
            }

        -- without one it is left out
        pub left_unshown : told ≡ false → Left ts bytes kept at t (clear_bit left i)
        left_unshown e =
            let not-here : now i ≡ false = sym told_now ∙ e in
            record {
              test = other_than i s.test;
              is_left = ap (λ (m : ℕ). clear_bit m i) s.is_left ∙ mask_clear n i s.test few left_slot;
              waits = λ j l e. by_eq j i (λ q. let p : other_than i s.test i ≡ true = rw q at e in differ (sym p ∙ same_fails i s.test))
                  (λ q. s.waits j l (sym (other_kept i s.test j q) ∙ e));
              has_own = λ j l e. by_eq j i (λ q. differ (sym e ∙ ap now q ∙ not-here)) (λ q. other_kept i s.test j q ∙ s.has_own j l e);
            }

      -- fewer bits are left
      pub fewer_left : {less : ℕ} → less ≡ clear_bit left i → 16 - count_trailing_zeros 16 less < 16 - count_trailing_zeros 16 left
      fewer_left {less} e =
          let above : i < count_trailing_zeros 16 less = rw (← e) at (cleared_above n s.test few s.is_left found) in
          omega (arith, is_lowest, left_slot)

  -- no task waits
  pub chosen_none : mask ≡ 0 → IsChosen ts bytes kept at t mask (record { task = 16; own = false })
  chosen_none e = record { is_task = sym (rw (none_left left_all e) (ap (count_trailing_zeros 16) e ∙ zero_empty 16)); is_own = λ l. absurd (omega (arith, few)) }
