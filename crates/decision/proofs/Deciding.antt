-- One decision on the way to a start: what the ID offset shows stops it, is used, or leaves the decision to the tasks. Assumes nothing.
use Rattle.std.specs.Prelude.{Ok, Err, Some, None}
use mathlib.Core.Path.{◌≡◌, refl, sym, ◌∙◌, ap}
use mathlib.Core.Bool.{Bool, true, false}
use mathlib.Core.List.{List}
use mathlib.Core.Option.{none}
use Prim.Native.Nat.{ℕ, ◌+◌, ◌-◌, max, ◌≤◌, ◌<◌}
use native.Mathlib.Omega.{arith}
use lib.ListN.{length}
use borrow.Author.Tests.{eq-eqb, ne_eqb}
use Rattle.rules.specs.declared.Idle.{Idle}
use Rattle.rules.specs.Tasks.{Set}
use Rattle.rules.specs.Setting.{instant}
use Rattle.rules.specs.Priority.{setting, least_release}
use Rattle.rules.specs.Decision.{idle_for, idle_at}
use Rattle.rules.specs.Marks.{ID, size}
use Rattle.rules.specs.Offsets.{Shown, unreadable, no_record, shows, Source, last_offset, lent, idle_now, past_idle, readable, tasks_readable, all_readable, standing, next_start}
use Rattle.rules.proofs.Cases.{by_bool, both_in, clash}
use Rattle.rules.proofs.NextTurns.{shown_choice, lent_in_range, next_unreadable, next_idles}
use Rattle.decision.specs.declared.Unreadable.{Unreadable}
use Rattle.decision.specs.declared.Standing.{Standing}
use Rattle.sets.specs.declared.Kept.{Kept}
use Rattle.sets.specs.Kept.{tasks_in, hyperperiod_in, Keeps}
use Rattle.sets.specs.Scans.{least_of}
use Rattle.decision.specs.declared.Front.{Front}
use Rattle.decision.specs.Fits.{next_in, releases_in, offsets_in, Fits}
use Rattle.decision.specs.Shown.{shown_case}
use Rattle.decision.specs.Next.{IdlesRead, none_left, one_more, next_case, next_from, next_at, StartsAt, Idling, IdledTo}
use Rattle.decision.proofs.WholeRecords.{unread_shown, idle_after}
use Rattle.decision.proofs.Fitting.{is_hyperperiod, least_by_end, least_as}

-- the answer that the ID offset shows no record
idle_none : (k : Shown Idle) → Ok None ≡ shown_case k → k ≡ no_record
idle_none unreadable e = clash (cc)
idle_none no_record e = refl
idle_none (shows r after) e = clash (cc)

-- that it shows one
idle_some : {A : Type 0} (k : Shown Idle) (r : Idle) → Ok (Some r) ≡ shown_case k → ((after : ℕ) → k ≡ shows r after → A) → A
idle_some unreadable r e go = clash (cc)
idle_some no_record r e go = clash (cc)
idle_some (shows q after) r e go = let same : r ≡ q = cc in go after (rw same)

module _ (ts : Set) (bytes : List ℕ) (at : Standing) (f o : ℕ) where
  -- next job numbers, and the tasks' offsets
  abbrev x : List ℕ
  x = next_in at

  abbrev offsets : List ℕ
  offsets = offsets_in at

  -- a task's offset that cannot be read
  pub tasks_unread : tasks_readable (lent bytes ts) (length ts.tasks) offsets ≡ false → Err 25 ≡ next_from ts bytes at f o
  tasks_unread e =
      let all : all_readable (setting ts) (lent bytes ts) offsets o ≡ false =
      by_bool (readable ((lent bytes ts).idle_shown o)) (λ b. rw (b, e)) (λ b. rw b) in
      ap (next_case ts bytes x offsets) (sym (next_unreadable bytes ts (standing x f offsets o) (instant (setting ts) x f) refl all))

  -- the ID offset cannot be read
  pub idle_unreadable : readable ((lent bytes ts).idle_shown o) ≡ false → Err 25 ≡ next_from ts bytes at f o
  idle_unreadable e =
      let all : all_readable (setting ts) (lent bytes ts) offsets o ≡ false = rw e in
      ap (next_case ts bytes x offsets) (sym (next_unreadable bytes ts (standing x f offsets o) (instant (setting ts) x f) refl all))

  module _ {kept : Kept} (idling : Idling ts bytes kept at) (by_end : f ≤ hyperperiod_in kept) (t : ℕ)
      (is_instant : t ≡ max f (least_of (tasks_in kept) (hyperperiod_in kept) (releases_in at))) where
    -- what has started, and the hyperperiod
    abbrev fits : Fits ts kept at
    fits = idling.fits

    abbrev h : ℕ
    h = hyperperiod_in kept

    -- the instant of the decision
    instant_as : instant (setting ts) x f ≡ t
    instant_as =
        sym (is_instant ∙ ap (max f) (least_as fits) ∙ ap (λ (c : ℕ). max f (least_release c ts.tasks x)) (is_hyperperiod fits))

    -- it is in the cycle, or at its end
    instant_by_end : t ≤ h
    instant_by_end = omega (arith, least_as fits, least_by_end h ts.tasks x)

    -- it is left to the tasks
    to_tasks : readable ((lent bytes ts).idle_shown o) ≡ true → idle_now ((lent bytes ts).idle_shown o) t ≡ none →
        StartsAt ts bytes kept at f (record { start = t; idle = o })
    to_tasks can none-now = record {
      fits = fits;
      tasks_read = idling.tasks_read;
      idle_read = can;
      no_idle = none-now;
      is_instant = instant_as;
      by_end = instant_by_end;
    }

    -- no idle record is left
    pub no_idle_left : Ok None ≡ shown_case ((lent bytes ts).idle_shown o) → StartsAt ts bytes kept at f (record { start = t; idle = o })
    no_idle_left e = let shown = idle_none ((lent bytes ts).idle_shown o) e in to_tasks (rw shown) (rw shown)

    module _ (r : Idle) (shown : Ok (Some r) ≡ shown_case ((lent bytes ts).idle_shown o)) where
      -- the idle record is for another instant
      pub idle_other : (r.start ≡ t → ⊥) → StartsAt ts bytes kept at f (record { start = t; idle = o })
      idle_other other =
          idle_some ((lent bytes ts).idle_shown o) r shown (λ after e. to_tasks (rw e) (rw (e, ne_eqb r.start t other, idle_at)))

      -- it is at least one tick long and ends in the cycle, and at or before the last offset
      pub idle_fits : (1 ≤ r.length) × (r.start + r.length < h) × (o + size ID ≤ last_offset)
      idle_fits =
          idle_some ((lent bytes ts).idle_shown o) r shown
          (λ after e.
          let a = lent_in_range bytes ts o r after e in
          (a.0, omega (arith, is_hyperperiod fits, a.1), (idle_after ts bytes o r after e).1))

      -- it is used: the next start is looked for from its end
      pub idle_used : r.start ≡ t →
          next_start (setting ts) (lent bytes ts) (standing x f offsets o) ≡ next_start (setting ts) (lent bytes ts) (standing x (t + r.length) offsets (o + size ID))
      idle_used now =
          idle_some ((lent bytes ts).idle_shown o) r shown
          (λ after e.
          let all : all_readable (setting ts) (lent bytes ts) offsets o ≡ true =
          both_in (readable ((lent bytes ts).idle_shown o)) _ (rw e) (rw fits.set.n_tasks at idling.tasks_read) in
          let choice : shown_choice (setting ts) (lent bytes ts) (standing x f offsets o) t ≡ idle_for r.length = rw (e, eq-eqb r.start t now, idle_at) in
          let past : past_idle ((lent bytes ts).idle_shown o) o ≡ o + size ID = rw e (idle_after ts bytes o r after e).0 in
          next_idles bytes ts (standing x f offsets o) t instant_as r.length all choice
          ∙ ap (λ (w : ℕ). next_start (setting ts) (lent bytes ts) (standing x (t + r.length) offsets w)) past)

-- an ID offset from which all idle records can be read can be read itself
idle_can_be_read : {S : Source} {o : ℕ} → IdlesRead S o → readable (S.idle_shown o) ≡ true
idle_can_be_read (none_left e) = rw e
idle_can_be_read (one_more e rest) = rw e

-- and so can all behind the record that it shows
read_behind : {S : Source} {o after : ℕ} {r : Idle} → IdlesRead S o → S.idle_shown o ≡ shows r after → IdlesRead S after
read_behind (none_left e) shown = clash (cc)
read_behind {after = after} {r = r} (one_more {after = w} {r = q} e rest) shown =
    let g : shows q w ≡ shows r after = sym e ∙ shown in
    let same : w ≡ after = cc in
    rw same at rest

-- from an instant and an ID offset on, the next start is the one that was asked for, whatever fits; and where the image's records were judged, some
-- set that fits has all idle records read from there
pub record Decides (bytes : List ℕ) (judged : Bool) (kept : Kept) (at : Standing) (front : Front) (from o : ℕ) : Type 0 where
  pub by_end : from ≤ hyperperiod_in kept
  pub same : (ts : Set) → Idling ts bytes kept at →
      next_start (setting ts) (lent bytes ts) (standing (next_in at) from (offsets_in at) o)
      ≡ next_start (setting ts) (lent bytes ts) (standing (next_in at) front.free (offsets_in at) front.idle)
  pub idles_read : judged ≡ true → (ts : Set) × Keeps ts kept × IdlesRead (lent bytes ts) o

-- where they were judged, the ID offset can be read
pub judged_readable : {bytes : List ℕ} {judged : Bool} {kept : Kept} {at : Standing} {front : Front} {from o : ℕ} →
    Decides bytes judged kept at front from o → judged ≡ true → (ts : Set) × Keeps ts kept × (readable ((lent bytes ts).idle_shown o) ≡ true)
judged_readable d e = let read = d.idles_read e in (read.0, read.1, idle_can_be_read read.2)

module _ {bytes : List ℕ} {judged : Bool} {kept : Kept} {at : Standing} {front : Front} {from o : ℕ} (d : Decides bytes judged kept at front from o) {t first : ℕ}
    (is_instant : t ≡ max from first) (is-first : first ≡ least_of (tasks_in kept) (hyperperiod_in kept) (releases_in at)) (ts : Set)
    (i : Idling ts bytes kept at) where
  -- the instant, by the least of releases
  by_least : t ≡ max from (least_of (tasks_in kept) (hyperperiod_in kept) (releases_in at))
  by_least = is_instant ∙ ap (max from) is-first

  -- what is decided here is the answer
  decided_here : next_from ts bytes at from o ≡ next_at ts bytes at front
  decided_here = ap (next_case ts bytes (next_in at) (offsets_in at)) (d.same ts i)

  -- the ID offset cannot be read
  pub idled_unread : {e : Unreadable} → Err e ≡ shown_case ((lent bytes ts).idle_shown o) → Err 25 ≡ next_at ts bytes at front
  idled_unread shown = idle_unreadable ts bytes at from o (unread_shown ((lent bytes ts).idle_shown o) _ shown) ∙ decided_here

  -- the offset shows no idle record
  pub idled_none : Ok None ≡ shown_case ((lent bytes ts).idle_shown o) → IdledTo ts bytes kept at front (Ok (record { start = t; idle = o }))
  idled_none shown = (from, no_idle_left ts bytes at from o i d.by_end t by_least shown, decided_here)

  -- it shows one for another instant
  pub idled_other : {r : Idle} → Ok (Some r) ≡ shown_case ((lent bytes ts).idle_shown o) → (r.start ≡ t → ⊥) →
      IdledTo ts bytes kept at front (Ok (record { start = t; idle = o }))
  idled_other {r} shown other = (from, idle_other ts bytes at from o i d.by_end t by_least r shown other, decided_here)

  module _ {r : Idle} (shown : Ok (Some r) ≡ shown_case ((lent bytes ts).idle_shown o)) (now : r.start ≡ t) where
    -- one for this instant ends in the cycle, and at or before the last offset
    pub used_fits : (1 ≤ r.length) × (t + r.length < hyperperiod_in kept) × (o + size ID ≤ last_offset)
    used_fits = let w = idle_fits ts bytes at from o i d.by_end t by_least r shown in (w.0, omega (arith, w.1), w.2)

    -- less of the cycle is left behind it
    pub less_left : hyperperiod_in kept - (t + r.length) < hyperperiod_in kept - from
    less_left = omega (arith, used_fits.0, used_fits.1)

    -- and it is used
    used_again : next_start (setting ts) (lent bytes ts) (standing (next_in at) (t + r.length) (offsets_in at) (o + size ID))
        ≡ next_start (setting ts) (lent bytes ts) (standing (next_in at) front.free (offsets_in at) front.idle)
    used_again = sym (idle_used ts bytes at from o i d.by_end t by_least r shown now) ∙ d.same ts i

-- an idle record that is used leads on, as some set fits
pub decides_again : {bytes : List ℕ} {judged : Bool} {kept : Kept} {at : Standing} {front : Front} {from o : ℕ} (d : Decides bytes judged kept at front from o) {t first : ℕ}
    (is_instant : t ≡ max from first) (is-first : first ≡ least_of (tasks_in kept) (hyperperiod_in kept) (releases_in at)) (ts : Set) →
    Idling ts bytes kept at → {r : Idle} → ((us : Set) → Keeps us kept → Ok (Some r) ≡ shown_case ((lent bytes us).idle_shown o)) → r.start ≡ t →
    Decides bytes judged kept at front (t + r.length) (o + size ID)
decides_again {bytes} {o = o} d is_instant is-first ts i {r} shown now = record {
  by_end = omega (arith, (used_fits d is_instant is-first ts i (shown ts i.fits.set) now).1);
  same = λ us j. used_again d is_instant is-first us j (shown us j.fits.set) now;
  idles_read = λ e.
      let read = d.idles_read e in (
        read.0,
        read.1,
        idle_some ((lent bytes read.0).idle_shown o) r (shown read.0 read.1)
            (λ after seen. rw (← (idle_after read.0 bytes o r after seen).0) (read_behind read.2 seen)),
      );
}
