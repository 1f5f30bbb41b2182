-- Looking for the next start: its number of turns does not matter, and what one turn of it comes to. Assumes nothing.
use mathlib.Core.Path.{◌≡◌, refl}
use mathlib.Core.Bool.{Bool, true, false}
use mathlib.Core.List.{List}
use mathlib.Core.Option.{Option, none, some}
use Prim.Native.Nat.{ℕ, zero, suc, ◌+◌, ◌≤◌, ◌<◌}
use native.Mathlib.Omega.{arith}
use lib.Dec.{leb}
use borrow.Author.Tests.{ltb-true, leb-true}
use Rattle.rules.specs.declared.Idle.{Idle}
use Rattle.rules.specs.declared.Inversion.{Inversion}
use Rattle.rules.specs.Tasks.{Set, hyperperiod}
use Rattle.rules.specs.Setting.{Setting, wait, instant}
use Rattle.rules.specs.Priority.{entry_breaks, setting}
use Rattle.rules.specs.Decision.{Choice, idle_for, start_task, wait_till, decide}
use Rattle.rules.specs.Judging.{idle_in_range, inversion_in_range}
use Rattle.rules.specs.Marks.{Mark, TS, TK, SL, ID, PV, EN, size}
use Rattle.rules.specs.Image.{Record, to_idle, to_inversion}
use Rattle.rules.specs.Offsets.{Shown, unreadable, no_record, shows, Source, record_at, shown_if, idle_by, idle_in, inversion_by, inversion_in, lent, idle_now, Standing, next_is, stuck, all_readable, shown_delays, shown_step, idled, waited, next_start_in, next_start}
use Rattle.rules.proofs.Cases.{by_bool, by_choice, by_nat, by_step, clash, both_true}
use Rattle.rules.proofs.Steps.{decide_idles, step_idles, step_past, step_starts, step_refuses, idles_forward, waits_forward, starts_forward}
use Rattle.rules.proofs.Replayed.{idle_at_some}
use Rattle.rules.proofs.PriorityLaws.{late_zero, StartKeepsRules, keeps_rules, waits_later}

-- a source that shows only idle records in their own range
abbrev pub IdlesInRange : ℕ → Source → Type 0
IdlesInRange h S = (o : ℕ) (r : Idle) (after : ℕ) → S.idle_shown o ≡ shows r after → (1 ≤ r.length) × (r.start + r.length < h)

-- what is decided at an instant, by the records that the offsets show
abbrev pub shown_choice : (G : Setting) → Source → Standing G.Started → ℕ → Choice
shown_choice G S a t = decide G a.next t (idle_now (S.idle_shown a.idle) t) (shown_delays G S a.next a.offsets)

-- the idle record that an offset shows for an instant
pub idle_now_some : {A : Type 0} (k : Shown Idle) (t l : ℕ) → idle_now k t ≡ some l →
    ((r : Idle) (after : ℕ) → k ≡ shows r after → r.start ≡ t → r.length ≡ l → A) → A
idle_now_some unreadable t l e go = clash (cc)
idle_now_some no_record t l e go = clash (cc)
idle_now_some (shows r after) t l e go = let a = idle_at_some r t l e in go r after refl a.0 a.1

-- it is in its own range
shown_in_range : (h : ℕ) (S : Source) → IdlesInRange h S → (o t l : ℕ) → idle_now (S.idle_shown o) t ≡ some l → (1 ≤ l) × (t + l < h)
shown_in_range h S in_range o t l e =
    idle_now_some (S.idle_shown o) t l e (λ r after q u v. (omega (arith, in_range o r after q), omega (arith, in_range o r after q)))

module _ (G : Setting) (S : Source) (in_range : IdlesInRange G.cycle_end S)
    (waits_later : (x : G.Started) (t r : ℕ) → G.baseline x t ≡ wait r → t < r) (fits : G.cycle_end ≤ G.latest) where
  -- any numbers of turns that reach past the end of the cycle give the same next start
  pub enough_turns : (N K : ℕ) (a : Standing G.Started) → 1 ≤ N → 1 ≤ K → G.latest < N + a.free → G.latest < K + a.free →
      next_start_in G S N a ≡ next_start_in G S K a
  enough_turns zero K a n k past-n past-k = absurd (omega arith)
  enough_turns (suc N) zero a n k past-n past-k = absurd (omega arith)
  enough_turns (suc N) (suc K) a n k past-n past-k =
      let idle : ℕ → Option ℕ = idle_now (S.idle_shown a.idle) in
      let delay : ℕ → Option ℕ = shown_delays G S a.next a.offsets in
      by_bool (all_readable G S a.offsets a.idle)
      (λ e. by_step (shown_step G S a)
      (λ r s. let w = idles_forward G a.next a.free idle delay (shown_in_range G.cycle_end S in_range a.idle) r s in
      rw (e, s, next_start_in) (enough_turns N K (idled G S a r) (omega arith) (omega arith) (omega arith) (omega arith)))
      (λ i t s. rw (e, s, next_start_in))
      (λ r s. let w = waits_forward G a.next a.free idle delay (waits_later a.next) r s in
      rw (e, s, next_start_in) (enough_turns N K (waited G S a r) (omega arith) (omega arith) (omega arith) (omega arith)))
      (λ number s. rw (e, s, next_start_in)))
      (λ e. rw (e, next_start_in))

-- a start that the search comes to breaks no rule
next_breaks_none : (G : Setting) (S : Source) (turns : ℕ) (a : Standing G.Started) (i t o : ℕ) → next_start_in G S turns a ≡ next_is i t o →
    G.breaks_in_replay a.next t i t ≡ 0
next_breaks_none G S zero a i t o e = clash (cc)
next_breaks_none G S (suc turns) a i t o e =
    by_bool (all_readable G S a.offsets a.idle)
    (λ read. by_step (shown_step G S a)
    (λ r s. next_breaks_none G S turns (idled G S a r) i t o (rw (read, s, next_start_in) at e))
    (λ j u s.
    let g : next_is j u a.idle ≡ next_is i t o = rw (read, s, next_start_in) at e in
    let its : j ≡ i = cc in
    let then : u ≡ t = cc in
    rw (← its, ← then)
    (starts_forward G a.next a.free (idle_now (S.idle_shown a.idle)) (shown_delays G S a.next a.offsets) j u s).1)
    (λ r s. next_breaks_none G S turns (waited G S a r) i t o (rw (read, s, next_start_in) at e))
    (λ number s. let g : stuck number ≡ next_is i t o = rw (read, s, next_start_in) at e in clash (cc)))
    (λ read. let g : stuck 25 ≡ next_is i t o = rw (read, next_start_in) at e in clash (cc))

-- so that it is of a task of the set, which has a job left, released and in time; also where nobody has judged the records
pub next_keeps_rules : (bytes : List ℕ) (ts : Set) (a : Standing (List ℕ)) (i t o : ℕ) →
    next_start (setting ts) (lent bytes ts) a ≡ next_is i t o → StartKeepsRules ts (hyperperiod ts) a.next t i t
next_keeps_rules bytes ts a i t o e =
    keeps_rules ts (hyperperiod ts) a.next t i t
    (late_zero (entry_breaks ts (hyperperiod ts) a.next t i t)
    (next_breaks_none (setting ts) (lent bytes ts) (suc (hyperperiod ts)) a i t o e))

-- a record that is shown if it is in its own range
shown_if_shows : {A B : Type 0} (b : Bool) (r r' : B) (w w' : ℕ) → shown_if b (shows r w) ≡ shows r' w' → (b ≡ true → r ≡ r' → A) → A
shown_if_shows true r r' w w' e go = go refl (cc)
shown_if_shows false r r' w w' e go = clash (cc)

pub shown_if_none : {A B : Type 0} (b : Bool) (r : B) (w : ℕ) → shown_if {A = B} b no_record ≡ shows r w → A
shown_if_none true r w e = clash (cc)
shown_if_none false r w e = clash (cc)

-- an image lent shows only idle records in their own range
pub lent_in_range : (bytes : List ℕ) (ts : Set) → IdlesInRange (hyperperiod ts) (lent bytes ts)
lent_in_range bytes ts o r after e = in-record (record_at bytes o) e
  where
    in-mark : (m : Mark) (v : List ℕ) → idle_by ts o m v ≡ shows r after → (1 ≤ r.length) × (r.start + r.length < hyperperiod ts)
    in-mark TS v e = clash (cc)
    in-mark TK v e = clash (cc)
    in-mark SL v e = clash (cc)
    in-mark ID v e =
        shown_if_shows (idle_in_range (hyperperiod ts) (to_idle v)) (to_idle v) r (o + size ID) after e
        (λ b u. let c = both_true (leb 1 (to_idle v).length) _ b in rw (← u) (leb-true _ _ c.0, ltb-true _ _ c.1))
    in-mark PV v e = shown_if_none (inversion_in_range ts (hyperperiod ts) (to_inversion v)) r after e
    in-mark EN v e = clash (cc)

    in-record : (c : Option Record) → idle_in ts o c ≡ shows r after → (1 ≤ r.length) × (r.start + r.length < hyperperiod ts)
    in-record none e = clash (cc)
    in-record (some c) e = in-mark c.mark c.values e

-- and only inversion records in theirs
pub lent_inversion_in_range : (bytes : List ℕ) (ts : Set) (o : ℕ) (r : Inversion) (after : ℕ) → (lent bytes ts).inversion_shown o ≡ shows r after →
    inversion_in_range ts (hyperperiod ts) r ≡ true
lent_inversion_in_range bytes ts o r after e = in-record (record_at bytes o) e
  where
    in-mark : (m : Mark) (v : List ℕ) → inversion_by ts o m v ≡ shows r after → inversion_in_range ts (hyperperiod ts) r ≡ true
    in-mark TS v e = clash (cc)
    in-mark TK v e = clash (cc)
    in-mark SL v e = clash (cc)
    in-mark ID v e = clash (cc)
    in-mark PV v e =
        shown_if_shows (inversion_in_range ts (hyperperiod ts) (to_inversion v)) (to_inversion v) r (o + size PV) after e (λ b u. rw (← u) b)
    in-mark EN v e = clash (cc)

    in-record : (c : Option Record) → inversion_in ts o c ≡ shows r after → inversion_in_range ts (hyperperiod ts) r ≡ true
    in-record none e = clash (cc)
    in-record (some c) e = in-mark c.mark c.values e

-- a set's setting over an image lent: one turn, at the instant t of its decision
module _ (bytes : List ℕ) (ts : Set) (a : Standing (List ℕ)) (t : ℕ) (now : instant (setting ts) a.next a.free ≡ t) where
  abbrev G : Setting
  G = setting ts

  abbrev S : Source
  S = lent bytes ts

  -- the idle record for an instant, and the delay of each task's next job
  abbrev idle_shown : ℕ → Option ℕ
  idle_shown = idle_now (S.idle_shown a.idle)

  abbrev delay_shown : ℕ → Option ℕ
  delay_shown = shown_delays G S a.next a.offsets

  -- an offset shows nothing that may stand there
  pub next_unreadable : all_readable G S a.offsets a.idle ≡ false → next_start G S a ≡ stuck 25
  next_unreadable e = rw (e, next_start_in)

  -- the idle that is used is at least one tick long and ends in the cycle
  pub idle_ends : (l : ℕ) → shown_choice G S a t ≡ idle_for l → (1 ≤ l) × (t + l < hyperperiod ts)
  idle_ends l d =
      shown_in_range (hyperperiod ts) S (lent_in_range bytes ts) a.idle t l (decide_idles G a.next t (idle_shown t) delay_shown l d)

  -- an idle record is used: the next start is looked for from its end
  pub next_idles : (l : ℕ) → all_readable G S a.offsets a.idle ≡ true → shown_choice G S a t ≡ idle_for l →
      next_start G S a ≡ next_start G S (idled G S a (t + l))
  next_idles l e d =
      let w = idle_ends l d in
      rw (e, step_idles G a.next a.free t idle_shown delay_shown now l d, next_start_in)
      (enough_turns G S (lent_in_range bytes ts) (waits_later ts (hyperperiod ts)) (omega arith) (hyperperiod ts) (suc (hyperperiod ts)) (idled G S a (t + l)) (omega arith)
      (omega arith) (omega arith) (omega arith))

  -- a task's next job starts
  pub next_starts : (i : ℕ) → all_readable G S a.offsets a.idle ≡ true → shown_choice G S a t ≡ start_task i →
      G.breaks_in_replay a.next t i t ≡ 0 → next_start G S a ≡ next_is i t a.idle
  next_starts i e d b = rw (e, step_starts G a.next a.free t idle_shown delay_shown now i d b, next_start_in)

  -- a task's next job is refused
  pub next_refused : (i number : ℕ) → all_readable G S a.offsets a.idle ≡ true → shown_choice G S a t ≡ start_task i →
      G.breaks_in_replay a.next t i t ≡ suc number → next_start G S a ≡ stuck (suc number)
  next_refused i number e d b = rw (e, step_refuses G a.next a.free t idle_shown delay_shown now i number d b, next_start_in)

  -- a wait past the end of the cycle is refused
  pub next_past : (r : ℕ) → all_readable G S a.offsets a.idle ≡ true → shown_choice G S a t ≡ wait_till r → hyperperiod ts ≤ r →
      next_start G S a ≡ stuck 18
  next_past r e d l = rw (e, step_past G a.next a.free t idle_shown delay_shown now r d l, next_start_in)

  -- how a turn comes out
  pub by_one_turn : {A : Type 0} → (all_readable G S a.offsets a.idle ≡ false → A) →
      ((l : ℕ) → all_readable G S a.offsets a.idle ≡ true → shown_choice G S a t ≡ idle_for l → A) →
      ((i : ℕ) → all_readable G S a.offsets a.idle ≡ true → shown_choice G S a t ≡ start_task i → G.breaks_in_replay a.next t i t ≡ 0 → A) →
      ((i number : ℕ) → all_readable G S a.offsets a.idle ≡ true → shown_choice G S a t ≡ start_task i →
      G.breaks_in_replay a.next t i t ≡ suc number → A) →
      ((r : ℕ) → all_readable G S a.offsets a.idle ≡ true → shown_choice G S a t ≡ wait_till r → A) → A
  by_one_turn unread idles starts refuses waits =
      by_bool (all_readable G S a.offsets a.idle)
      (λ e. by_choice (shown_choice G S a t) (λ l d. idles l e d)
      (λ i d. by_nat (G.breaks_in_replay a.next t i t) (λ b. starts i e d b) (λ number b. refuses i number e d b))
      (λ r d. waits r e d))
      unread
