-- 25 for bytes: looking for the next start is stuck exactly where a decision meets an unreadable offset or a job that is too late. Assumes nothing.
use mathlib.Core.Path.{◌≡◌, refl, sym, ◌∙◌, ap}
use mathlib.Core.Bool.{true, false}
use mathlib.Core.List.{List}
use Prim.Native.Nat.{ℕ, zero, suc, ◌+◌, ◌≤◌, ◌<◌}
use native.Mathlib.Omega.{arith}
use lib.ListN.{length}
use Rattle.fields.specs.Body.{head₀, tail₀}
use Rattle.rules.specs.declared.Idle.{Idle}
use Rattle.rules.specs.Tasks.{Set, task, due, hyperperiod, KeepsItsRule}
use Rattle.rules.specs.Setting.{Setting, instant}
use Rattle.rules.specs.Priority.{slot, all_started, late, entry_breaks, setting}
use Rattle.rules.specs.Decision.{Choice, idle_for, start_task, wait_till}
use Rattle.rules.specs.Offsets.{Shown, unreadable, no_record, shows, Source, lent, idle_now, past_idle, readable, tasks_readable, Standing, all_readable, shown_delays, NextStart, next_is, stuck, next_start}
use Rattle.rules.specs.GoingOn.{Unreadable, at_idle, at_task, DecidesFrom, StuckAt, unreadable_record, late_job, after_idle}
use Rattle.rules.proofs.Cases.{by_bool, by_le, clash, differ}
use Rattle.rules.proofs.Decided.{started_waits, rule_never_waits, instant_next, next_instant, offsets_decide}
use Rattle.rules.proofs.PriorityLaws.{breaks_none}
use Rattle.rules.proofs.LateJobs.{waits_keeps, ends_late}
use Rattle.rules.proofs.Steps.{decide_idles}
use Rattle.rules.proofs.NextTurns.{shown_choice, idle_now_some, next_unreadable, next_idles, idle_ends, next_starts, next_refused, by_one_turn}

-- a next start is a start, or stuck with a number
pub by_next {ℓ} : {A : Type ℓ} (s : NextStart) → ((i t o : ℕ) → s ≡ next_is i t o → A) → ((number : ℕ) → s ≡ stuck number → A) → A
by_next (next_is i t o) start stop = start i t o refl
by_next (stuck number) start stop = stop number refl

-- what cannot be read is nothing that may stand there
not_readable : {A : Type 0} (k : Shown A) → readable k ≡ false → k ≡ unreadable
not_readable unreadable e = refl
not_readable no_record e = differ e
not_readable (shows r after) e = differ e

-- where one of the tasks' offsets cannot be read, they cannot
pub one_unreadable : (S : Source) (n : ℕ) (offsets : List ℕ) (i : ℕ) → i < n → readable (S.inversion_shown (slot offsets i)) ≡ false →
    tasks_readable S n offsets ≡ false
one_unreadable S zero offsets i l e = absurd (omega arith)
one_unreadable S (suc n) offsets zero l e = rw e
one_unreadable S (suc n) offsets (suc i) l e =
    by_bool (readable (S.inversion_shown (head₀ offsets))) (λ b. rw b (one_unreadable S n (tail₀ offsets) i (omega arith) e)) (λ b. rw b)

-- and where they cannot, there is one that cannot
some_unreadable : (S : Source) (n : ℕ) (offsets : List ℕ) → tasks_readable S n offsets ≡ false →
    (i : ℕ) × (i < n) × (S.inversion_shown (slot offsets i) ≡ unreadable)
some_unreadable S zero offsets e = differ e
some_unreadable S (suc n) offsets e =
    by_bool (readable (S.inversion_shown (head₀ offsets)))
    (λ b. let w = some_unreadable S n (tail₀ offsets) (rw b at e) in (suc w.0, omega (arith, w.1), w.2))
    (λ b. (0, omega arith, not_readable (S.inversion_shown (head₀ offsets)) b))

module _ (bytes : List ℕ) (ts : Set) (a : Standing (List ℕ)) where
  -- the test of all current offsets
  abbrev all_read : Type 0
  all_read = all_readable (setting ts) (lent bytes ts) a.offsets a.idle ≡ true

  abbrev not_read : Type 0
  not_read = all_readable (setting ts) (lent bytes ts) a.offsets a.idle ≡ false

  -- it says whether one of them shows nothing that may stand there
  unread : not_read → Unreadable ts (hyperperiod ts) (lent bytes ts) a
  unread e =
      by_bool (readable ((lent bytes ts).idle_shown a.idle))
      (λ b. let w = some_unreadable (lent bytes ts) (length ts.tasks) a.offsets (rw b at e) in at_task w.1 w.2)
      (λ b. at_idle (not_readable ((lent bytes ts).idle_shown a.idle) b))

  unread_so : Unreadable ts (hyperperiod ts) (lent bytes ts) a → not_read
  unread_so (at_idle e) = rw e
  unread_so (at_task {i = i} l e) =
      let tasks : tasks_readable (lent bytes ts) (length ts.tasks) a.offsets ≡ false = one_unreadable (lent bytes ts) (length ts.tasks) a.offsets i l (rw e) in
      by_bool (readable ((lent bytes ts).idle_shown a.idle)) (λ b. rw (b, tasks)) (λ b. rw b)

  read_so : (Unreadable ts (hyperperiod ts) (lent bytes ts) a → ⊥) → all_read
  read_so read = by_bool (all_readable (setting ts) (lent bytes ts) a.offsets a.idle) (λ e. e) (λ e. absurd (read (unread e)))

module _ (bytes : List ℕ) (ts : Set) (keep : (i : ℕ) → KeepsItsRule (task ts i)) where
  abbrev G : Setting
  G = setting ts

  abbrev S : Source
  S = lent bytes ts

  abbrev h : ℕ
  h = hyperperiod ts

  -- the next start from where it is looked for
  abbrev pub start_from : Standing (List ℕ) → NextStart
  start_from a = next_start G S a

  -- what is decided at an instant, by the records that the offsets show
  abbrev choice : Standing (List ℕ) → ℕ → Choice
  choice a t = shown_choice G S a t

  -- with a job left and all offsets read, what is worked out is decided next
  next_decided : (a : Standing (List ℕ)) (c : Choice) → all_started h ts.tasks a.next ≡ false → all_read bytes ts a → choice a (instant G a.next a.free) ≡ c →
      DecidesFrom ts h S a (instant G a.next a.free) c
  next_decided a c left read d =
      let t : ℕ = instant G a.next a.free in
      let n = instant_next ts h keep a.next a.free left in
      record {
        all_read = λ u. differ (sym read ∙ unread_so bytes ts a u);
        at_instant = n;
        decides = (offsets_decide bytes ts a t n.some_job c).1 d;
      }

  -- what is decided next is worked out
  decided_next : {a : Standing (List ℕ)} {t : ℕ} {c : Choice} → DecidesFrom ts h S a t c → choice a t ≡ c
  decided_next {a} {t} {c} d = (offsets_decide bytes ts a t d.at_instant.some_job c).0 d.decides

  -- in turns that are enough for what is left of the cycle
  stuck_in : (turns : ℕ) (a : Standing (List ℕ)) (number : ℕ) → all_started h ts.tasks a.next ≡ false → h < turns + a.free → 1 ≤ turns →
      start_from a ≡ stuck number → StuckAt ts h S a
  stuck_in zero a number left past some e = absurd (omega arith)
  stuck_in (suc turns) a number left past some e =
      let x : List ℕ = a.next in
      let t : ℕ = instant G x a.free in
      by_one_turn bytes ts a t refl (λ u. unreadable_record (unread bytes ts a u))
      (λ l u d. idle_now_some (S.idle_shown a.idle) t l (decide_idles G x t (idle_now (S.idle_shown a.idle) t) (shown_delays G S x a.offsets) l d)
      (λ r after q s v.
      let w = idle_ends bytes ts a t refl l d in
      let past_is : past_idle (S.idle_shown a.idle) a.idle ≡ after = ap (λ (k : Shown Idle). past_idle k a.idle) q in
      after_idle q (next_decided a (idle_for r.length) left u (rw v d))
      (stuck_in turns (record { next = x; free = t + r.length; offsets = a.offsets; idle = after }) number left (omega arith) (omega arith)
      (rw (← past_is, v) (sym (next_idles bytes ts a t refl l u d) ∙ e)))))
      (λ i u d k. let g : next_is i t a.idle ≡ stuck number = sym (next_starts bytes ts a t refl i u d k) ∙ e in clash (cc))
      (λ i m u d k. let n = next_decided a (start_task i) left u d in
      late_job n
      (by_le (t + (task ts i).time) (due (task ts i) (slot x i))
      (λ l. let b : entry_breaks ts h x t i t ≡ 0 = breaks_none ts h x t i t (waits_keeps ts h x t i (started_waits ts h n.decides refl) (λ y. omega arith)) in
      let w : late (entry_breaks ts h x t i t) ≡ 0 = ap late b in clash (cc))
      (λ l. l)))
      (λ r u d. absurd (rule_never_waits ts h (next_decided a (wait_till r) left u d).decides refl))

  -- with a job left, a search that is stuck meets what 25 names
  pub stuck_at : (a : Standing (List ℕ)) (number : ℕ) → all_started h ts.tasks a.next ≡ false → start_from a ≡ stuck number → StuckAt ts h S a
  stuck_at a number left e = stuck_in (suc h) a number left (omega arith) (omega arith) e

  -- where a decision meets it, the search is stuck
  pub at_stuck : {a : Standing (List ℕ)} → StuckAt ts h S a → (number : ℕ) × (start_from a ≡ stuck number)
  at_stuck (unreadable_record {a = a} u) =
      (25, next_unreadable bytes ts a (instant G a.next a.free) refl (unread_so bytes ts a u))
  at_stuck (late_job {a = a} {t = t} {i = i} d l) = (
    18,
    next_refused bytes ts a t (next_instant ts h keep d.at_instant) i 17 (read_so bytes ts a d.all_read)
        (decided_next d) (ends_late ts h a.next t i l),
  )
  at_stuck (after_idle {a = a} {t = t} {after = after} {r = r} q d s) =
      let w = at_stuck s in
      let past_is : past_idle (S.idle_shown a.idle) a.idle ≡ after = ap (λ (k : Shown Idle). past_idle k a.idle) q in (
        w.0,
        next_idles bytes ts a t (next_instant ts h keep d.at_instant) r.length
            (read_so bytes ts a d.all_read) (decided_next d)
            ∙ rw past_is w.1,
      )

  -- a search that comes to a start meets nothing that 25 names
  pub start_not_stuck : {a : Standing (List ℕ)} {i t o : ℕ} → start_from a ≡ next_is i t o → StuckAt ts h S a → ⊥
  start_not_stuck {i = i} {t = t} {o = o} e s =
      let w = at_stuck s in
      let g : next_is i t o ≡ stuck w.0 = sym e ∙ w.1 in
      clash (cc)
