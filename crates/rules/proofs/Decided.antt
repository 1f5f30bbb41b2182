-- The decision rule in document 01's words and as it is worked out are the same: the next instant, and what is decided there, by a table's records and by
-- those that byte offsets show. Assumes nothing.
use mathlib.Core.Path.{◌≡◌, refl, sym, ◌∙◌, ap}
use mathlib.Core.Logic.{◌↔◌}
use mathlib.Core.Bool.{true, false}
use mathlib.Core.List.{List, [], ◌∷◌, Memᴰ}
use mathlib.Core.Option.{Option, none, some}
use Prim.Native.Nat.{ℕ, suc, ◌+◌, ◌≤◌, ◌<◌}
use native.Mathlib.Omega.{arith}
use lib.Dec.{ltb, eqb}
use lib.ListN.{length}
use borrow.Author.Tests.{ltb-true, leb-true, eqb-true, lt-ltb, le-leb, eq-eqb}
use Rattle.fields.specs.Body.{head₀, tail₀}
use Rattle.rules.specs.declared.Task.{Task}
use Rattle.rules.specs.declared.Idle.{Idle}
use Rattle.rules.specs.declared.Inversion.{Inversion}
use Rattle.rules.specs.Tasks.{task_in, Set, task, release, jobs, hyperperiod, KeepsItsRule, set_with}
use Rattle.rules.specs.Setting.{lowest, instant}
use Rattle.rules.specs.Priority.{slot, all_started, least_release, is_left, waiting, setting_of, setting}
use Rattle.rules.specs.Decision.{Choice, start_task, idle_at, first_idle, recorded, decide, delays, is_of, wait_till}
use Rattle.rules.specs.DecisionRule.{IdleStarts, Waiting, NextInstant, Recorded, Decides, uses_idle, starts_recorded, starts_waiting, DecidesBy}
use Rattle.rules.specs.Judging.{inversion_in_range}
use Rattle.rules.specs.Offsets.{Shown, unreadable, no_record, shows, Source, lent, own_delay, idle_now, Standing, shown_delays}
use Rattle.rules.specs.GoingOn.{DecidesAt}
use Rattle.rules.proofs.Cases.{by_bool, by_option, by_le, clash, differ, both_true, both_in}
use Rattle.rules.proofs.Theory.{Pairs}
use Rattle.rules.proofs.Lowest.{Tests, lowest_is, is_lowest, none_holds, holds_none}
use Rattle.rules.proofs.RisingPairs.{delay_has, has_delay, member_passes}
use Rattle.rules.proofs.RoundTrip.{decided_by}
use Rattle.rules.proofs.Derived.{Every}
use Rattle.rules.proofs.Replayed.{first_idle_some}
use Rattle.rules.proofs.NextTurns.{shown_choice, idle_now_some, lent_inversion_in_range}
use Rattle.rules.proofs.PriorityLaws.{left_not_all, least_below, due_in_cycle}

-- where all jobs have started, the least release is the end of the cycle
pub all_started_least : (h : ℕ) (ts : List Task) (x : List ℕ) → all_started h ts x ≡ true → least_release h ts x ≡ h
all_started_least h [] x e = refl
all_started_least h (t ∷ ts) x e =
    by_bool (ltb (head₀ x) (jobs h t)) (λ b. differ (sym e ∙ rw (b, all_started)))
    (λ b. rw (b, least_release) (all_started_least h ts (tail₀ x) (rw (b, all_started) at e)))

-- with a job left, some job is waiting from the least release on
some_waiting : (h : ℕ) (ts : List Task) (x : List ℕ) (t : ℕ) → ((i : ℕ) → KeepsItsRule (task_in ts i)) → all_started h ts x ≡ false → least_release h ts x ≤ t →
    (i : ℕ) × Waiting (set_with ts) h x t i
some_waiting h [] x t keep o l = differ o
some_waiting h (t₀ ∷ ts) x t keep o l =
    let later : all_started h ts (tail₀ x) ≡ false → least_release h ts (tail₀ x) ≤ t → (i : ℕ) × Waiting (set_with (t₀ ∷ ts)) h x t i =
    λ o' l'. let w = some_waiting h ts (tail₀ x) t (λ i. keep (suc i)) o' l' in
    (suc w.0, record { a_task = omega (arith, w.1.a_task); left = w.1.left; released = w.1.released }) in
    by_bool (ltb (head₀ x) (jobs h t₀))
    (λ b. by_le (release t₀ (head₀ x)) t (λ a. (0, record { a_task = omega arith; left = ltb-true _ _ b; released = a }))
    (λ a. let l' : least_release h ts (tail₀ x) ≤ t = omega (arith, rw (b, least_release) at l) in
    by_bool (all_started h ts (tail₀ x))
    (λ o'. absurd
    (omega
    (arith, (keep 0).takes_time, (keep 0).fits, all_started_least h ts (tail₀ x) o', due_in_cycle h (head₀ x) t₀ (keep 0) (ltb-true _ _ b))))
    (λ o'. later o' l')))
    (λ b. later (rw (b, all_started) at o) (rw (b, least_release) at l))

module _ (ts : Set) (h : ℕ) where
  -- the test of waiting
  waiting_tests : (x : List ℕ) (t : ℕ) → Tests (length ts.tasks) (waiting ts h x t) (Waiting ts h x t)
  waiting_tests x t = record {
    below = λ i w. w.a_task;
    says = λ i l e. let a = both_true (is_left ts h x i) _ e in record { a_task = l; left = ltb-true _ _ a.0; released = leb-true _ _ a.1 };
    passes = λ i w. both_in _ _ (lt-ltb _ _ w.left) (le-leb _ _ w.released);
  }

  -- a task that is started has its job waiting
  pub started_waits : {FirstUnused : Idle → Type 0} {Has : Inversion → Type 0} {x : List ℕ} {t i : ℕ} {c : Choice} → Decides ts h FirstUnused Has x t c →
      c ≡ start_task i → Waiting ts h x t i
  started_waits (uses_idle s) e = clash (cc)
  started_waits {i = i} (starts_recorded {i = j} unused w) e =
      let q : j ≡ i = cc in
      let r = w.holds in
      rw (← q) (record { a_task = r.a_task; left = r.left; released = omega (arith, r.falls_now) })
  started_waits {i = i} (starts_waiting {i = j} unused none_recorded w) e = let q : j ≡ i = cc in rw (← q) w.holds

  -- the rule idles or starts a job, and never waits by itself
  pub rule_never_waits : {FirstUnused : Idle → Type 0} {Has : Inversion → Type 0} {x : List ℕ} {t r : ℕ} {c : Choice} → Decides ts h FirstUnused Has x t c →
      c ≡ wait_till r → ⊥
  rule_never_waits (uses_idle s) e = clash (cc)
  rule_never_waits (starts_recorded unused w) e = clash (cc)
  rule_never_waits (starts_waiting unused none_recorded w) e = clash (cc)

  -- at the next instant not all jobs have started
  pub job_left : {x : List ℕ} {f t : ℕ} → NextInstant ts h x f t → all_started h ts.tasks x ≡ false
  job_left {x} n = let w = n.some_job in left_not_all h ts.tasks x w.0 w.1.a_task w.1.left

  module _ (keep : (i : ℕ) → KeepsItsRule (task ts i)) where
    -- the instant that is worked out is the next
    pub instant_next : (x : List ℕ) (f : ℕ) → all_started h ts.tasks x ≡ false → NextInstant ts h x f (instant (setting_of ts h) x f)
    instant_next x f o = record {
      not_before = omega arith;
      some_job = some_waiting h ts.tasks x (instant (setting_of ts h) x f) keep o (omega arith);
      none_before = λ u lo hi i w. omega (arith, w.released, least_below h ts.tasks x i w.a_task w.left);
    }

    -- and the next instant is the one that is worked out
    pub next_instant : {x : List ℕ} {f t : ℕ} → NextInstant ts h x f t → instant (setting_of ts h) x f ≡ t
    next_instant {x} {f} {t} n =
        let u : ℕ = instant (setting_of ts h) x f in
        let w = n.some_job in
        let by-then : u ≤ t = omega (arith, n.not_before, w.1.released, least_below h ts.tasks x w.0 w.1.a_task w.1.left) in
        let v = (instant_next x f (job_left n)).some_job in
        by_le t u (λ l. omega arith) (λ l. absurd (n.none_before u (omega arith) l v.0 v.1))

    -- with a job left, the next instant is the larger of f and the least release
    pub next_instants : (x : List ℕ) (f t : ℕ) → NextInstant ts h x f t ↔ ((all_started h ts.tasks x ≡ false) × (instant (setting_of ts h) x f ≡ t))
    next_instants x f t = (λ n. (job_left n, next_instant n), λ w. rw (← w.1) (instant_next x f w.0))

  -- what the rule is worked out from stands for the records: the length of an idle record to be used at t, and the delay of each task's next job
  pub record StandsFor (FirstUnused : Idle → Type 0) (Has : Inversion → Type 0) (x : List ℕ) (t : ℕ) (length-now : Option ℕ) (delay : ℕ → Option ℕ) : Type 0 where
    pub an_idle : (l : ℕ) → length-now ≡ some l → (r : Idle) × IdleStarts FirstUnused t r × (r.length ≡ l)
    pub its_length : (r : Idle) → IdleStarts FirstUnused t r → length-now ≡ some r.length
    pub an_inversion : (i d : ℕ) → i < length ts.tasks → delay i ≡ some d →
        (r : Inversion) × Has r × (r.task ≡ i) × (r.job ≡ slot x i) × (r.delay ≡ d) × (slot x i < jobs h (task ts i))
    pub its_delay : (i : ℕ) (r : Inversion) → i < length ts.tasks → Has r → r.task ≡ i → r.job ≡ slot x i → delay i ≡ some r.delay

  module _ {FirstUnused : Idle → Type 0} {Has : Inversion → Type 0} {x : List ℕ} {t : ℕ} {length-now : Option ℕ} {delay : ℕ → Option ℕ}
      (S : StandsFor FirstUnused Has x t length-now delay) where
    -- the test of a record for this instant
    recorded_tests : Tests (length ts.tasks) (recorded (setting_of ts h) delay x t) (Recorded ts h Has x t)
    recorded_tests = record {
      below = λ i w. w.a_task;
      says = λ i l e. by_option (delay i) (λ n. differ (sym e ∙ rw n))
          (λ d n. let (r, has, a, b, c, left) = S.an_inversion i d l n in
          let now : release (task ts i) (slot x i) + d ≡ t = eqb-true _ _ (rw n at e) in
          record { a_task = l; left = left; inversion = r; has = has; its_task = a; its_job = b; falls_now = omega arith });
      passes = λ i w. rw (S.its_delay i w.inversion w.a_task w.has w.its_task w.its_job) (eq-eqb _ _ w.falls_now);
    }

    -- no idle record is to be used
    none_idles : length-now ≡ none → (r : Idle) → IdleStarts FirstUnused t r → ⊥
    none_idles n r s = let g : some r.length ≡ none = sym (S.its_length r s) ∙ n in clash (cc)

    idles_none : ((r : Idle) → IdleStarts FirstUnused t r → ⊥) → length-now ≡ none
    idles_none unused = by_option length-now (λ n. n) (λ l e. let (r, s, q) = S.an_idle l e in absurd (unused r s))

    -- what is worked out is what the rule decides
    pub decided : (i : ℕ) × Waiting ts h x t i → Decides ts h FirstUnused Has x t (decide (setting_of ts h) x t length-now delay)
    decided w =
        by_option length-now
        (λ n. by_option (lowest (length ts.tasks) (recorded (setting_of ts h) delay x t))
        (λ o. by_option (lowest (length ts.tasks) (waiting ts h x t)) (λ p. absurd (none_holds (waiting_tests x t) p w.0 w.1))
        (λ i p. rw (n, o, p) (starts_waiting (none_idles n) (none_holds recorded_tests o) (lowest_is (waiting_tests x t) p))))
        (λ i o. rw (n, o) (starts_recorded (none_idles n) (lowest_is recorded_tests o))))
        (λ l e. let (r, s, q) = S.an_idle l e in rw (e, ← q) (uses_idle s))

    -- and what the rule decides is what is worked out
    pub decides : {c : Choice} → Decides ts h FirstUnused Has x t c → decide (setting_of ts h) x t length-now delay ≡ c
    decides (uses_idle {r = r} s) = rw (S.its_length r s)
    decides (starts_recorded unused w) = rw (idles_none unused, is_lowest recorded_tests w)
    decides (starts_waiting unused none_recorded w) = rw (idles_none unused, holds_none recorded_tests none_recorded, is_lowest (waiting_tests x t) w)

    -- at an instant with a job waiting they are the same
    pub decisions : (i : ℕ) × Waiting ts h x t i → (c : Choice) → Decides ts h FirstUnused Has x t c ↔ (decide (setting_of ts h) x t length-now delay ≡ c)
    decisions w c = (decides, λ e. rw (← e) (decided w))

  -- by the idle records that are left and a table's inversion records, which keep their rules
  module _ (p : List Inversion) (pairs : Pairs 0 0 p) (ranges : Every (inversion_in_range ts h) p) where
    pub tables_stand : (x : List ℕ) (t : ℕ) (idles : List Idle) →
        StandsFor (λ (r : Idle). (behind : List Idle) × (idles ≡ r ∷ behind)) (λ (r : Inversion). Memᴰ r p) x t (first_idle idles t) (delays (setting_of ts h) p x)
    tables_stand x t idles = record {
      an_idle = λ l e. first_idle_some idles t l e (λ r rest q s u. (r, record { first_unused = (rest, q); starts_now = s }, u));
      its_length = λ r s. let e : idles ≡ r ∷ s.first_unused.0 = s.first_unused.1 in rw (e, eq-eqb _ _ s.starts_now, idle_at);
      an_inversion = λ i d l e.
          let m = delay_has p i (slot x i) d e in
          let a = both_true (ltb i (length ts.tasks)) _ (member_passes (inversion_in_range ts h) p ranges m) in
          let b = both_true (ltb (slot x i) (jobs h (task ts i))) _ a.1 in
          (record { task = i; job = slot x i; delay = d }, m, refl, refl, refl, ltb-true _ _ b.0);
      its_delay = λ i r l m a b. rw (a, b) at (has_delay 0 0 p pairs m);
    }

    pub tables_decide : (idles : List Idle) (x : List ℕ) (t : ℕ) → (i : ℕ) × Waiting ts h x t i → (c : Choice) →
        DecidesBy ts h idles p x t c ↔ (decided_by (setting_of ts h) x t idles p ≡ c)
    tables_decide idles x t w c = decisions (tables_stand x t idles) w c

-- the record of a job that an offset shows
own_delay_some : {A : Type 0} (k : Shown Inversion) (i j d : ℕ) → own_delay k i j ≡ some d →
    ((r : Inversion) (after : ℕ) → k ≡ shows r after → r.task ≡ i → r.job ≡ j → r.delay ≡ d → A) → A
own_delay_some unreadable i j d e go = clash (cc)
own_delay_some no_record i j d e go = clash (cc)
own_delay_some (shows r after) i j d e go =
    by_bool (is_of r i j)
    (λ b. let g : some r.delay ≡ some d = rw (b, own_delay) at e in
    let a = both_true (eqb r.task i) _ b in
    go r after refl (eqb-true _ _ a.0) (eqb-true _ _ a.1) (cc))
    (λ b. let g : none ≡ some d = rw (b, own_delay) at e in clash (cc))

-- by the records that the offsets of an image show
module _ (bytes : List ℕ) (ts : Set) (a : Standing (List ℕ)) (t : ℕ) where
  abbrev S : Source
  S = lent bytes ts

  abbrev h : ℕ
  h = hyperperiod ts

  -- an offset of the same task shows the same
  same_offset : {i j : ℕ} → i ≡ j → S.inversion_shown (slot a.offsets i) ≡ S.inversion_shown (slot a.offsets j)
  same_offset e = ap (λ (m : ℕ). S.inversion_shown (slot a.offsets m)) e

  offsets_stand : StandsFor ts h (λ (r : Idle). (after : ℕ) × (S.idle_shown a.idle ≡ shows r after))
      (λ (r : Inversion). (after : ℕ) × (S.inversion_shown (slot a.offsets r.task) ≡ shows r after)) a.next t
      (idle_now (S.idle_shown a.idle) t) (shown_delays (setting ts) S a.next a.offsets)
  offsets_stand = record {
    an_idle = λ l e. idle_now_some (S.idle_shown a.idle) t l e (λ r after q s u. (r, record { first_unused = (after, q); starts_now = s }, u));
    its_length = λ r s. let q : S.idle_shown a.idle ≡ shows r s.first_unused.0 = s.first_unused.1 in
        rw (q, eq-eqb _ _ s.starts_now, idle_at);
    an_inversion = λ i d l e.
        own_delay_some (S.inversion_shown (slot a.offsets i)) i (slot a.next i) d e
        (λ r after q u v w.
        let b = both_true (ltb r.task (length ts.tasks)) _ (lent_inversion_in_range bytes ts (slot a.offsets i) r after q) in
        let c = both_true (ltb r.job (jobs h (task ts r.task))) _ b.1 in
        let left : r.job < jobs h (task ts r.task) = ltb-true _ _ c.0 in
        (r, (after, same_offset u ∙ q), u, v, w, rw (u, v) at left));
    its_delay = λ i r l shown u v.
        let q : S.inversion_shown (slot a.offsets i) ≡ shows r shown.0 = sym (same_offset u) ∙ shown.1 in
        rw (q, eq-eqb _ _ u, eq-eqb _ _ v, own_delay);
  }

  pub offsets_decide : (i : ℕ) × Waiting ts h a.next t i → (c : Choice) →
      DecidesAt ts h S a t c ↔ (shown_choice (setting ts) S a t ≡ c)
  offsets_decide w c = decisions ts h offsets_stand w c
