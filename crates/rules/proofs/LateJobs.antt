-- Replay comes to the end of the cycle or to a late job, as the decision rule has it: what it gives is the starts that it makes, and 18 is exactly a late
-- job. A job that replay starts is waiting, so the only rule that it can break is 15. Assumes nothing.
use mathlib.Core.Path.{◌≡◌, refl, sym, ◌∙◌, ap}
use mathlib.Core.Logic.{◌⊎◌, inl, inr}
use mathlib.Core.List.{List, [], ◌∷◌}
use mathlib.Core.Option.{none}
use Prim.Native.Nat.{ℕ, zero, suc, ◌+◌, ◌≤◌, ◌<◌}
use native.Mathlib.Omega.{arith}
use lib.ListN.{length}
use Rattle.rules.specs.declared.Entry.{Entry}
use Rattle.rules.specs.declared.Idle.{Idle}
use Rattle.rules.specs.declared.Inversion.{Inversion}
use Rattle.rules.specs.declared.Refusal.{Refusal}
use Rattle.rules.specs.Refusals.{Judged, gives, refuses, refusal}
use Rattle.rules.specs.Tasks.{Set, task, due, jobs, hyperperiod, KeepsItsRule, set_fault}
use Rattle.rules.specs.Setting.{Setting, Tables, instant}
use Rattle.rules.specs.Priority.{slot, all_started, late, entry_breaks, setting_of, setting}
use Rattle.rules.specs.Decision.{Choice, idle_for, start_task, wait_till, later_idles, start_before, replay_from, replay}
use Rattle.rules.specs.DecisionRule.{Waiting, Replaying, cycle_start, after_idling, after_starting, TooLate, DecidesNext, Replays}
use Rattle.rules.specs.Judging.{inversion_in_range, records_fault}
use Rattle.rules.specs.Order.{LateAfter, late_now, after_idle, after_start}
use Rattle.rules.proofs.Cases.{by_bool, by_le, by_nat, clash, gives_in}
use Rattle.rules.proofs.RoundTrip.{decided_by, turn_idles, turn_starts, turn_refuses}
use Rattle.rules.proofs.Theory.{Pairs}
use Rattle.rules.proofs.Derived.{Every}
use Rattle.rules.proofs.Replayed.{by_decision}
use Rattle.rules.proofs.Decided.{started_waits, rule_never_waits, job_left, instant_next, next_instant, tables_decide}
use Rattle.rules.proofs.PriorityLaws.{StartKeepsRules, keeps_rules, breaks_none, ends_in_cycle}
use Rattle.rules.proofs.GoodSets.{good_set, good_rules}
use Rattle.rules.proofs.PossibleStates.{none_left, all_have_started}
use Rattle.rules.proofs.Records.{RecordsKeepRules, records_keep}
use Rattle.rules.proofs.Turns.{InRange, rising_in_range, idles_within}

module _ (ts : Set) (h : ℕ) where
  -- a waiting job that does not end late keeps all rules
  pub waits_keeps : (x : List ℕ) (t i : ℕ) → Waiting ts h x t i → (due (task ts i) (slot x i) < t + (task ts i).time → ⊥) → StartKeepsRules ts h x t i t
  waits_keeps x t i w n =
      record {
        a_task = w.a_task;
        left = w.left;
        released = w.released;
        free = omega arith;
        in_time = by_le (t + (task ts i).time) (due (task ts i) (slot x i)) (λ l. l) (λ l. absurd (n l));
      }

  -- a job that ends late breaks a rule, and replay reports 18
  pub ends_late : (x : List ℕ) (t i : ℕ) → due (task ts i) (slot x i) < t + (task ts i).time → (setting_of ts h).breaks_in_replay x t i t ≡ 18
  ends_late x t i l =
      by_nat (entry_breaks ts h x t i t) (λ e. absurd (omega (arith, (keeps_rules ts h x t i t e).in_time))) (λ n e. rw e)

module _ (ts : Set) (p : List Inversion) (good : set_fault ts ≡ none) (pairs : Pairs 0 0 p) (ranges : Every (inversion_in_range ts (hyperperiod ts)) p) where
  keep : (i : ℕ) → KeepsItsRule (task ts i)
  keep = good_rules (good_set ts good)

  abbrev G : Setting
  G = setting ts

  abbrev h : ℕ
  h = hyperperiod ts

  -- replay from where it stands
  abbrev from : ℕ → Replaying → Judged (List Entry)
  from turns a = replay_from G turns a.next a.free a.unused p

  -- so many turns reach the end of the cycle
  pub record Reaches (turns : ℕ) (a : Replaying) : Type 0 where
    pub in_range : InRange h a.unused
    pub by_end : a.free ≤ h
    pub enough : h < turns + a.free

  -- what is decided next is worked out
  decided_next : {a : Replaying} {t : ℕ} {c : Choice} → DecidesNext ts h p a t c → decided_by G a.next t a.unused p ≡ c
  decided_next {a} {t} {c} d = (tables_decide ts h p pairs ranges a.unused a.next t d.at_instant.some_job c).0 d.decides

  -- a turn that idles
  idle_turn : {turns : ℕ} {a : Replaying} {t : ℕ} {r : Idle} {behind : List Idle} → a.unused ≡ r ∷ behind → DecidesNext ts h p a t (idle_for r.length) →
      Reaches (suc turns) a → Reaches turns (after_idling a t r behind) × (from (suc turns) a ≡ from turns (after_idling a t r behind))
  idle_turn {turns} {a} {t} {r} {behind} q d k =
      let z : InRange h (r ∷ behind) = rw q at k.in_range in
      let behind-is : later_idles a.unused ≡ behind = ap later_idles q in
      idles_within G a.next t a.unused p r.length k.in_range (decided_next d)
      (λ some ends. (
        record { in_range = z.2; by_end = omega arith; enough = omega (arith, k.enough, d.at_instant.not_before) },
        turn_idles G turns a.next a.free t a.unused p (next_instant ts h keep d.at_instant) (job_left ts h d.at_instant) r.length
            (decided_next d)
            ∙ rw behind-is,
      ))

  -- a turn that starts a job
  start_turn : {turns : ℕ} {a : Replaying} {t i : ℕ} → DecidesNext ts h p a t (start_task i) → (TooLate ts a.next i t → ⊥) → Reaches (suc turns) a →
      Reaches turns (after_starting ts a t i)
      × (from (suc turns) a ≡ start_before (record { task = i; start = t }) (from turns (after_starting ts a t i)))
  start_turn {turns} {a} {t} {i} d n k =
      let kept : StartKeepsRules ts h a.next t i t = waits_keeps ts h a.next t i (started_waits ts h d.decides refl) n in (
        record {
          in_range = k.in_range;
          by_end = ends_in_cycle ts h keep a.next t i t kept;
          enough = omega (arith, (keep i).takes_time, k.enough, d.at_instant.not_before);
        },
        turn_starts G turns a.next a.free t a.unused p (next_instant ts h keep d.at_instant) (job_left ts h d.at_instant) i (decided_next d)
            (ap late (breaks_none ts h a.next t i t kept)),
      )

  -- where replay comes to a late job, it refuses with 18 and the number of starts before
  pub late_refused_from : {a : Replaying} {m : ℕ} → LateAfter ts h p a m → (turns : ℕ) → Reaches turns a → from turns a ≡ refuses (refusal 18 m)
  late_refused_from l zero k = absurd (omega arith)
  late_refused_from (late_now {a = a} {t = t} {i = i} d l) (suc turns) k =
      turn_refuses G turns a.next a.free t a.unused p (next_instant ts h keep d.at_instant) (job_left ts h d.at_instant) i 17 (decided_next d)
      (ends_late ts h a.next t i l)
  late_refused_from {a = a} (after_idle {t = t} {r = r} {behind = behind} q d l) (suc turns) k =
      let w = idle_turn q d k in w.1 ∙ late_refused_from {a = after_idling a t r behind} l turns w.0
  late_refused_from {a = a} (after_start {t = t} {i = i} d n l) (suc turns) k =
      let w = start_turn d n k in w.1 ∙ ap (start_before (record { task = i; start = t })) (late_refused_from {a = after_starting ts a t i} l turns w.0)

  -- where it comes to the end of the cycle, it gives its starts
  pub replays_given_from : {a : Replaying} {τ : List Entry} → Replays ts h p a τ → (turns : ℕ) → Reaches turns a → from turns a ≡ gives τ
  replays_given_from r zero k = absurd (omega arith)
  replays_given_from (Replays.ends {a = a} e) (suc turns) k = let o = all_have_started h ts.tasks a.next e in rw (o, replay_from)
  replays_given_from {a = a} (Replays.idles {t = t} {r = first} {behind = behind} q d r) (suc turns) k =
      let w = idle_turn q d k in w.1 ∙ replays_given_from {a = after_idling a t first behind} r turns w.0
  replays_given_from {a = a} (Replays.starts {t = t} {i = i} d n r) (suc turns) k =
      let w = start_turn d n k in w.1 ∙ ap (start_before (record { task = i; start = t })) (replays_given_from {a = after_starting ts a t i} r turns w.0)

  -- replay stands at the end, or it idles, starts a job, or comes to one that is too late
  by_rule : {A : Type 0} (a : Replaying) → (((i : ℕ) → i < length ts.tasks → jobs h (task ts i) ≤ slot a.next i) → A) →
      ((t : ℕ) (r : Idle) (behind : List Idle) → a.unused ≡ r ∷ behind → DecidesNext ts h p a t (idle_for r.length) → A) →
      ((t i : ℕ) → DecidesNext ts h p a t (start_task i) → (TooLate ts a.next i t → ⊥) → A) →
      ((t i : ℕ) → DecidesNext ts h p a t (start_task i) → TooLate ts a.next i t → A) → A
  by_rule {A} a ended idling starting too_late =
      let t : ℕ = instant G a.next a.free in
      by_bool (all_started h ts.tasks a.next) (λ o. ended (none_left h ts a.next o))
      (λ o.
      let n = instant_next ts h keep a.next a.free o in
      let next : (c : Choice) → decided_by G a.next t a.unused p ≡ c → DecidesNext ts h p a t c =
      λ c d. record { at_instant = n; decides = (tables_decide ts h p pairs ranges a.unused a.next t n.some_job c).1 d } in
      let start : (i : ℕ) → decided_by G a.next t a.unused p ≡ start_task i → A =
      λ i d. by_le (t + (task ts i).time) (due (task ts i) (slot a.next i)) (λ l. starting t i (next (start_task i) d) (λ k. omega arith))
      (λ l. too_late t i (next (start_task i) d) l) in
      by_decision G a.next t a.unused p (λ r behind q s d. idling t r behind q (next (idle_for r.length) d)) (λ i s d. start i d)
      (λ i b d. start i d) (λ w b d. absurd (rule_never_waits ts h (next (wait_till w) d).decides refl)))

  -- replay comes to the end of the cycle or to a late job
  comes_to : (turns : ℕ) (a : Replaying) → Reaches turns a → ((τ : List Entry) × Replays ts h p a τ) ⊎ ((m : ℕ) × LateAfter ts h p a m)
  comes_to zero a k = absurd (omega arith)
  comes_to (suc turns) a k =
      by_rule a (λ e. inl ([], Replays.ends e)) (λ t r behind q d. idled t r behind q d (comes_to turns (after_idling a t r behind) (idle_turn q d k).0))
      (λ t i d n. begun t i d n (comes_to turns (after_starting ts a t i) (start_turn d n k).0)) (λ t i d l. inr (0, late_now d l))
    where
      idled : (t : ℕ) (r : Idle) (behind : List Idle) → a.unused ≡ r ∷ behind → DecidesNext ts h p a t (idle_for r.length) →
          ((τ : List Entry) × Replays ts h p (after_idling a t r behind) τ) ⊎ ((m : ℕ) × LateAfter ts h p (after_idling a t r behind) m) →
          ((τ : List Entry) × Replays ts h p a τ) ⊎ ((m : ℕ) × LateAfter ts h p a m)
      idled t r behind q d (inl w) = inl (w.0, Replays.idles q d w.1)
      idled t r behind q d (inr w) = inr (w.0, after_idle q d w.1)

      begun : (t i : ℕ) → DecidesNext ts h p a t (start_task i) → (TooLate ts a.next i t → ⊥) →
          ((τ : List Entry) × Replays ts h p (after_starting ts a t i) τ) ⊎ ((m : ℕ) × LateAfter ts h p (after_starting ts a t i) m) →
          ((τ : List Entry) × Replays ts h p a τ) ⊎ ((m : ℕ) × LateAfter ts h p a m)
      begun t i d n (inl w) = inl (record { task = i; start = t } ∷ w.0, Replays.starts d n w.1)
      begun t i d n (inr w) = inr (suc w.0, after_start d n w.1)

module _ (ts : Set) (X : Tables) (good : set_fault ts ≡ none) (records : records_fault ts (hyperperiod ts) X ≡ none) where
  kept : RecordsKeepRules ts (hyperperiod ts) X
  kept = records_keep ts (hyperperiod ts) X records

  -- replay has turns enough for the cycle
  whole_cycle : Reaches ts X.inversions good kept.pairs kept.in_range (suc (hyperperiod ts)) (cycle_start X)
  whole_cycle = record { in_range = rising_in_range (hyperperiod ts) 0 X.idles kept.rising; by_end = omega arith; enough = omega arith }

  -- where replay comes to a late job, it refuses with 18 and the number of starts before
  pub late_refused : (m : ℕ) → LateAfter ts (hyperperiod ts) X.inversions (cycle_start X) m → replay (setting ts) [] X ≡ refuses (refusal 18 m)
  late_refused m l = late_refused_from ts X.inversions good kept.pairs kept.in_range l (suc (hyperperiod ts)) whole_cycle

  -- where it comes to the end of the cycle, it gives its starts
  pub replays_given : (τ : List Entry) → Replays ts (hyperperiod ts) X.inversions (cycle_start X) τ → replay (setting ts) [] X ≡ gives τ
  replays_given τ r = replays_given_from ts X.inversions good kept.pairs kept.in_range r (suc (hyperperiod ts)) whole_cycle

  -- one of the two comes about
  by_coming : {A : Type 0} → ((τ : List Entry) → Replays ts (hyperperiod ts) X.inversions (cycle_start X) τ → A) →
      ((m : ℕ) → LateAfter ts (hyperperiod ts) X.inversions (cycle_start X) m → A) → A
  by_coming {A} ended late_job = in-case (comes_to ts X.inversions good kept.pairs kept.in_range (suc (hyperperiod ts)) (cycle_start X) whole_cycle)
    where
      in-case : ((τ : List Entry) × Replays ts (hyperperiod ts) X.inversions (cycle_start X) τ) ⊎ ((m : ℕ) × LateAfter ts (hyperperiod ts) X.inversions (cycle_start X) m) → A
      in-case (inl w) = ended w.0 w.1
      in-case (inr w) = late_job w.0 w.1

  -- it refuses nothing else
  pub refused_late : (r : Refusal) → replay (setting ts) [] X ≡ refuses r → (m : ℕ) × (r ≡ refusal 18 m) × LateAfter ts (hyperperiod ts) X.inversions (cycle_start X) m
  refused_late r e =
      by_coming (λ τ w. let g : gives τ ≡ refuses r = sym (replays_given τ w) ∙ e in clash (cc))
      (λ m l. let g : refuses r ≡ refuses (refusal 18 m) = sym e ∙ late_refused m l in (m, cc, l))

  -- and gives nothing else
  pub given_replays : (τ : List Entry) → replay (setting ts) [] X ≡ gives τ → Replays ts (hyperperiod ts) X.inversions (cycle_start X) τ
  given_replays τ e =
      by_coming (λ σ w. rw (← gives_in σ τ (sym (replays_given σ w) ∙ e)) w)
      (λ m l. let g : gives τ ≡ refuses (refusal 18 m) = sym e ∙ late_refused m l in clash (cc))
