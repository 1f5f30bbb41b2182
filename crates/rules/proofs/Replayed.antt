-- What replay gives is a valid timetable; how a decision and a turn of replay come about. Assumes nothing.
use mathlib.Core.Path.{◌≡◌, refl, sym, ◌∙◌, ap}
use mathlib.Core.Bool.{true, false}
use mathlib.Core.List.{List, [], ◌∷◌}
use mathlib.Core.Option.{Option, none, some}
use Prim.Native.Nat.{ℕ, zero, suc, ◌≤◌}
use native.Mathlib.Omega.{arith}
use lib.Dec.{eqb}
use borrow.Author.Tests.{eqb-true}
use Rattle.rules.specs.declared.Entry.{Entry}
use Rattle.rules.specs.declared.Idle.{Idle}
use Rattle.rules.specs.declared.Inversion.{Inversion}
use Rattle.rules.specs.Refusals.{gives, refuses, refusal}
use Rattle.rules.specs.Setting.{Setting, Tables, run, wait, lowest}
use Rattle.rules.specs.Irregularities.{tables_of}
use Rattle.rules.specs.Decision.{idle_for, start_task, wait_till, idles_till, starts, waits_till, idle_at, first_idle, later_idles, as_baseline, recorded, step, delays, replay_from, replay}
use Rattle.rules.proofs.Cases.{by_bool, by_act, by_option, by_step, by_judged, clash, gives_in}
use Rattle.rules.proofs.Theory.{Laws, ValidFrom, finished, entry}
use Rattle.rules.proofs.Steps.{decide_waits, idle_used, starts_forward, waits_forward}
use Rattle.rules.proofs.RoundTrip.{decided_by, inversion_next, baseline_last, round_trip}

-- an idle record that starts at an instant
pub idle_at_some : (r : Idle) (t l : ℕ) → idle_at r t ≡ some l → (r.start ≡ t) × (r.length ≡ l)
idle_at_some r t l h =
    by_bool (eqb r.start t)
    (λ b. let g : some r.length ≡ some l = rw (b, idle_at) at h in (eqb-true r.start t b, cc))
    (λ b. let g : none ≡ some l = rw (b, idle_at) at h in clash (cc))

-- the first unused idle record
pub first_idle_some : {A : Type 0} (idles : List Idle) (t l : ℕ) → first_idle idles t ≡ some l →
    ((r : Idle) (rest : List Idle) → idles ≡ r ∷ rest → r.start ≡ t → r.length ≡ l → A) → A
first_idle_some [] t l h go = clash (cc)
first_idle_some (r ∷ rest) t l h go = let a = idle_at_some r t l h in go r rest refl a.0 a.1

module _ (G : Setting) where
  -- how a decision comes about: by the first unused idle record, by the lowest task with a record for now, or by the baseline
  module _ {A : Type 0} (x : G.Started) (t : ℕ) (idles : List Idle) (p : List Inversion) where
    pub by_decision : ((r : Idle) (rest : List Idle) → idles ≡ r ∷ rest → r.start ≡ t → decided_by G x t idles p ≡ idle_for r.length → A) →
        ((i : ℕ) → lowest G.tasks (recorded G (delays G p x) x t) ≡ some i → decided_by G x t idles p ≡ start_task i → A) →
        ((i : ℕ) → G.baseline x t ≡ run i → decided_by G x t idles p ≡ start_task i → A) →
        ((r : ℕ) → G.baseline x t ≡ wait r → decided_by G x t idles p ≡ wait_till r → A) → A
    by_decision idle recorded-now runs-now waits-now =
        by_option (first_idle idles t)
        (λ n. by_option (lowest G.tasks (recorded G (delays G p x) x t))
        (λ o. let d : decided_by G x t idles p ≡ as_baseline (G.baseline x t) = baseline_last G x t idles p n o in
        by_act (G.baseline x t) (λ i b. runs-now i b (d ∙ ap as_baseline b)) (λ r b. waits-now r b (d ∙ ap as_baseline b)))
        (λ i o. recorded-now i o (inversion_next G x t idles p i n o)))
        (λ l e. first_idle_some idles t l e (λ r rest q s u. idle r rest q s (rw (e, u))))

  -- replay waits only as the baseline does
  pub waits_by_baseline : (x : G.Started) (t : ℕ) (idles : List Idle) (p : List Inversion) (r : ℕ) → decided_by G x t idles p ≡ wait_till r →
      G.baseline x t ≡ wait r
  waits_by_baseline x t idles p r h = decide_waits G x t (first_idle idles t) (delays G p x) r h

  module _ {A : Type 0} (turns : ℕ) (x : G.Started) (f : ℕ) (idles : List Idle) (p : List Inversion) where
    -- how replay comes to give a timetable: all has started, or it idles, starts a job or waits, and goes on
    pub by_replay : (τ : List Entry) → replay_from G (suc turns) x f idles p ≡ gives τ → (G.all_started x ≡ true → τ ≡ [] → A) →
        ((r : ℕ) → G.all_started x ≡ false → step G x f (first_idle idles) (delays G p x) ≡ idles_till r →
        replay_from G turns x r (later_idles idles) p ≡ gives τ → A) →
        ((i t : ℕ) (τ' : List Entry) → G.all_started x ≡ false → step G x f (first_idle idles) (delays G p x) ≡ starts i t →
        τ ≡ record { task = i; start = t } ∷ τ' → replay_from G turns (G.start_job x i) (G.free_after i t) idles p ≡ gives τ' → A) →
        ((r : ℕ) → G.all_started x ≡ false → step G x f (first_idle idles) (delays G p x) ≡ waits_till r → replay_from G turns x r idles p ≡ gives τ → A) →
        A
    by_replay τ h ends idling starting waiting =
        by_bool (G.all_started x) (λ o. ends o (gives_in τ [] (sym h ∙ rw (o, replay_from))))
        (λ o. by_step (step G x f (first_idle idles) (delays G p x)) (λ r s. idling r o s (rw (o, s, replay_from) at h))
        (λ i t s. by_judged (replay_from G turns (G.start_job x i) (G.free_after i t) idles p)
        (λ τ' z. starting i t τ' o s (gives_in τ _ (sym h ∙ rw (o, s, replay_from) (rw z))) z)
        (λ r z. let g : gives τ ≡ refuses (refusal r.number (suc r.place)) = sym h ∙ rw (o, s, replay_from) (rw z) in clash (cc)))
        (λ r s. waiting r o s (rw (o, s, replay_from) at h))
        (λ number s. let g : gives τ ≡ refuses (refusal number 0) = sym h ∙ rw (o, s, replay_from) in clash (cc)))

  -- a replay that gives a start had a job left
  pub replay_left : (N : ℕ) (x : G.Started) (f : ℕ) (idles : List Idle) (p : List Inversion) (e : Entry) (τ : List Entry) →
      replay_from G N x f idles p ≡ gives (e ∷ τ) → G.all_started x ≡ false
  replay_left zero x f idles p e τ h = clash (cc)
  replay_left (suc N) x f idles p e τ h =
      by_replay N x f idles p (e ∷ τ) h (λ o q. clash (cc)) (λ r o s g. o) (λ i t σ o s q g. o) (λ r o s g. o)

  -- one that gives no more start has started all jobs
  pub replay_end : (N : ℕ) (x : G.Started) (f : ℕ) (idles : List Idle) (p : List Inversion) → replay_from G N x f idles p ≡ gives [] →
      G.all_started x ≡ true
  replay_end zero x f idles p h = clash (cc)
  replay_end (suc N) x f idles p h =
      by_replay N x f idles p [] h (λ o q. o) (λ r o s g. replay_end N x r (later_idles idles) p g) (λ i t σ o s q g. clash (cc))
      (λ r o s g. replay_end N x r idles p g)

module _ (G : Setting) (L : Laws G) where
  -- a timetable valid from an instant on is valid from any before it
  earlier : {x : G.Started} {g : ℕ} {τ : List Entry} → ValidFrom G x g τ → (f : ℕ) → f ≤ g → ValidFrom G x f τ
  earlier (finished o) f h = finished o
  earlier (entry {x = x} {f = g} {e = e} v w) f h =
      entry (L.any_free x g f e.task e.start v (omega (arith, L.no_overlap x g e.task e.start v))) w

  -- what replay gives is valid
  pub yields : (N : ℕ) (x : G.Started) (f : ℕ) (idles : List Idle) (p : List Inversion) (τ : List Entry) → replay_from G N x f idles p ≡ gives τ →
      ValidFrom G x f τ
  yields zero x f idles p τ h = clash (cc)
  yields (suc N) x f idles p τ h =
      let idle : ℕ → Option ℕ = first_idle idles in
      let delay : ℕ → Option ℕ = delays G p x in
      by_replay G N x f idles p τ h (λ o q. rw q (finished o))
      (λ r o s g. earlier (yields N x r (later_idles idles) p τ g) f (omega (arith, (idle_used G x f idle delay r s).2)))
      (λ i t τ' o s q g. let w = starts_forward G x f idle delay i t s in
      rw q (entry (L.any_free x t f i t (L.replay_refuses x t i t w.1) w.0) (yields N (G.start_job x i) (G.free_after i t) idles p τ' g)))
      (λ r o s g. earlier (yields N x r idles p τ g) f (omega (arith, (waits_forward G x f idle delay (L.waits_later x) r s).0)))

  -- valid timetables with the same tables are the same
  pub one_timetable : (x : G.Started) (σ τ : List Entry) → ValidFrom G x 0 σ → ValidFrom G x 0 τ → tables_of G x 0 σ ≡ tables_of G x 0 τ → σ ≡ τ
  one_timetable x σ τ v w d = gives_in σ τ (sym (round_trip G L v) ∙ ap (λ (X : Tables). replay G x X) d ∙ round_trip G L w)
