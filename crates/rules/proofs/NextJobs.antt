-- What has started counts only by the next jobs of a setting's tasks: where that holds of what a setting is made of, it holds of a turn, of replay and of
-- the forced idles. Assumes nothing.
use mathlib.Core.Path.{◌≡◌, refl, ◌∙◌, ap}
use mathlib.Core.List.{List, [], ◌∷◌}
use mathlib.Core.Option.{Option}
use Prim.Native.Nat.{ℕ, zero, suc, max, ◌<◌}
use lib.Dec.{ltb, leb}
use Rattle.rules.specs.declared.Entry.{Entry}
use Rattle.rules.specs.declared.Idle.{Idle}
use Rattle.rules.specs.declared.Inversion.{Inversion}
use Rattle.rules.specs.Setting.{Setting, run, wait, instant}
use Rattle.rules.specs.Irregularities.{gap, forced_idles}
use Rattle.rules.specs.Decision.{Choice, idle_for, start_task, wait_till, first_idle, later_idles, start_before, decide, comes_to, step, delays, replay_from}
use Rattle.rules.proofs.Cases.{by_bool, by_act, by_step}
use Rattle.rules.proofs.Starts.{decide_same}

-- the same next jobs of all tasks
abbrev pub SameJobs : (G : Setting) → G.Started → G.Started → Type 0
SameJobs G x y = (i : ℕ) → i < G.tasks → G.next_job x i ≡ G.next_job y i

-- what a setting is made of goes by them
pub record ByNextJobs (G : Setting) : Type 0 where
  pub all_started_same : (x y : G.Started) → SameJobs G x y → G.all_started x ≡ G.all_started y
  pub least_release_same : (x y : G.Started) → SameJobs G x y → G.least_release x ≡ G.least_release y
  pub start_same : (x y : G.Started) (i : ℕ) → SameJobs G x y → SameJobs G (G.start_job x i) (G.start_job y i)
  pub breaks_same : (x y : G.Started) (f i s : ℕ) → SameJobs G x y → G.breaks_in_replay x f i s ≡ G.breaks_in_replay y f i s
  pub baseline_same : (x y : G.Started) (t : ℕ) → SameJobs G x y → G.baseline x t ≡ G.baseline y t

module _ (G : Setting) (B : ByNextJobs G) where
  -- the instant of a decision
  instant_same : (x y : G.Started) (f : ℕ) → SameJobs G x y → instant G x f ≡ instant G y f
  instant_same x y f s = ap (max f) (B.least_release_same x y s)

  -- what one turn comes to, with the same idle record and the same delays
  pub step_same : (x y : G.Started) (f : ℕ) (idle d e : ℕ → Option ℕ) → SameJobs G x y → ((i : ℕ) → i < G.tasks → d i ≡ e i) →
      step G x f idle d ≡ step G y f idle e
  step_same x y f idle d e s delays =
      let t : ℕ = instant G y f in
      rw (instant_same x y f s)
      (ap (comes_to G x t) (decide_same G x y t (idle t) d e (B.baseline_same x y t s) (λ i l. rw (s i l, delays i l)))
      ∙ comes_same t (decide G y t (idle t) e))
    where
      comes_same : (t : ℕ) (c : Choice) → comes_to G x t c ≡ comes_to G y t c
      comes_same t (idle_for l) = refl
      comes_same t (start_task i) = rw (B.breaks_same x y t i t s, comes_to)
      comes_same t (wait_till r) = refl

  -- replay
  pub replay_same : (N : ℕ) (x y : G.Started) (f : ℕ) (idles : List Idle) (p : List Inversion) → SameJobs G x y →
      replay_from G N x f idles p ≡ replay_from G N y f idles p
  replay_same zero x y f idles p s = refl
  replay_same (suc N) x y f idles p s =
      let all = B.all_started_same x y s in
      let turn = step_same x y f (first_idle idles) (delays G p x) (delays G p y) s (λ i l. rw (s i l)) in
      by_bool (G.all_started y) (λ o. rw (all, o, replay_from))
      (λ o. by_step (step G y f (first_idle idles) (delays G p y))
      (λ r e. rw (all ∙ o, o, turn ∙ e, e, replay_from) (replay_same N x y r (later_idles idles) p s))
      (λ i t e. rw (all ∙ o, o, turn ∙ e, e, replay_from)
      (ap (start_before (record { task = i; start = t }))
      (replay_same N (G.start_job x i) (G.start_job y i) (G.free_after i t) idles p (B.start_same x y i s))))
      (λ r e. rw (all ∙ o, o, turn ∙ e, e, replay_from) (replay_same N x y r idles p s)) (λ number e. rw (all ∙ o, o, turn ∙ e, e, replay_from)))

  -- the record of a gap
  gap_same : (turns : ℕ) (x y : G.Started) (t s : ℕ) → SameJobs G x y → gap G turns x t s ≡ gap G turns y t s
  gap_same zero x y t s e = refl
  gap_same (suc turns) x y t s e =
      let b = B.baseline_same x y t e in
      by_bool (ltb t s)
      (λ c. by_act (G.baseline y t) (λ j d. let d' : G.baseline x t ≡ run j = b ∙ d in rw (c, d, d', gap))
      (λ w d. let d' : G.baseline x t ≡ wait w = b ∙ d in
      by_bool (leb w s) (λ l. rw (c, d, d', l, gap) (gap_same turns x y w s e)) (λ l. rw (c, d, d', l, gap))))
      (λ c. rw (c, gap))

  -- and the forced idles
  pub forced_idles_same : (x y : G.Started) (f : ℕ) (τ : List Entry) → SameJobs G x y → forced_idles G x f τ ≡ forced_idles G y f τ
  forced_idles_same x y f [] e = refl
  forced_idles_same x y f (d ∷ τ) e = rw (
    instant_same x y f e,
    gap_same d.start x y (instant G y f) d.start e,
    forced_idles_same (G.start_job x d.task) (G.start_job y d.task) (G.free_after d.task d.start) τ (B.start_same x y d.task e),
  )
