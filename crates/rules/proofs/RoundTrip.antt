-- Replay of the tables of a valid timetable gives that timetable back. Assumes nothing.
use mathlib.Core.Path.{◌≡◌, refl, sym, ◌∙◌, ap}
use mathlib.Core.Bool.{true, false}
use mathlib.Core.List.{List, ◌∷◌, ◌++◌}
use mathlib.Core.Option.{none, some}
use Prim.Native.Nat.{ℕ, zero, suc, ◌+◌, ◌-◌, ◌≤◌, ◌<◌}
use native.Mathlib.Omega.{arith}
use lib.Dec.{ltb, leb}
use borrow.Author.Tests.{ltb-true, ltb-false, leb-true, eqb-true, eq-eqb}
use Rattle.rules.specs.declared.Entry.{Entry}
use Rattle.rules.specs.declared.Idle.{Idle}
use Rattle.rules.specs.declared.Inversion.{Inversion}
use Rattle.rules.specs.Refusals.{Judged, gives, refuses, refusal}
use Rattle.rules.specs.Setting.{Setting, Act, run, wait, lowest, instant}
use Rattle.rules.specs.Irregularities.{insert, runs, gap, forced_idles, inversion_of, inversions, tables_of}
use Rattle.rules.specs.Decision.{Choice, idle_for, start_task, wait_till, delay_of, idle_at, first_idle, later_idles, as_baseline, start_before, recorded, decide, delays, replay_from, replay}
use Rattle.rules.proofs.Cases.{by_bool, by_act, by_option, by_eq, by_pair, differ, clash}
use Rattle.rules.proofs.Theory.{Laws, ValidFrom, finished, entry}
use Rattle.rules.proofs.Lowest.{lowest_from_empty, lowest_from_one}
use Rattle.rules.proofs.Pairs.{delay_insert_same, delay_insert_other}
use Rattle.rules.proofs.Steps.{step_idles, step_waits, step_starts, step_refuses}
use Rattle.rules.proofs.Gaps.{gap_later}

-- what replay decides at an instant, by the unused idle records and the inversion records
abbrev pub decided_by : (G : Setting) → G.Started → ℕ → List Idle → List Inversion → Choice
decided_by G x t idles p = decide G x t (first_idle idles t) (delays G p x)

module _ (G : Setting) where
  -- one turn of replay, at an instant t with a job left
  module _ (turns : ℕ) (x : G.Started) (f t : ℕ) (idles : List Idle) (p : List Inversion) (now : instant G x f ≡ t) (left : G.all_started x ≡ false) where
    -- a turn that idles
    pub turn_idles : (l : ℕ) → decided_by G x t idles p ≡ idle_for l →
        replay_from G (suc turns) x f idles p ≡ replay_from G turns x (t + l) (later_idles idles) p
    turn_idles l d = rw (left, step_idles G x f t (first_idle idles) (delays G p x) now l d, replay_from)

    -- a turn that waits as the baseline does
    pub turn_waits : (r : ℕ) → decided_by G x t idles p ≡ wait_till r → r < G.cycle_end →
        replay_from G (suc turns) x f idles p ≡ replay_from G turns x r idles p
    turn_waits r d h = rw (left, step_waits G x f t (first_idle idles) (delays G p x) now r d h, replay_from)

    -- a turn that starts a job
    pub turn_starts : (i : ℕ) → decided_by G x t idles p ≡ start_task i → G.breaks_in_replay x t i t ≡ 0 →
        replay_from G (suc turns) x f idles p
        ≡ start_before (record { task = i; start = t }) (replay_from G turns (G.start_job x i) (G.free_after i t) idles p)
    turn_starts i d e = rw (left, step_starts G x f t (first_idle idles) (delays G p x) now i d e, replay_from)

    -- a turn that refuses to start it
    pub turn_refuses : (i number : ℕ) → decided_by G x t idles p ≡ start_task i → G.breaks_in_replay x t i t ≡ suc number →
        replay_from G (suc turns) x f idles p ≡ refuses (refusal (suc number) 0)
    turn_refuses i number d e = rw (left, step_refuses G x f t (first_idle idles) (delays G p x) now i number d e, replay_from)

  -- rule (1): the first unused idle record starts now
  pub idle_first : (x : G.Started) (t : ℕ) (r : Idle) (idles : List Idle) (p : List Inversion) → r.start ≡ t →
      decided_by G x t (r ∷ idles) p ≡ idle_for r.length
  idle_first x t r idles p h = rw (eq-eqb _ _ h, idle_at)

  -- rule (2): a next job's inversion record falls on this instant
  pub inversion_next : (x : G.Started) (t : ℕ) (idles : List Idle) (p : List Inversion) (i : ℕ) → first_idle idles t ≡ none →
      lowest G.tasks (recorded G (delays G p x) x t) ≡ some i → decided_by G x t idles p ≡ start_task i
  inversion_next x t idles p i a b = rw (a, b)

  -- rule (3): neither
  pub baseline_last : (x : G.Started) (t : ℕ) (idles : List Idle) (p : List Inversion) → first_idle idles t ≡ none →
      lowest G.tasks (recorded G (delays G p x) x t) ≡ none → decided_by G x t idles p ≡ as_baseline (G.baseline x t)
  baseline_last x t idles p a b = rw (a, b)

  -- a record for another job than the next entry's is one of what is left after that entry
  pub inversion_of_rest : (x : G.Started) (e : Entry) (τ : List Entry) (i k : ℕ) → (e.task ≡ i → G.next_job x e.task ≡ k → ⊥) →
      delay_of (inversions G x (e ∷ τ)) i k ≡ delay_of (inversions G (G.start_job x e.task) τ) i k
  inversion_of_rest x e τ i k h =
      by_bool (runs (G.baseline x e.start) e.task) (λ b. rw b)
      (λ b. rw b (delay_insert_other (inversion_of G x e) (inversions G (G.start_job x e.task) τ) i k h))

  -- a next job that is recorded for an instant has a delay that falls on it
  pub recorded_some : {A : Type 0} (p : List Inversion) (x : G.Started) (t i : ℕ) → recorded G (delays G p x) x t i ≡ true →
      ((d : ℕ) → delay_of p i (G.next_job x i) ≡ some d → G.release i (G.next_job x i) + d ≡ t → A) → A
  recorded_some p x t i h go =
      by_option (delay_of p i (G.next_job x i)) (λ n. differ (sym h ∙ rw n)) (λ d e. go d e (eqb-true _ _ (rw e at h)))

-- a baseline that runs a task
runs_run : (a : Act) (i : ℕ) → runs a i ≡ true → a ≡ run i
runs_run (run j) i h = ap run (eqb-true j i h)
runs_run (wait r) i h = differ (sym h)

module _ (G : Setting) (L : Laws G) where
  -- replay from an instant t to the next start s, by the idle record of that gap and the baseline's own waits
  module _ (x : G.Started) (s : ℕ) (k : List Idle) (p : List Inversion) (goal : Judged (List Entry)) (left : G.all_started x ≡ false)
      (in_cycle : s < G.cycle_end) (calm : (u : ℕ) → u < s → lowest G.tasks (recorded G (delays G p x) x u) ≡ none)
      (later : (u : ℕ) → u ≤ s → first_idle k u ≡ none) where
    -- what is to be shown at s: replay from any instant that comes to s, with enough turns
    abbrev Goes : ℕ → Type 0
    Goes n = (M g : ℕ) → instant G x g ≡ s → n ≤ M + s → replay_from G M x g k p ≡ goal

    -- the idle record of the gap takes replay to s
    idles_to : (N f t : ℕ) → instant G x f ≡ t → t < s → Goes (suc N + t) →
        replay_from G (suc N) x f (record { start = t; length = s - t } ∷ k) p ≡ goal
    idles_to N f t q h go =
        turn_idles G N x f t (record { start = t; length = s - t } ∷ k) p q left (s - t) (idle_first G x t _ k p refl)
        ∙ go N (t + (s - t)) (omega arith) (omega arith)

    -- the records of the gap, and the waits between, take replay to s
    through_gap : (m N f t : ℕ) → instant G x f ≡ t → t ≤ s → s ≤ m + t → s < N + t → Goes (N + t) →
        replay_from G N x f (gap G m x t s ++ k) p ≡ goal
    through_gap zero N f t q hi en fu go = go N f (omega arith) (omega arith)
    through_gap (suc m) zero f t q hi en fu go = absurd (omega arith)
    through_gap (suc m) (suc N) f t q hi en fu go =
        by_bool (ltb t s)
        (λ b. by_act (G.baseline x t) (λ j c. rw (b, c, gap) (idles_to N f t q (ltb-true t s b) go))
        (λ w c. by_bool (leb w s)
        (λ d. rw (b, c, d, gap)
        (let v : t < w = L.waits_later x t w c in
        let g : w ≤ s = leb-true w s d in
        let idles : List Idle = gap G m x w s ++ k in
        turn_waits G N x f t idles p q left w
        (baseline_last G x t idles p (gap_later G L m x t w s k v (later t hi)) (calm t (ltb-true t s b)) ∙ ap as_baseline c) (omega arith)
        ∙ through_gap m N w w (omega arith) g (omega arith) (omega arith) (λ M y e z. go M y e (omega arith))))
        (λ d. rw (b, c, d, gap) (idles_to N f t q (ltb-true t s b) go))))
        (λ b. rw (b, gap) (go (suc N) f (omega (arith, ltb-false t s b)) (omega arith)))

  -- an inversion record of what is left is of a start not before the next entry's, and at its start it is that entry's own
  inversion_cases : {A : Type 0} (x : G.Started) (f : ℕ) (e : Entry) (τ : List Entry) → G.breaks x f e.task e.start ≡ 0 →
      ((j k d : ℕ) → delay_of (inversions G (G.start_job x e.task) τ) j k ≡ some d → G.free_after e.task e.start ≤ G.release j k + d) →
      (j k d : ℕ) → delay_of (inversions G x (e ∷ τ)) j k ≡ some d →
      (e.task ≡ j → runs (G.baseline x e.start) e.task ≡ false → G.release j k + d ≡ e.start → A) → (e.start < G.release j k + d → A) → A
  inversion_cases x f e τ v tail j k d g here there =
      let q : List Inversion = inversions G (G.start_job x e.task) τ in
      let far : delay_of q j k ≡ some d → e.start < G.release j k + d = λ h. omega (arith, tail j k d h, L.free_later e.task e.start) in
      by_pair e.task j (G.next_job x e.task) k
      (λ u w. by_bool (runs (G.baseline x e.start) e.task) (λ b. there (far (rw b at g)))
      (λ b.
      let g' : delay_of (insert (inversion_of G x e) q) j k ≡ some d = rw b at g in
      let a : delay_of (insert (inversion_of G x e) q) e.task (G.next_job x e.task) ≡ some (inversion_of G x e).delay =
      delay_insert_same (inversion_of G x e) q in
      let c : d ≡ e.start - G.release e.task (G.next_job x e.task) = cc in
      let r : G.release j k ≡ G.release e.task (G.next_job x e.task) = cc in
      here u b (omega (arith, L.released x f e.task e.start v))))
      (λ n. there (far (sym (inversion_of_rest G x e τ j k n) ∙ g)))

  -- an inversion record of what is left is of a start not before it
  later_inversion : {x : G.Started} {f : ℕ} {τ : List Entry} → ValidFrom G x f τ → (j k d : ℕ) → delay_of (inversions G x τ) j k ≡ some d →
      f ≤ G.release j k + d
  later_inversion (finished o) j k d g = clash (cc)
  later_inversion (entry {x = x} {f = f} {e = e} {τ = τ} v w) j k d g =
      let h : f ≤ e.start = L.no_overlap x f e.task e.start v in
      inversion_cases x f e τ v (later_inversion w) j k d g (λ _ _ a. omega arith) (λ a. omega arith)

  -- a table that has, of the jobs not yet started, the records of what is left
  abbrev Agree : G.Started → List Entry → List Inversion → Type 0
  Agree x τ p = (i k : ℕ) → G.next_job x i ≤ k → delay_of p i k ≡ delay_of (inversions G x τ) i k

  -- no idle record of what is left starts before it
  pub idles_later : {x : G.Started} {f : ℕ} {τ : List Entry} → ValidFrom G x f τ → (u : ℕ) → u < f → first_idle (forced_idles G x f τ) u ≡ none
  idles_later (finished o) u h = refl
  idles_later (entry {x = x} {f = f} {e = e} {τ = τ} v w) u h =
      gap_later G L e.start x u (instant G x f) e.start (forced_idles G (G.start_job x e.task) (G.free_after e.task e.start) τ) (omega arith)
      (idles_later w u (omega (arith, L.no_overlap x f e.task e.start v, L.free_later e.task e.start)))

  module _ (x : G.Started) (f : ℕ) (e : Entry) (τ : List Entry) (p : List Inversion) (v : G.breaks x f e.task e.start ≡ 0)
      (w : ValidFrom G (G.start_job x e.task) (G.free_after e.task e.start) τ) (ag : Agree x (e ∷ τ) p) where
    -- such a table has them also of what is left after the next entry
    agree_rest : Agree (G.start_job x e.task) τ p
    agree_rest i k h =
        by_eq e.task i
        (λ u.
        let a : G.next_job (G.start_job x e.task) i ≡ suc (G.next_job x e.task) = rw (← u) (L.next_moves x f e.task e.start v) in
        let b : G.next_job x i ≡ G.next_job x e.task = rw u in
        ag i k (omega arith) ∙ inversion_of_rest G x e τ i k (λ _ z. omega arith))
        (λ u.
        let a : G.next_job (G.start_job x e.task) i ≡ G.next_job x i = L.others_stay x e.task i (λ z. u (sym z)) in
        ag i k (omega arith) ∙ inversion_of_rest G x e τ i k (λ z _. u z))

    -- a record that falls on an instant up to the start is the entry's own
    own_record : {A : Type 0} (u j : ℕ) → u ≤ e.start → recorded G (delays G p x) x u j ≡ true →
        (e.task ≡ j → runs (G.baseline x e.start) e.task ≡ false → u ≡ e.start → A) → A
    own_record u j h y go =
        recorded_some G p x u j y
        (λ d g r.
        inversion_cases x f e τ v (later_inversion w) j (G.next_job x j) d (sym (ag j (G.next_job x j) (omega arith)) ∙ g) (λ a c z. go a c (omega arith))
        (λ z. absurd (omega arith)))

    -- where no next job has a record for an instant, there is no lowest such task
    none_recorded : (u : ℕ) → ((j : ℕ) → recorded G (delays G p x) x u j ≡ true → ⊥) → lowest G.tasks (recorded G (delays G p x) x u) ≡ none
    none_recorded u h =
        lowest_from_empty G.tasks 0 (recorded G (delays G p x) x u) (λ j. by_bool (recorded G (delays G p x) x u j) (λ y. absurd (h j y)) (λ y. y))

    -- before the entry starts, no record falls due
    calm_before : (u : ℕ) → u < e.start → lowest G.tasks (recorded G (delays G p x) x u) ≡ none
    calm_before u h = none_recorded u (λ j y. own_record u j (omega arith) y (λ a b c. omega arith))

    -- an inversion has a record that falls on its start
    own_recorded : runs (G.baseline x e.start) e.task ≡ false → recorded G (delays G p x) x e.start e.task ≡ true
    own_recorded b =
        let a : delay_of p e.task (G.next_job x e.task) ≡ some (inversion_of G x e).delay =
        ag e.task (G.next_job x e.task) (omega arith) ∙ rw b (delay_insert_same (inversion_of G x e) (inversions G (G.start_job x e.task) τ)) in
        rw a
        (eq-eqb (G.release e.task (G.next_job x e.task) + (inversion_of G x e).delay) e.start
        (omega (arith, L.released x f e.task e.start v)))

    -- at the entry's start its task is chosen
    chosen : (idles : List Idle) → first_idle idles e.start ≡ none → decided_by G x e.start idles p ≡ start_task e.task
    chosen idles fi =
        by_bool (runs (G.baseline x e.start) e.task)
        (λ b. baseline_last G x e.start idles p fi
        (none_recorded e.start (λ j y. own_record e.start j (omega arith) y (λ a c z. differ (sym b ∙ c))))
        ∙ ap as_baseline (runs_run (G.baseline x e.start) e.task b))
        (λ b. inversion_next G x e.start idles p e.task fi
        (lowest_from_one G.tasks 0 (recorded G (delays G p x) x e.start) e.task (omega arith)
        (omega (arith, L.a_task x f e.task e.start v)) (own_recorded b) (λ j y. own_record e.start j (omega arith) y (λ a c z. sym a))))

  -- replay goes through a valid timetable
  through : {x : G.Started} {f : ℕ} {τ : List Entry} → ValidFrom G x f τ → (N : ℕ) (p : List Inversion) → Agree x τ p → f ≤ G.latest → G.latest < N + f →
      replay_from G N x f (forced_idles G x f τ) p ≡ gives τ
  through (finished o) zero p ag fb fu = absurd (omega arith)
  through (finished o) (suc N) p ag fb fu = rw (o, replay_from)
  through (entry {x = x} {f = f} {e = e} {τ = τ} v w) N p ag fb fu =
      let s : ℕ = e.start in
      let k : List Idle = forced_idles G (G.start_job x e.task) (G.free_after e.task s) τ in
      let o : G.all_started x ≡ false = L.some_left x f e.task s v in
      let lo : f ≤ s = L.no_overlap x f e.task s v in
      let wt : G.least_release x ≤ s = L.some_released x f e.task s v in
      let fr : s < G.free_after e.task s = L.free_later e.task s in
      let ib : G.free_after e.task s ≤ G.latest = L.by_latest x f e.task s v in
      let fi : (u : ℕ) → u ≤ s → first_idle k u ≡ none = λ u h. idles_later w u (omega arith) in
      let ok : G.breaks_in_replay x s e.task s ≡ 0 = L.judging_refuses x s e.task s (L.any_free x f s e.task s v (omega arith)) in
      let go : (M g : ℕ) → instant G x g ≡ s → N + instant G x f ≤ M + s → replay_from G M x g k p ≡ gives (e ∷ τ) =
      λ M g q h. elim M as (λ M. N + instant G x f ≤ M + s → replay_from G M x g k p ≡ gives (e ∷ τ)) [
        | zero ↦ λ h. absurd (omega arith)
        | suc M ↦ λ h. turn_starts G M x g s k p q o e.task (chosen x f e τ p v w ag k (fi s (omega arith))) ok
            ∙ ap (start_before e) (through w M p (agree_rest x f e τ p v w ag) (omega arith) (omega arith))
      ] h in
      through_gap x s k p (gives (e ∷ τ)) o (L.in_cycle x f e.task s v) (calm_before x f e τ p v w ag) fi s N f (instant G x f) refl (omega arith)
      (omega arith) (omega arith) go

  -- replay of the tables of a valid timetable is that timetable
  pub round_trip : {x : G.Started} {τ : List Entry} → ValidFrom G x 0 τ → replay G x (tables_of G x 0 τ) ≡ gives τ
  round_trip {x} {τ} v = through v (suc G.latest) (inversions G x τ) (λ i k h. refl) (omega arith) (omega arith)
