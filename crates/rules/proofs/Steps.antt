-- One turn, which replay and the search for the next start share: what a decision makes of it, how it came about, and that it goes forward. Assumes nothing.
use mathlib.Core.Path.{◌≡◌}
use mathlib.Core.Bool.{true, false}
use mathlib.Core.Option.{Option, none, some}
use Prim.Native.Nat.{ℕ, suc, ◌+◌, ◌≤◌, ◌<◌}
use native.Mathlib.Omega.{arith}
use lib.Dec.{ltb}
use borrow.Author.Tests.{ltb-true, lt-ltb, le-ltb}
use Rattle.rules.specs.Setting.{Setting, Act, run, wait, lowest, instant}
use Rattle.rules.specs.Decision.{idle_for, start_task, wait_till, idles_till, starts, waits_till, stops, as_baseline, recorded, start_or_baseline, decide, comes_to, step}
use Rattle.rules.proofs.Cases.{by_bool, by_nat, by_choice, clash}

-- the baseline runs or waits
baseline_never_idles : {A : Type 0} (a : Act) (l : ℕ) → as_baseline a ≡ idle_for l → A
baseline_never_idles (run i) l e = clash (cc)
baseline_never_idles (wait r) l e = clash (cc)

baseline_waits : (a : Act) (r : ℕ) → as_baseline a ≡ wait_till r → a ≡ wait r
baseline_waits (run i) r e = clash (cc)
baseline_waits (wait w) r e = cc

module _ (G : Setting) (x : G.Started) (t : ℕ) where
  -- rules (2) and (3) never idle, and wait only as the baseline does
  start_never_idles : {A : Type 0} (i : Option ℕ) (l : ℕ) → start_or_baseline G x t i ≡ idle_for l → A
  start_never_idles none l e = baseline_never_idles (G.baseline x t) l e
  start_never_idles (some i) l e = clash (cc)

  start_waits : (i : Option ℕ) (r : ℕ) → start_or_baseline G x t i ≡ wait_till r → G.baseline x t ≡ wait r
  start_waits none r e = baseline_waits (G.baseline x t) r e
  start_waits (some i) r e = clash (cc)

  -- a decision to idle takes the length of an idle record for this instant
  pub decide_idles : (length : Option ℕ) (delay : ℕ → Option ℕ) (l : ℕ) → decide G x t length delay ≡ idle_for l → length ≡ some l
  decide_idles none delay l e = start_never_idles (lowest G.tasks (recorded G delay x t)) l e
  decide_idles (some k) delay l e = cc

  -- a decision to wait is the baseline's
  pub decide_waits : (length : Option ℕ) (delay : ℕ → Option ℕ) (r : ℕ) → decide G x t length delay ≡ wait_till r → G.baseline x t ≡ wait r
  decide_waits none delay r e = start_waits (lowest G.tasks (recorded G delay x t)) r e
  decide_waits (some k) delay r e = clash (cc)

-- a turn at the instant t of its decision
module _ (G : Setting) (x : G.Started) (f t : ℕ) (idle delay : ℕ → Option ℕ) (now : instant G x f ≡ t) where
  -- it idles
  pub step_idles : (l : ℕ) → decide G x t (idle t) delay ≡ idle_for l → step G x f idle delay ≡ idles_till (t + l)
  step_idles l d = rw now (rw d)

  -- it waits as the baseline does
  pub step_waits : (r : ℕ) → decide G x t (idle t) delay ≡ wait_till r → r < G.cycle_end → step G x f idle delay ≡ waits_till r
  step_waits r d h = rw now (rw (d, lt-ltb r G.cycle_end h, comes_to))

  -- it would wait past the end of the cycle
  pub step_past : (r : ℕ) → decide G x t (idle t) delay ≡ wait_till r → G.cycle_end ≤ r → step G x f idle delay ≡ stops 18
  step_past r d h = rw now (rw (d, le-ltb r G.cycle_end h, comes_to))

  -- it starts a job
  pub step_starts : (i : ℕ) → decide G x t (idle t) delay ≡ start_task i → G.breaks_in_replay x t i t ≡ 0 → step G x f idle delay ≡ starts i t
  step_starts i d e = rw now (rw (d, e, comes_to))

  -- it refuses to start it
  pub step_refuses : (i number : ℕ) → decide G x t (idle t) delay ≡ start_task i → G.breaks_in_replay x t i t ≡ suc number →
      step G x f idle delay ≡ stops (suc number)
  step_refuses i number d e = rw now (rw (d, e, comes_to))

module _ (G : Setting) (x : G.Started) (f : ℕ) (idle delay : ℕ → Option ℕ) where
  -- the instant of its decision
  abbrev now : ℕ
  now = instant G x f

  -- how it came about: it idles, starts a job, refuses to start it, waits, or would wait past the end of the cycle
  pub by_turn_of : {A : Type 0} →
      ((l : ℕ) → decide G x now (idle now) delay ≡ idle_for l → step G x f idle delay ≡ idles_till (now + l) → A) →
      ((i : ℕ) → decide G x now (idle now) delay ≡ start_task i → G.breaks_in_replay x now i now ≡ 0 → step G x f idle delay ≡ starts i now → A) →
      ((i number : ℕ) → decide G x now (idle now) delay ≡ start_task i → G.breaks_in_replay x now i now ≡ suc number →
      step G x f idle delay ≡ stops (suc number) → A) →
      ((r : ℕ) → decide G x now (idle now) delay ≡ wait_till r → ltb r G.cycle_end ≡ true → step G x f idle delay ≡ waits_till r → A) →
      ((r : ℕ) → decide G x now (idle now) delay ≡ wait_till r → ltb r G.cycle_end ≡ false → step G x f idle delay ≡ stops 18 → A) → A
  by_turn_of idling starting refusing waiting past =
      by_choice (decide G x now (idle now) delay) (λ l d. idling l d (rw d))
      (λ i d. by_nat (G.breaks_in_replay x now i now) (λ e. starting i d e (rw (d, e, comes_to))) (λ number e. refusing i number d e (rw (d, e, comes_to))))
      (λ r d. by_bool (ltb r G.cycle_end) (λ c. waiting r d c (rw (d, c, comes_to))) (λ c. past r d c (rw (d, c, comes_to))))

  -- an idle uses an idle record for this instant
  pub idle_used : (r : ℕ) → step G x f idle delay ≡ idles_till r → (l : ℕ) × (idle now ≡ some l) × (now + l ≡ r)
  idle_used r s =
      by_turn_of
      (λ l d q. let g : idles_till (now + l) ≡ idles_till r = cc in (l, decide_idles G x now (idle now) delay l d, cc))
      (λ i d e q. clash (cc)) (λ i number d e q. clash (cc)) (λ w d c q. clash (cc)) (λ w d c q. clash (cc))

  -- it takes at least one tick and ends in the cycle, where idle records do
  pub idles_forward : ((t l : ℕ) → idle t ≡ some l → (1 ≤ l) × (t + l < G.cycle_end)) → (r : ℕ) → step G x f idle delay ≡ idles_till r →
      (f < r) × (r < G.cycle_end)
  idles_forward ranges r s =
      let u = idle_used r s in
      let w = ranges now u.0 u.1 in
      (omega (arith, u.2, w.0), omega (arith, u.2, w.1))

  -- a wait takes at least one tick and ends in the cycle, where the baseline's waits do
  pub waits_forward : ((t r : ℕ) → G.baseline x t ≡ wait r → t < r) → (r : ℕ) → step G x f idle delay ≡ waits_till r → (f < r) × (r < G.cycle_end)
  waits_forward later r s =
      by_turn_of (λ l d q. clash (cc)) (λ i d e q. clash (cc)) (λ i number d e q. clash (cc))
      (λ w d c q.
      let g : waits_till w ≡ waits_till r = cc in
      let u : w ≡ r = cc in
      (omega (arith, later now w (decide_waits G x now (idle now) delay w d)), omega (arith, ltb-true w G.cycle_end c)))
      (λ w d c q. clash (cc))

  -- a start is not before the processor is free, and breaks no rule
  pub starts_forward : (i t : ℕ) → step G x f idle delay ≡ starts i t → (f ≤ t) × (G.breaks_in_replay x t i t ≡ 0)
  starts_forward i t s =
      by_turn_of (λ l d q. clash (cc))
      (λ j d e q.
      let g : starts j now ≡ starts i t = cc in
      let u : j ≡ i = cc in
      let v : now ≡ t = cc in
      (omega arith, rw (u, v) at e))
      (λ j number d e q. clash (cc)) (λ w d c q. clash (cc)) (λ w d c q. clash (cc))
