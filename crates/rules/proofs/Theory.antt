-- What the theory asks of a setting, a valid timetable from a point on, and the rules of records as relations. Assumes nothing.
use mathlib.Core.Path.{◌≡◌}
use mathlib.Core.Bool.{true, false}
use mathlib.Core.List.{List, [], ◌∷◌}
use Prim.Native.Nat.{ℕ, suc, ◌+◌, ◌≤◌, ◌<◌}
use Rattle.rules.specs.declared.Entry.{Entry}
use Rattle.rules.specs.declared.Idle.{Idle}
use Rattle.rules.specs.declared.Inversion.{Inversion}
use Rattle.rules.specs.Setting.{Setting, wait}
use Rattle.rules.specs.Irregularities.{at_most}

-- the laws of a setting
pub record Laws (G : Setting) : Type 0 where
  -- the processor is taken for at least one tick
  pub free_later : (i s : ℕ) → s < G.free_after i s
  -- a start that breaks no rule: when the processor is free, whenever it became free before, a job of a task that is left and released, in the cycle
  pub no_overlap : (x : G.Started) (f i s : ℕ) → G.breaks x f i s ≡ 0 → f ≤ s
  pub any_free : (x : G.Started) (f g i s : ℕ) → G.breaks x f i s ≡ 0 → g ≤ s → G.breaks x g i s ≡ 0
  pub some_released : (x : G.Started) (f i s : ℕ) → G.breaks x f i s ≡ 0 → G.least_release x ≤ s
  pub released : (x : G.Started) (f i s : ℕ) → G.breaks x f i s ≡ 0 → G.release i (G.next_job x i) ≤ s
  pub a_task : (x : G.Started) (f i s : ℕ) → G.breaks x f i s ≡ 0 → i < G.tasks
  pub some_left : (x : G.Started) (f i s : ℕ) → G.breaks x f i s ≡ 0 → G.all_started x ≡ false
  pub by_latest : (x : G.Started) (f i s : ℕ) → G.breaks x f i s ≡ 0 → G.free_after i s ≤ G.latest
  pub in_cycle : (x : G.Started) (f i s : ℕ) → G.breaks x f i s ≡ 0 → s < G.cycle_end
  -- the processor may be free at the end of the cycle
  pub cycle_by_latest : G.cycle_end ≤ G.latest
  -- replay refuses a start exactly when judging does
  pub replay_refuses : (x : G.Started) (f i s : ℕ) → G.breaks_in_replay x f i s ≡ 0 → G.breaks x f i s ≡ 0
  pub judging_refuses : (x : G.Started) (f i s : ℕ) → G.breaks x f i s ≡ 0 → G.breaks_in_replay x f i s ≡ 0
  -- a start moves its task's next job by one and no other's
  pub next_moves : (x : G.Started) (f i s : ℕ) → G.breaks x f i s ≡ 0 → G.next_job (G.start_job x i) i ≡ suc (G.next_job x i)
  pub others_stay : (x : G.Started) (i j : ℕ) → (j ≡ i → ⊥) → G.next_job (G.start_job x i) j ≡ G.next_job x j
  -- the baseline waits only for later instants
  pub waits_later : (x : G.Started) (t r : ℕ) → G.baseline x t ≡ wait r → t < r

-- a baseline that never waits
abbrev pub NeverWaits : Setting → Type 0
NeverWaits G = (x : G.Started) (t r : ℕ) → G.baseline x t ≡ wait r → ⊥

-- a valid timetable from a point on: what has started, and the instant from which the processor is free
pub data ValidFrom (G : Setting) : G.Started → ℕ → List Entry → Type 0 where
  finished : {x : G.Started} {f : ℕ} → G.all_started x ≡ true → ValidFrom G x f []
  entry : {x : G.Started} {f : ℕ} {e : Entry} {τ : List Entry} → G.breaks x f e.task e.start ≡ 0 →
      ValidFrom G (G.start_job x e.task) (G.free_after e.task e.start) τ → ValidFrom G x f (e ∷ τ)

-- idle records from an instant on: at least one tick long, each above the end of the one before, ending before the end of the cycle
abbrev pub Rising : ℕ → ℕ → List Idle → Type 0
Rising h from [] = Unit {0}
Rising h from (r ∷ idles) = (from ≤ r.start) × (1 ≤ r.length) × (r.start + r.length < h) × Rising h (suc (r.start + r.length)) idles

-- inversion records from a pair on: each pair (task, job) above the one before
abbrev pub Pairs : ℕ → ℕ → List Inversion → Type 0
Pairs i k [] = Unit {0}
Pairs i k (r ∷ p) = (at_most i k r.task r.job ≡ true) × Pairs r.task (suc r.job) p
