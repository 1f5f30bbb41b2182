-- The ticks of a cycle: document 02, R-4. Busy, forced idle and other idle, from a timetable. Assumes nothing.
use Rattle.std.specs.Prelude.{◌≡◌, Bool, true, false, List, [], ◌∷◌, ℕ, zero, suc, ◌+◌, ◌-◌, ◌≤◌, ◌<◌, ltb, leb, length}
use Rattle.rules.specs.declared.Entry.{Entry}
use Rattle.rules.specs.Tasks.{Set, task, release, jobs}
use Rattle.rules.specs.Timetable.{pick, entry_at, job_at}
use Rattle.rules.specs.Setting.{Setting, instant}
use Rattle.rules.specs.Priority.{setting_of}

-- what the processor does in a tick: it is busy, idle while a job waits, or idle with none waiting
pub data Kind : Type 0 where
  busy : Kind
  forced : Kind
  other : Kind

-- what a tick is by the entries of a timetable, in document 02's words
module _ (ts : Set) (h : ℕ) (τ : List Entry) where
  -- an entry takes the processor in the tick
  pub record Running (tick : ℕ) : Type 0 where
    pub j : ℕ
    pub an_entry : j < length τ
    pub begun : (entry_at τ j).start ≤ tick
    pub not_over : tick < (setting_of ts h).free_after (entry_at τ j).task (entry_at τ j).start

  -- a job is released and not started
  pub record Waiting (tick : ℕ) : Type 0 where
    pub i : ℕ
    pub k : ℕ
    pub a_task : i < length ts.tasks
    pub a_job : k < jobs h (task ts i)
    pub released : release (task ts i) k ≤ tick
    pub not_started : (j : ℕ) → j < length τ → (entry_at τ j).task ≡ i → job_at τ j ≡ k → tick < (entry_at τ j).start

  abbrev pub IsKind : ℕ → Kind → Type 0
  IsKind tick busy = Running tick
  IsKind tick forced = (Running tick → ⊥) × Waiting tick
  IsKind tick other = (Running tick → ⊥) × (Waiting tick → ⊥)

abbrev pub is_busy : Kind → Bool
is_busy busy = true
is_busy forced = false
is_busy other = false

abbrev pub is_forced : Kind → Bool
is_forced busy = false
is_forced forced = true
is_forced other = false

abbrev pub is_other : Kind → Bool
is_other busy = false
is_other forced = false
is_other other = true

-- how many of so many ticks from an instant on pass a test
abbrev pub ticks : ℕ → ℕ → (ℕ → Bool) → ℕ
ticks zero from test = 0
ticks (suc many) from test = pick (test from) 1 0 + ticks many (suc from) test

module _ (G : Setting) where
  -- an idle tick is forced where a job is released and not started
  abbrev pub idle_at : G.Started → ℕ → Kind
  idle_at x tick = pick (leb (G.least_release x) tick) forced other

  -- what a tick is, by the entries in turn: idle before the next start, busy from a start to the instant free after it
  abbrev pub kind : G.Started → List Entry → ℕ → Kind
  kind x [] tick = idle_at x tick
  kind x (e ∷ τ) tick =
      pick (ltb tick e.start) (idle_at x tick)
      (pick (ltb tick (G.free_after e.task e.start)) busy (kind (G.start_job x e.task) τ tick))

  -- the ticks of the cycle of one kind, where no job has started before it
  unfoldable pub ticks_that : (Kind → Bool) → G.Started → List Entry → ℕ
  ticks_that is x τ = ticks G.cycle_end 0 (λ tick. is (kind x τ tick))

  -- the same counts entry by entry, with the instant from which the processor is free: up to the instant of the decision no job waits, from there to the
  -- start one does; behind the last entry none is left
  abbrev pub busy_ticks : List Entry → ℕ
  busy_ticks [] = 0
  busy_ticks (e ∷ τ) = (G.free_after e.task e.start - e.start) + busy_ticks τ

  abbrev pub forced_ticks : G.Started → ℕ → List Entry → ℕ
  forced_ticks x f [] = 0
  forced_ticks x f (e ∷ τ) = (e.start - instant G x f) + forced_ticks (G.start_job x e.task) (G.free_after e.task e.start) τ

  abbrev pub other_ticks : G.Started → ℕ → List Entry → ℕ
  other_ticks x f [] = G.cycle_end - f
  other_ticks x f (e ∷ τ) = (instant G x f - f) + other_ticks (G.start_job x e.task) (G.free_after e.task e.start) τ
