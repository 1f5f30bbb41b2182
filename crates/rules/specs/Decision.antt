-- The decision rule and replay: document 01, "The decision rule". Assumes nothing.
use Rattle.std.specs.Prelude.{Bool, true, false, List, [], ◌∷◌, ℕ, zero, suc, ◌+◌, ltb, eqb}
use Rattle.std.proofs.Math.Option.{Option, none, some}
use Rattle.rules.specs.declared.Entry.{Entry}
use Rattle.rules.specs.declared.Idle.{Idle}
use Rattle.rules.specs.declared.Inversion.{Inversion}
use Rattle.rules.specs.Refusals.{Judged, gives, refuses, refusal}
use Rattle.rules.specs.Tasks.{both}
use Rattle.rules.specs.Setting.{Setting, Act, run, wait, Tables, lowest, instant}

-- what is decided at an instant with a job waiting: to idle, to start a task's next job, or to wait as the baseline does
pub data Choice : Type 0 where
  idle_for : ℕ → Choice
  start_task : ℕ → Choice
  wait_till : ℕ → Choice

-- what one turn comes to: to idle till an instant, which uses the idle record; to start a task's next job at an instant; to wait till an instant, as the
-- baseline does; or to stop, with a number
pub data Effect : Type 0 where
  idles_till : ℕ → Effect
  starts : ℕ → ℕ → Effect
  waits_till : ℕ → Effect
  stops : ℕ → Effect

-- is it the record of job k of task i
abbrev pub is_of : Inversion → ℕ → ℕ → Bool
is_of r i k = both (eqb r.task i) (eqb r.job k)

-- the delay that a table has for a job
abbrev pub delay_of : List Inversion → ℕ → ℕ → Option ℕ
delay_of [] i k = none
delay_of (r ∷ rest) i k = elim (is_of r i k) [ true ↦ some r.delay | false ↦ delay_of rest i k ]

-- is a delay after a release this instant
abbrev pub falls_at : Option ℕ → ℕ → ℕ → Bool
falls_at none release t = false
falls_at (some d) release t = eqb (release + d) t

-- the length of an idle record that starts at this instant
abbrev pub idle_at : Idle → ℕ → Option ℕ
idle_at r t = elim (eqb r.start t) [ true ↦ some r.length | false ↦ none ]

-- that of the first unused idle record
abbrev pub first_idle : List Idle → ℕ → Option ℕ
first_idle [] t = none
first_idle (r ∷ idles) t = idle_at r t

-- those behind the first
abbrev pub later_idles : List Idle → List Idle
later_idles [] = []
later_idles (r ∷ idles) = idles

-- what the baseline does, as a decision
abbrev pub as_baseline : Act → Choice
as_baseline (run i) = start_task i
as_baseline (wait r) = wait_till r

-- a start put before the starts that replay goes on with; a refusal's place is counted from the first start
abbrev pub start_before : Entry → Judged (List Entry) → Judged (List Entry)
start_before e (gives τ) = gives (e ∷ τ)
start_before e (refuses r) = refuses (refusal r.number (suc r.place))

module _ (G : Setting) where
  -- the task's next job has an inversion record for this instant
  abbrev pub recorded : (ℕ → Option ℕ) → G.Started → ℕ → ℕ → Bool
  recorded delay x t i = falls_at (delay i) (G.release i (G.next_job x i)) t

  -- rules (2) and (3)
  abbrev pub start_or_baseline : G.Started → ℕ → Option ℕ → Choice
  start_or_baseline x t none = as_baseline (G.baseline x t)
  start_or_baseline x t (some i) = start_task i

  -- the decision rule, of the length of an idle record to be used at t and of the delay that each task's next job has
  abbrev pub decide : G.Started → ℕ → Option ℕ → (ℕ → Option ℕ) → Choice
  decide x t (some length) delay = idle_for length
  decide x t none delay = start_or_baseline x t (lowest G.tasks (recorded delay x t))

  -- what a decision at t comes to: a start that breaks a rule stops replay with its number, and so does a wait past the end of the cycle, with 18
  abbrev pub comes_to : G.Started → ℕ → Choice → Effect
  comes_to x t (idle_for l) = idles_till (t + l)
  comes_to x t (start_task i) = elim (G.breaks_in_replay x t i t) [ zero ↦ starts i t | suc number ↦ stops (suc number) ]
  comes_to x t (wait_till r) = elim (ltb r G.cycle_end) [ true ↦ waits_till r | false ↦ stops 18 ]

  -- one turn, from what has started and the instant from which the processor is free, by the length of an idle record to be used at an instant and the
  -- delay that each task's next job has: with no job waiting, time moves to the next release
  abbrev pub step : G.Started → ℕ → (ℕ → Option ℕ) → (ℕ → Option ℕ) → Effect
  step x f idle delay = let t : ℕ = instant G x f in comes_to x t (decide x t (idle t) delay)

  -- the delay that a table has for each task's next job
  abbrev pub delays : List Inversion → G.Started → ℕ → Option ℕ
  delays p x i = delay_of p i (G.next_job x i)

  -- replay, in enough turns: it ends when all jobs have started
  abbrev pub replay_from : ℕ → G.Started → ℕ → List Idle → List Inversion → Judged (List Entry)
  replay_from zero x f idles p = refuses (refusal 18 0)
  replay_from (suc turns) x f idles p =
      elim (G.all_started x) [
        | true ↦ gives []
        | false ↦ elim (step x f (first_idle idles) (delays p x)) [
          | idles_till r ↦ replay_from turns x r (later_idles idles) p
          | starts i t ↦ start_before (record { task = i; start = t }) (replay_from turns (G.start_job x i) (G.free_after i t) idles p)
          | waits_till r ↦ replay_from turns x r idles p
          | stops number ↦ refuses (refusal number 0)
        ]
      ]

  -- replay of tables from the start of a cycle: every turn takes at least one tick
  abbrev pub replay : G.Started → Tables → Judged (List Entry)
  replay x X = replay_from (suc G.latest) x 0 X.idles X.inversions
