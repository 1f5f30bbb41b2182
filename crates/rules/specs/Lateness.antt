-- The lateness of a task's worst job: document 02, R-4. Assumes nothing.
use Rattle.std.specs.Prelude.{◌≡◌, List, ℕ, zero, suc, ◌<◌, eqb, length, ℤ, pos, ◌-ℤ◌, ◌<ℤ◌}
use Rattle.std.proofs.Math.Option.{Option, none, some}
use Rattle.std.specs.Int.Signed.{lt_z}
use Rattle.rules.specs.declared.Entry.{Entry}
use Rattle.rules.specs.Tasks.{Set, task, due}
use Rattle.rules.specs.Timetable.{pick, entry_at, job_at, end_at}

-- the lateness of entry j: its end minus its job's deadline
abbrev pub lateness_at : Set → List Entry → ℕ → ℤ
lateness_at ts τ j = pos (end_at ts τ j) -ℤ pos (due (task ts (entry_at τ j).task) (job_at τ j))

-- the larger of a worst so far, where there is one, and one more
abbrev pub larger : Option ℤ → ℤ → ℤ
larger none z = z
larger (some w) z = pick (lt_z w z) z w

-- the worst of a task's jobs among the first so many entries
abbrev pub worst_among : Set → List Entry → ℕ → ℕ → Option ℤ
worst_among ts τ i zero = none
worst_among ts τ i (suc j) =
    pick (eqb (entry_at τ j).task i) (some (larger (worst_among ts τ i j) (lateness_at ts τ j))) (worst_among ts τ i j)

-- 0 for a task without a job, of which a valid timetable has none
abbrev pub told_worst : Option ℤ → ℤ
told_worst none = pos 0
told_worst (some z) = z

-- the lateness of a task's worst job
unfoldable pub worst_lateness : Set → List Entry → ℕ → ℤ
worst_lateness ts τ i = told_worst (worst_among ts τ i (length τ))

-- the same with no function: it is that of one of the task's jobs, and none of them has a larger one
pub record IsWorst (ts : Set) (τ : List Entry) (i : ℕ) (z : ℤ) : Type 0 where
  pub j : ℕ
  pub an_entry : j < length τ
  pub its_task : (entry_at τ j).task ≡ i
  pub its_lateness : z ≡ lateness_at ts τ j
  pub no_larger : (k : ℕ) → k < length τ → (entry_at τ k).task ≡ i → z <ℤ lateness_at ts τ k → ⊥
