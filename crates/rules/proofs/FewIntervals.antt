-- There are at most two intervals a job and one more: how long an output every cycle's capacities fit. Assumes nothing.
use mathlib.Core.Path.{◌≡◌, refl, ◌∙◌, ap}
use mathlib.Core.List.{List, [], ◌∷◌, ◌++◌}
use Prim.Native.Nat.{ℕ, zero, suc, ◌+◌, ◌*◌, ◌≤◌}
use native.Mathlib.Omega.{arith}
use lib.Dec.{ltb}
use lib.IntN.{ℤ, pos}
use lib.ListN.{length, length-append}
use Rattle.rules.specs.declared.Task.{Task}
use Rattle.rules.specs.Tasks.{Set, limits, task_in, task, jobs, sum_of_jobs, all_jobs, GoodSet}
use Rattle.rules.specs.Several.{sum_below}
use Rattle.rules.specs.Intervals.{Interval, stretch, is_deadline, begins, ending, last_deadline, up_to, intervals, capacities, spare}
use Rattle.rules.proofs.Cases.{by_bool}
use Rattle.rules.proofs.Several.{sum_grows, sum_more, sum_first}
use Rattle.rules.proofs.Deadlines.{deadline_out}
use Rattle.rules.proofs.DueBy.{due_by, due_by_few, due_by_grows, due_by_more}

-- the jobs of all tasks as a sum
sum_jobs : (h : ℕ) (ts : List Task) → sum_below (length ts) (λ i. jobs h (task_in ts i)) ≡ sum_of_jobs h ts
sum_jobs h [] = refl
sum_jobs h (t ∷ ts) = sum_first (length ts) (λ i. jobs h (task_in (t ∷ ts) i)) ∙ ap (λ (x : ℕ). jobs h t + x) (sum_jobs h ts)

stretch_few : (p q : ℕ) → length (stretch p q) ≤ 1
stretch_few p q = by_bool (ltb p q) (λ b. rw b (omega arith)) (λ b. rw b (omega arith))

module _ (ts : Set) (h : ℕ) where
  -- the jobs due by e, of a task and of all tasks
  abbrev of_task : ℕ → ℕ → ℕ
  of_task e i = due_by (task ts i) 1 (jobs h (task ts i)) e

  abbrev of_all : ℕ → ℕ
  of_all e = sum_below (length ts.tasks) (of_task e)

  all_grow : (e : ℕ) → of_all e ≤ of_all (suc e)
  all_grow e = sum_grows (length ts.tasks) (of_task e) (of_task (suc e)) (λ i l. due_by_grows (task ts i) 1 (jobs h (task ts i)) e)

  up_to_few : (e : ℕ) → length (up_to ts h e) ≤ 2 * of_all e
  unfolding up_to
  up_to_few zero = omega arith
  up_to_few (suc e) =
      by_bool (is_deadline ts h (suc e))
      (λ b.
      let d = deadline_out ts h (suc e) b in
      let i = d.i in
      let more = due_by_more (task ts i) 1 (jobs h (task ts i)) e d.k (omega arith) d.due_there.a_job d.due_there.is_due in
      let p = last_deadline ts h e in
      let q = begins ts h (suc e) in
      rw b
      (omega (
        arith,
        up_to_few e,
        sum_more (length ts.tasks) (of_task e) (of_task (suc e)) i d.due_there.a_task (λ j l. due_by_grows (task ts j) 1 (jobs h (task ts j)) e) more,
        length-append (up_to ts h e) (stretch p q ++ (ending ts h (suc e) ∷ [])),
        length-append (stretch p q) (ending ts h (suc e) ∷ []),
        stretch_few p q,
      )))
      (λ b. rw b (omega (arith, up_to_few e, all_grow e)))

  -- two a job and one more
  pub few_intervals : length (intervals ts h) ≤ 2 * all_jobs h ts + 1
  unfolding intervals
  few_intervals =
      omega (
        arith,
        length-append (up_to ts h h) (stretch (last_deadline ts h h) h),
        stretch_few (last_deadline ts h h) h,
        up_to_few h,
        sum_grows (length ts.tasks) (of_task h) (λ i. jobs h (task ts i)) (λ i l. due_by_few (task ts i) (jobs h (task ts i)) h),
        sum_jobs h ts.tasks,
      )

-- an interval has one capacity
pub capacities_length : (xs : List Interval) (next : ℤ) → length (capacities xs next) ≡ length xs
capacities_length [] next = refl
capacities_length (x ∷ xs) next = ap suc (capacities_length xs next)

pub spare_length : (ts : Set) (h : ℕ) → length (spare ts h) ≡ length (intervals ts h)
unfolding spare
spare_length ts h = capacities_length (intervals ts h) (pos 0)

-- a good set has at most 8,193 of them
pub spare_few : {ts : Set} {h : ℕ} → GoodSet ts h → length (spare ts h) ≤ 2 * limits.jobs + 1
spare_few {ts} {h} g = omega (arith, spare_length ts h, few_intervals ts h, g.few_jobs)
