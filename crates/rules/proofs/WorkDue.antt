-- The work due by an instant: the declared times of the jobs due by then together. An interval adds its own, and with a valid timetable there is never more
-- of it than time. Assumes nothing.
use mathlib.Core.Path.{◌≡◌, ◌∙◌}
use mathlib.Core.List.{List, []}
use Prim.Native.Nat.{ℕ, zero, suc, pred, ◌+◌, ◌-◌, ◌≤◌, ◌<◌}
use native.Mathlib.Omega.{arith}
use lib.Dec.{leb}
use lib.ListN.{length}
use borrow.Author.Tests.{leb-true}
use Rattle.rules.specs.declared.Entry.{Entry}
use Rattle.rules.specs.Tasks.{Set, task, due, jobs, taken, KeepsItsRule}
use Rattle.rules.specs.Timetable.{pick}
use Rattle.rules.specs.Priority.{slot, start_job, setting_of}
use Rattle.rules.specs.Several.{sum_below}
use Rattle.rules.specs.Intervals.{Interval, due_at, work_due}
use Rattle.rules.specs.IntervalRules.{IsDeadline, IsInterval, with_jobs, without_jobs}
use Rattle.rules.proofs.Cases.{by_bool, by_nat}
use Rattle.rules.proofs.Theory.{ValidFrom, finished, entry}
use Rattle.rules.proofs.PriorityLaws.{slot_empty, slot_start_same, slot_start_other, keeps_rules}
use Rattle.rules.proofs.PossibleStates.{none_left}
use Rattle.rules.proofs.Several.{sum_same, sum_within, sum_grows, sum_longer, sum_plus, sum_one}
use Rattle.rules.proofs.Deadlines.{due_out}
use Rattle.rules.proofs.DueBy.{due_by, due_by_next}

module _ (ts : Set) (h : ℕ) where
  abbrev n : ℕ
  n = length ts.tasks

  -- of a task's first so many jobs, and of all jobs of the cycle
  abbrev of_task : ℕ → ℕ → ℕ → ℕ
  of_task e i many = due_by (task ts i) (taken ts i) many e

  abbrev pub work_by : ℕ → ℕ
  work_by e = sum_below n (λ i. of_task e i (jobs h (task ts i)))

  -- an instant at which no job is due has no work
  no_work_due : (e : ℕ) → (IsDeadline ts h e → ⊥) → work_due ts h e ≡ 0
  unfolding work_due
  no_work_due e never =
      let nothing : (i : ℕ) → i < n → pick (due_at ts h e i) (taken ts i) 0 ≤ 0 =
      λ i l. by_bool (due_at ts h e i) (λ b. absurd (due_out ts h e i l b (λ k d. never (record { i = i; k = k; due_there = d })))) (λ b. rw b (omega arith)) in
      omega (arith, sum_within n (λ i. pick (due_at ts h e i) (taken ts i) 0) 0 nothing)

  module _ (own : (i : ℕ) → i < length ts.tasks → KeepsItsRule (task ts i)) where
    -- one tick later there is more work by what is due there
    work_next : (e : ℕ) → work_by (suc e) ≡ work_by e + work_due ts h (suc e)
    unfolding work_due due_at
    work_next e =
        sum_same n _ _ (λ i l. due_by_next (task ts i) (taken ts i) (own i l) (jobs h (task ts i)) e)
        ∙ sum_plus n (λ i. of_task e i (jobs h (task ts i))) (λ i. pick (due_at ts h (suc e) i) (taken ts i) 0)

    -- and none where no job is due
    work_quiet : (from many : ℕ) → ((e : ℕ) → IsDeadline ts h e → from < e → e ≤ from + many → ⊥) → work_by (from + many) ≡ work_by from
    work_quiet from zero never = let e : from + 0 ≡ from = omega arith in rw e
    work_quiet from (suc many) never =
        let e : from + suc many ≡ suc (from + many) = omega arith in
        rw e
        (omega (
          arith,
          work_next (from + many),
          no_work_due (suc (from + many)) (λ d. never (suc (from + many)) d (omega arith) (omega arith)),
          work_quiet from many (λ e d l m. never e d l (omega arith)),
        ))

    -- between two instants
    work_between : (p q : ℕ) → p ≤ q → ((e : ℕ) → IsDeadline ts h e → p < e → e ≤ q → ⊥) → work_by q ≡ work_by p
    work_between p q l never =
        let e : p + (q - p) ≡ q = omega arith in
        rw e at (work_quiet p (q - p) (λ d is m k. never d is m (omega arith)))

    -- an interval adds its own work
    pub work_over : {x : Interval} → IsInterval ts h x → x.begin < x.end → work_by x.end ≡ work_by x.begin + x.work
    work_over {x} (without_jobs w) l = omega (arith, w.no_work, work_between x.begin x.end (omega arith) w.no_deadline)
    work_over {x} (with_jobs w) l =
        by_nat x.end (λ z. absurd (omega arith))
        (λ e u.
        let holds : x.work ≡ work_due ts h (suc e) = w.holds ∙ rw u in
        let before : pred x.end ≡ e = rw u in
        rw u
        (omega (
          arith,
          work_next e,
          work_between x.begin e (omega arith) (λ d is m k. omega (arith, w.begins, w.is_previous.last d is (omega arith))),
        )))

  -- the work due by e of the jobs that have started
  abbrev started : List ℕ → ℕ → ℕ
  started x e = sum_below n (λ i. of_task e i (slot x i))

  -- one more job
  started_next : (x : List ℕ) (i e : ℕ) → i < n → started (start_job x i) e ≡ started x e + pick (leb (due (task ts i) (slot x i)) e) (taken ts i) 0
  started_next x i e l =
      sum_one n (λ j. of_task e j (slot x j)) (λ j. of_task e j (slot (start_job x i) j)) i _ l
      (λ j u. rw (slot_start_other x i j u)) (rw (slot_start_same x i))

  -- what has started by f was worked off by then, and what is due by e by then too
  work_from : {x : List ℕ} {f : ℕ} {τ : List Entry} → ValidFrom (setting_of ts h) x f τ → (e : ℕ) → started x e ≤ f → started x e ≤ e → work_by e ≤ e
  work_from (finished {x = x} a) e l m =
      omega (arith, sum_grows n _ (λ i. of_task e i (slot x i)) (λ i k. sum_longer (jobs h (task ts i)) (slot x i) _ (none_left h ts x a i k)))
  work_from (entry {x = x} {f = f} {e = d} ok v) e l m =
      let k = keeps_rules ts h x f d.task d.start ok in
      let one = started_next x d.task e k.a_task in
      by_bool (leb (due (task ts d.task) (slot x d.task)) e)
      (λ b.
      let more : started (start_job x d.task) e ≡ started x e + taken ts d.task = one ∙ rw b in
      work_from v e (omega (arith, k.free)) (omega (arith, k.free, k.in_time, leb-true (due (task ts d.task) (slot x d.task)) e b)))
      (λ b.
      let same : started (start_job x d.task) e ≡ started x e + 0 = one ∙ rw b in
      work_from v e (omega (arith, k.free)) (omega arith))

  -- with a valid timetable there is never more work due than time
  pub work_within : {τ : List Entry} → ValidFrom (setting_of ts h) [] 0 τ → (e : ℕ) → work_by e ≤ e
  work_within v e =
      let none : started [] e ≤ 0 = omega (arith, sum_within n (λ i. of_task e i (slot [] i)) 0 (λ i l. rw (slot_empty i) (omega arith))) in
      work_from v e none (omega arith)
