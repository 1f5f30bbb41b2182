-- A task's jobs that are due by an instant: they grow with the instant, by one where a job is due. Assumes nothing.
use mathlib.Core.Path.{◌≡◌, refl}
use Prim.Native.Nat.{ℕ, zero, suc, ◌+◌, ◌≤◌, ◌<◌}
use native.Mathlib.Omega.{arith}
use native.Mathlib.Nat.{mul-le-mul_right}
use lib.Dec.{leb}
use borrow.Author.Tests.{le-leb, lt-leb, eq-eqb, ne_eqb, leb-true}
use Rattle.rules.specs.declared.Task.{Task}
use Rattle.rules.specs.Tasks.{due, KeepsItsRule}
use Rattle.rules.specs.Timetable.{pick}
use Rattle.rules.specs.Several.{sum_below}
use Rattle.rules.specs.Intervals.{due_among}
use Rattle.rules.proofs.Cases.{by_bool, by_eq, by_le}
use Rattle.rules.proofs.Several.{sum_grows, sum_more, sum_within}
use Rattle.rules.proofs.Deadlines.{among_none}

-- of a task's first so many jobs those due by e, each with a weight: 1 to count them, the declared time for their work
abbrev pub due_by : Task → ℕ → ℕ → ℕ → ℕ
due_by t weight many e = sum_below many (λ k. pick (leb (due t k) e) weight 0)

-- they are no more than all
pub due_by_few : (t : Task) (many e : ℕ) → due_by t 1 many e ≤ many
due_by_few t many e =
    omega (arith, sum_within many (λ k. pick (leb (due t k) e) 1 0) 1 (λ k l. by_bool (leb (due t k) e) (λ b. rw b (omega arith)) (λ b. rw b (omega arith))))

module _ (t : Task) (weight : ℕ) where
  -- one due by an instant is due by the next
  one_grows : (e k : ℕ) → pick (leb (due t k) e) weight 0 ≤ pick (leb (due t k) (suc e)) weight 0
  one_grows e k =
      by_bool (leb (due t k) e) (λ b. rw (b, le-leb (due t k) (suc e) (omega (arith, leb-true (due t k) e b))) (omega arith)) (λ b. rw b (omega arith))

  pub due_by_grows : (many e : ℕ) → due_by t weight many e ≤ due_by t weight many (suc e)
  due_by_grows many e = sum_grows many _ _ (λ k l. one_grows e k)

  -- at a deadline there is more
  pub due_by_more : (many e k : ℕ) → 0 < weight → k < many → due t k ≡ suc e → due_by t weight many e < due_by t weight many (suc e)
  due_by_more many e k some l u =
      sum_more many _ _ k l (λ j m. one_grows e j) (rw (lt-leb (due t k) e (omega arith), le-leb (due t k) (suc e) (omega arith)) some)

  -- and that of one job: a task's deadlines rise with the job
  dues_rise : KeepsItsRule t → (j k : ℕ) → j < k → due t j < due t k
  dues_rise rule j k l = omega (arith, rule.takes_time, rule.fits, rule.within, mul-le-mul_right t.period l)

  pub due_by_next : KeepsItsRule t → (many e : ℕ) → due_by t weight many (suc e) ≡ due_by t weight many e + pick (due_among t many (suc e)) weight 0
  due_by_next rule zero e = refl
  due_by_next rule (suc k) e =
      let before = due_by_next rule k e in
      by_eq (due t k) (suc e)
      (λ u.
      let none = among_none t k (suc e) (λ j l v. omega (arith, dues_rise rule j k l)) in
      rw (lt-leb (due t k) e (omega arith), le-leb (due t k) (suc e) (omega arith), eq-eqb (due t k) (suc e) u) (omega (arith, rw none at before)))
      (λ u. by_le (due t k) e
      (λ l. rw (le-leb (due t k) e l, le-leb (due t k) (suc e) (omega arith), ne_eqb (due t k) (suc e) u) (omega arith))
      (λ l. rw (lt-leb (due t k) e l, lt-leb (due t k) (suc e) (omega arith), ne_eqb (due t k) (suc e) u) (omega arith)))
