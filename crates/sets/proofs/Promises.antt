-- What whoever judges a set in memory can rely on, from the contract alone: one answer, Good for good sets exactly, and the first refusal for all others.
-- Assumes nothing.
use mathlib.Core.Path.{◌≡◌, refl, sym, ◌∙◌, ap₂}
use mathlib.Core.Logic.{◌↔◌}
use mathlib.Core.Option.{none, some}
use Prim.Native.Nat.{ℕ}
use borrow.Author.Tests.{leb-true, le-leb}
use lib.Dec.{leb}
use Rattle.std.specs.Prelude.{Result, Ok, Err}
use Rattle.rules.specs.declared.TaskSet.{TaskSet}
use Rattle.rules.specs.declared.Figures.{Figures}
use Rattle.rules.specs.declared.Refusal.{Refusal}
use Rattle.rules.specs.Refusals.{First, unless}
use Rattle.rules.specs.Tasks.{limits, all_jobs, hyperperiod, few_enough, set_fault, figures, memory_set, memory_fault, memory_tests, judge_set}
use Rattle.rules.proofs.Cases.{by_option, clash, both_true, both_in, first_none, unless_none}
use Rattle.rules.proofs.FirstTests.{one_first}
use Rattle.rules.proofs.GoodSets.{good_set, set_good, memory_order}
use Rattle.sets.specs.Sets.{GoodInMemory}

-- the contract leaves one answer
pub one_answer : (s : TaskSet) (a b : Result Figures Refusal) → a ≡ judge_set s → b ≡ judge_set s → a ≡ b
one_answer s a b p q = p ∙ sym q

module _ (s : TaskSet) where
  -- with no fault the answer is the figures
  passes : memory_fault s ≡ none → judge_set s ≡ Ok (figures (memory_set s))
  unfolding judge_set
  passes e = rw e

  -- with a fault it is the fault
  fails : (r : Refusal) → memory_fault s ≡ some r → judge_set s ≡ Err r
  unfolding judge_set
  fails r e = rw e

  -- a set with no fault is good
  faultless : memory_fault s ≡ none → GoodInMemory s (figures (memory_set s))
  faultless e =
      let a = first_none (unless (few_enough s.n) 5 0) (set_fault (memory_set s)) e in
      let few = both_true (leb 1 s.n) (leb s.n limits.tasks) (unless_none (few_enough s.n) 5 0 a.0) in
      record {
        some_tasks = leb-true 1 s.n few.0;
        few_tasks = leb-true s.n limits.tasks few.1;
        good = good_set (memory_set s) a.1;
        counted = refl;
      }

  -- a good set has no fault, and its figures are those worked out
  good_faultless : (f : Figures) → GoodInMemory s f → (memory_fault s ≡ none) × (f ≡ figures (memory_set s))
  good_faultless f g =
      let e = set_good (memory_set s) f.hyperperiod g.good in
      let few = both_in _ _ (le-leb 1 s.n g.some_tasks) (le-leb s.n limits.tasks g.few_tasks) in
      let same : f.jobs ≡ all_jobs (hyperperiod (memory_set s)) (memory_set s) = rw (← e.1) g.counted in
      (rw few e.0, ap₂ (λ (h k : ℕ). record { hyperperiod = h; jobs = k }) e.1 same)

module _ (s : TaskSet) (a : Result Figures Refusal) (met : a ≡ judge_set s) where
  -- the answer is those figures exactly where the set is good and these are its figures
  pub good_exactly : (f : Figures) → (a ≡ Ok f) ↔ GoodInMemory s f
  good_exactly f = (
    λ e. by_option (memory_fault s)
        (λ z. let y : figures (memory_set s) ≡ f = cc (passes s z) in rw y at (faultless s z))
        (λ r z. clash (cc (fails s r z))),
    λ g. let z = good_faultless s f g in rw z.1 (met ∙ passes s z.0),
  )

  -- it is a refusal exactly where that is the first of the document's tests that refuses
  pub refused_exactly : (r : Refusal) → (a ≡ Err r) ↔ First (memory_tests s) (some r)
  refused_exactly r = (
    λ e.
        let z : memory_fault s ≡ some r = by_option (memory_fault s) (λ z. clash (cc (passes s z))) (λ q z. cc (fails s q z)) in
        rw z at (memory_order s),
    λ first. met ∙ fails s r (one_first (memory_order s) first),
  )
