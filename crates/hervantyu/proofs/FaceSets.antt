-- What `hv_judge_set` returns and leaves, over every result that meets its contract. Assumes nothing.
use mathlib.Core.Path.{◌≡◌, refl, sym, ◌∙◌, ap}
use mathlib.Core.Logic.{◌↔◌, ◌⊎◌, inl, inr}
use mathlib.Core.List.{List}
use Prim.Native.Nat.{ℕ, ◌≤◌}
use native.Mathlib.Omega.{arith}
use Rattle.rules.specs.declared.TaskSet.{TaskSet}
use Rattle.rules.specs.declared.Figures.{Figures}
use Rattle.rules.specs.declared.Refusal.{Refusal}
use Rattle.std.specs.Prelude.{Result, Ok, Err}
use Rattle.rules.specs.Refusals.{set_tells}
use Rattle.rules.specs.Tasks.{judge_set}
use Rattle.rules.proofs.Promises as book
use Rattle.numbers.specs.Numbers.{set_from}
use Rattle.sets.specs.Sets.{GoodInMemory}
use Rattle.sets.proofs.Promises as sets
use Rattle.hervantyu.specs.Lent.{value_or, SetJudged}
use Rattle.hervantyu.proofs.ToldAnswers.{kept_by}
use Rattle.hervantyu.proofs.Returned.{Returned, zero_exactly, set_returned}

module _ {n : ℕ} {numbers : List ℕ} {old-hyperperiod old-jobs r p h j : ℕ} (judged : SetJudged n numbers old-hyperperiod old-jobs r p h j) where
  abbrev lent : TaskSet
  lent = set_from n numbers 0

  -- what is returned says what judging answers
  pub returned_set : Returned ((f : Figures) × (judge_set lent ≡ Ok f)) (λ q. judge_set lent ≡ Err q) r p
  returned_set =
      set_returned (judge_set lent) judged.its_number judged.its_place
      (λ q e. let n = book.set_refusals lent q e in omega (arith, n.1))

  -- figures that are answered are left in the lent numbers
  pub figures_left : (f : Figures) → judge_set lent ≡ Ok f → (h ≡ f.hyperperiod) × (j ≡ f.jobs)
  figures_left f e = (
    judged.its_hyperperiod ∙ ap (λ (a : Result Figures Refusal). value_or (set_tells a) 0 old-hyperperiod) e,
    judged.its_jobs ∙ ap (λ (a : Result Figures Refusal). value_or (set_tells a) 1 old-jobs) e,
  )

  -- 0 is returned, and these are the figures left, exactly where the set is good and they are its figures
  pub good_exactly : (f : Figures) → ((r ≡ 0) × (h ≡ f.hyperperiod) × (j ≡ f.jobs)) ↔ GoodInMemory lent f
  good_exactly f =
      let exactly = sets.good_exactly lent (judge_set lent) refl in (
        λ w.
            let g = (zero_exactly returned_set).0 w.0 in
            let left = figures_left g.0 g.1 in
            let hyperperiod : g.0.hyperperiod ≡ f.hyperperiod = sym left.0 ∙ w.1 in
            let jobs : g.0.jobs ≡ f.jobs = sym left.1 ∙ w.2 in
            let same : g.0 ≡ f = λ i. record { hyperperiod = hyperperiod i; jobs = jobs i } in
            (exactly f).0 (g.1 ∙ ap Ok same),
        λ good.
            let e = (exactly f).1 good in
            let left = figures_left f e in
            ((zero_exactly returned_set).1 (f, e), left.0, left.1),
      )

  -- the numbers are 0 and 5 to 9
  pub set_numbers : (r ≡ 0) ⊎ ((5 ≤ r) × (r ≤ 9))
  set_numbers =
      elim returned_set.either [
        | inl g ↦ inl (returned_set.given g).0
        | inr w ↦
            let n = book.set_refusals lent w.0 w.1 in
            let is = ap (λ (q : Refusal). q.number) (returned_set.refused w.0 w.1).1 in
            inr (omega (arith, n.1, is), omega (arith, n.2, is))
      ]

  -- a refusal leaves what the two lent numbers held
  pub set_keeps : 1 ≤ r → (h ≡ old-hyperperiod) × (j ≡ old-jobs)
  set_keeps l =
      let t = set_tells (judge_set lent) in
      let numbered : 1 ≤ t.number = omega (arith, l, judged.its_number) in
      (judged.its_hyperperiod ∙ sym (kept_by t.number t 0 old-hyperperiod numbered), judged.its_jobs ∙ sym (kept_by t.number t 1 old-jobs numbered))
