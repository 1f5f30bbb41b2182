-- What is given of a set, in the rule book's terms: jobs left, waiting tasks and the least release, by the slots of releases. Assumes nothing.
use mathlib.Core.Path.{◌≡◌, refl, sym, ◌∙◌}
use mathlib.Core.List.{List, [], ◌∷◌}
use Prim.Native.Nat.{ℕ, suc, ◌+◌, ◌*◌, ◌/◌, ◌≤◌, ◌<◌}
use native.Mathlib.Nat.{div-mul_cancel}
use native.Mathlib.Omega.{arith}
use lib.Dec.{ltb}
use lib.ListN.{length}
use borrow.Author.Tests.{ltb-true, ltb-false, le-leb, lt-leb}
use Rattle.fields.specs.Body.{head₀, tail₀}
use Rattle.rules.specs.declared.Task.{Task}
use Rattle.rules.specs.Tasks.{task_in, Set, task, release, jobs, hyperperiod}
use Rattle.rules.specs.Priority.{slot, is_left, waiting, least_release}
use Rattle.rules.proofs.Cases.{by_bool, by_le}
use Rattle.rules.proofs.Inversions.{next_waits}
use Rattle.sets.proofs.SetKept.{kept_cycle}
use Rattle.decision.specs.declared.Standing.{Standing}
use Rattle.sets.specs.declared.Kept.{Kept}
use Rattle.sets.specs.Kept.{tasks_in, hyperperiod_in}
use Rattle.sets.specs.Scans.{least_of}
use Rattle.decision.specs.Fits.{next_in, releases_in, Fits}
use Rattle.decision.specs.Waiting.{come_by}

-- the least release is at or before the end of the cycle
pub least_by_end : (h : ℕ) (ts : List Task) (x : List ℕ) → least_release h ts x ≤ h
least_by_end h [] x = omega arith
least_by_end h (t ∷ ts) x =
    by_bool (ltb (head₀ x) (jobs h t)) (λ b. rw (b, least_release) (omega (arith, least_by_end h ts (tail₀ x))))
    (λ b. rw (b, least_release) (least_by_end h ts (tail₀ x)))

-- the least of releases is the least release among jobs not yet started, where that of a task with none left is at the end of the cycle or later
least_left : (h : ℕ) (ts : List Task) (x releases : List ℕ) →
    ((i : ℕ) → i < length ts → slot x i < jobs h (task_in ts i) → slot releases i ≡ release (task_in ts i) (slot x i)) →
    ((i : ℕ) → i < length ts → jobs h (task_in ts i) ≤ slot x i → h ≤ slot releases i) → least_of (length ts) h releases ≡ least_release h ts x
least_left h [] x releases left past = refl
least_left h (t ∷ ts) x releases left past =
    let rest = least_left h ts (tail₀ x) (tail₀ releases) (λ i l. left (suc i) (omega arith)) (λ i l. past (suc i) (omega arith)) in
    by_bool (ltb (head₀ x) (jobs h t)) (λ b. rw (b, least_release) (omega (arith, left 0 (omega arith) (ltb-true _ _ b))))
    (λ b. rw (b, least_release) (omega (arith, past 0 (omega arith) (ltb-false _ _ b), least_by_end h ts (tail₀ x))))

module _ {ts : Set} {kept : Kept} {at : Standing} (fits : Fits ts kept at) where
  -- the number of tasks and the hyperperiod, next job numbers and their releases
  abbrev n : ℕ
  n = tasks_in kept

  abbrev h : ℕ
  h = hyperperiod_in kept

  abbrev x : List ℕ
  x = next_in at

  abbrev releases : List ℕ
  releases = releases_in at

  -- and so it is with what has started
  pub is_hyperperiod : h ≡ hyperperiod ts
  is_hyperperiod = kept_cycle fits.set

  -- a task is one of the set's
  pub a_task : {i : ℕ} → i < n → i < length ts.tasks
  a_task l = omega (arith, fits.set.n_tasks)

  module _ (i : ℕ) (l : i < n) where
    -- the release of a task with no job left is at the end of the cycle or later
    past_cycle : jobs h (task ts i) ≤ slot x i → h ≤ slot releases i
    past_cycle none_left =
        let all : slot x i ≡ jobs h (task ts i) = omega (arith, fits.counts i l) in
        let cycle : h / (task ts i).period * (task ts i).period ≡ h =
        div-mul_cancel (task ts i).period {m = h} (fits.set.good.is_hyperperiod.common i (a_task l)) in
        let there : slot releases i ≡ (task ts i).offset + h / (task ts i).period * (task ts i).period = fits.releases_there i l ∙ rw all in
        omega arith

    -- a release before the end of the cycle is that of a job left
    pub left_before : slot releases i < h → slot x i < jobs h (task ts i)
    left_before before = by_le (jobs h (task ts i)) (slot x i) (λ none_left. absurd (omega (arith, past_cycle none_left))) (λ left. left)

    -- before the end of the cycle a task waits exactly from its release on
    pub waits_as : (t : ℕ) → t < h → waiting ts h x t i ≡ come_by releases t i
    waits_as t before =
        by_le (slot releases i) t
        (λ come. next_waits ts h x t i (left_before (omega arith)) (omega (arith, fits.releases_there i l)) ∙ sym (le-leb (slot releases i) t come))
        (λ later. rw (lt-leb (slot releases i) t later, lt-leb (release (task ts i) (slot x i)) t (omega (arith, fits.releases_there i l)))
        (by_bool (is_left ts h x i) (λ b. rw b) (λ b. rw b)))

  -- the least of the releases and the end of the cycle is the least release among jobs not yet started
  pub least_as : least_of n h releases ≡ least_release h ts.tasks x
  least_as =
      rw fits.set.n_tasks
      (least_left h ts.tasks x releases (λ i l k. fits.releases_there i (omega (arith, fits.set.n_tasks)))
      (λ i l k. past_cycle i (omega (arith, fits.set.n_tasks)) k))
