-- What an entry adds to the inversions of each task. Assumes nothing.
use Rattle.std.proofs.Common.{◌≡◌, ℕ, true, false, eqb, List, ◌∷◌, sym, refl, eq-eqb, ne_eqb}
use Rattle.rules.specs.declared.Entry.{Entry}
use Rattle.rules.specs.Tasks.{Set}
use Rattle.rules.specs.Priority.{start_job, setting_of}
use Rattle.rules.specs.Irregularities.{runs, inversion_of}
use Rattle.rules.proofs.Cases.{by_bool}
use Rattle.timetables.specs.Counted.{task_inversions}

module _ (ts : Set) (h : ℕ) where
  module _ (i : ℕ) (x : List ℕ) (e : Entry) (τ : List Entry) where
    -- an entry of another task adds nothing to a task's inversions
    pub other_task : (i ≡ e.task → ⊥) → task_inversions (setting_of ts h) i x (e ∷ τ) ≡ task_inversions (setting_of ts h) i (start_job x e.task) τ
    other_task other = rw (ne_eqb e.task i (λ q. other (sym q)))

  module _ (x : List ℕ) (e : Entry) (τ : List Entry) where
    -- nor does a start that the baseline would make
    pub regular : runs ((setting_of ts h).baseline x e.start) e.task ≡ true → (i : ℕ) →
        task_inversions (setting_of ts h) i x (e ∷ τ) ≡ task_inversions (setting_of ts h) i (start_job x e.task) τ
    regular b i = by_bool (eqb e.task i) (λ c. rw (c, b)) (λ c. rw c)

    -- another start adds its record in front of its task's
    pub inverted : runs ((setting_of ts h).baseline x e.start) e.task ≡ false →
        task_inversions (setting_of ts h) e.task x (e ∷ τ)
        ≡ inversion_of (setting_of ts h) x e ∷ task_inversions (setting_of ts h) e.task (start_job x e.task) τ
    inverted b = rw (eq-eqb e.task e.task refl, b)
