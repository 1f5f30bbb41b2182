-- The inversions of a valid timetable are those of each task, one task after the other. Assumes nothing.
use mathlib.Core.Path.{◌≡◌, refl, sym, ◌∙◌, ap, ap₂}
use mathlib.Core.Bool.{Bool, true, false}
use mathlib.Core.List.{List, [], ◌∷◌, ◌++◌}
use Prim.Native.Nat.{ℕ, zero, suc, ◌+◌, ◌≤◌, ◌<◌}
use native.Mathlib.Omega.{arith}
use lib.ListN.{length}
use borrow.Author.Tests.{le-ltb, eq-eqb, ne_eqb}
use Rattle.rules.specs.declared.Entry.{Entry}
use Rattle.rules.specs.declared.Inversion.{Inversion}
use Rattle.rules.specs.Tasks.{Set}
use Rattle.rules.specs.Priority.{slot, start_job, setting_of}
use Rattle.rules.specs.Irregularities.{at_most, insert, insert_unless, runs, inversion_of, inversions}
use Rattle.rules.proofs.Cases.{by_bool, by_eq}
use Rattle.rules.proofs.Theory.{ValidFrom, finished, entry}
use Rattle.rules.proofs.Pairs.{at_most_lt, at_most_le}
use Rattle.rules.proofs.PriorityLaws.{slot_start_same, slot_start_other, keeps_rules}
use Rattle.timetables.specs.Counted.{task_inversions}
use Rattle.timetables.proofs.OwnInversions.{other_task, regular, inverted}
use Rattle.derivation.specs.Parts.{joined}

module _ {A : Type 0} where
  -- parts that are the same one by one are the same together
  joined_same : (many i : ℕ) (p q : ℕ → List A) → ((k : ℕ) → i ≤ k → k < i + many → p k ≡ q k) → joined many i p ≡ joined many i q
  joined_same zero i p q same = refl
  joined_same (suc many) i p q same =
      ap₂ ◌++◌ (same i (omega arith) (omega arith)) (joined_same many (suc i) p q (λ k lo hi. same k (omega arith) (omega arith)))

  -- parts with nothing in them have nothing together
  joined_none : (many i : ℕ) (p : ℕ → List A) → ((k : ℕ) → p k ≡ []) → joined many i p ≡ []
  joined_none zero i p none = refl
  joined_none (suc many) i p none = ap₂ ◌++◌ (none i) (joined_none many (suc i) p none)

-- records of one task, of jobs from k on
abbrev Of : ℕ → ℕ → List Inversion → Type 0
Of i k [] = Unit {0}
Of i k (r ∷ p) = (r.task ≡ i) × (k ≤ r.job) × Of i k p

-- from a lower job on too
of_lower : (i k l : ℕ) (p : List Inversion) → l ≤ k → Of i k p → Of i l p
of_lower i k l [] le z = tt
of_lower i k l (r ∷ p) le z = (z.0, omega (arith, z.1), of_lower i k l p le z.2)

-- a record is not above the first of a table
abbrev Ahead : Inversion → List Inversion → Type 0
Ahead r [] = Unit {0}
Ahead r (s ∷ p) = at_most r.task r.job s.task s.job ≡ true

-- then it is inserted in front
insert_ahead : (r : Inversion) (p : List Inversion) → Ahead r p → insert r p ≡ r ∷ p
insert_ahead r [] a = refl
insert_ahead r (s ∷ p) a = rw (a, insert)

-- a record of a higher task is above one of a lower
above_lower : (r s : Inversion) → s.task < r.task → at_most r.task r.job s.task s.job ≡ false
above_lower r s lt = rw (ne_eqb r.task s.task (omega arith), at_most) (le-ltb r.task s.task (omega arith))

-- a record goes behind those of a lower task
insert_past : (r : Inversion) (i k : ℕ) (p q : List Inversion) → Of i k p → i < r.task → insert r (p ++ q) ≡ p ++ insert r q
insert_past r i k [] q z lt = refl
insert_past r i k (s ∷ p) q z lt =
    rw (above_lower r s (omega (arith, z.0)), insert) (ap (λ (l : List Inversion). s ∷ l) (insert_past r i k p q z.2 lt))

-- records of a task's later jobs have the record ahead, if what follows them has
ahead_of_own : (r : Inversion) (i k : ℕ) (p q : List Inversion) → Of i k p → r.task ≡ i → r.job ≤ k → Ahead r q → Ahead r (p ++ q)
ahead_of_own r i k [] q z same le a = a
ahead_of_own r i k (s ∷ p) q z same le a = at_most_le r.task r.job s.task s.job (omega (arith, z.0)) (omega (arith, z.1))

-- and so have records of a higher task
ahead_of_part : (r : Inversion) (i : ℕ) (p q : List Inversion) → Of i 0 p → r.task < i → Ahead r q → Ahead r (p ++ q)
ahead_of_part r i [] q z lt a = a
ahead_of_part r i (s ∷ p) q z lt a = at_most_lt r.task r.job s.task s.job (omega (arith, z.0))

-- and of all higher tasks
ahead_of_higher : (r : Inversion) (many i : ℕ) (p : ℕ → List Inversion) → ((k : ℕ) → Of k 0 (p k)) → r.task < i → Ahead r (joined many i p)
ahead_of_higher r zero i p z lt = tt
ahead_of_higher r (suc many) i p z lt =
    ahead_of_part r i (p i) (joined many (suc i) p) (z i) lt (ahead_of_higher r many (suc i) p z (omega arith))

-- a record of a task's job inserted among each task's records, the task's own being of later jobs: it comes before the task's own
module _ (r : Inversion) (p q : ℕ → List Inversion) (parts : (k : ℕ) → Of k 0 (p k)) (own : Of r.task r.job (p r.task))
    (here : q r.task ≡ r ∷ p r.task) (others : (k : ℕ) → (k ≡ r.task → ⊥) → q k ≡ p k) where
  -- it is inserted in its task's part
  insert_joined : (many i : ℕ) → i ≤ r.task → r.task < i + many → insert r (joined many i p) ≡ joined many i q
  insert_joined zero i lo hi = absurd (omega arith)
  insert_joined (suc many) i lo hi =
      by_eq i r.task
      (λ same. rw (same, here)
      (insert_ahead r (p r.task ++ joined many (suc r.task) p)
      (ahead_of_own r r.task r.job (p r.task) _ own refl (omega arith) (ahead_of_higher r many (suc r.task) p parts (omega arith)))
      ∙ ap (λ (l : List Inversion). r ∷ (p r.task ++ l)) (joined_same many (suc r.task) p q (λ k a b. sym (others k (omega arith))))))
      (λ other. rw (others i other)
      (insert_past r i 0 (p i) (joined many (suc i) p) (parts i) (omega arith)
      ∙ ap (λ (l : List Inversion). p i ++ l) (insert_joined many (suc i) (omega arith) (omega arith))))

module _ (ts : Set) (h : ℕ) where
  -- a start lowers no next job number
  slots_rise : (x : List ℕ) (i j : ℕ) → slot x i ≤ slot (start_job x j) i
  slots_rise x i j = by_eq i j (λ q. rw q (omega (arith, slot_start_same x j))) (λ n. omega (arith, slot_start_other x j i n))

  -- a task's inversions are of that task, of its next job and later ones
  its_own : (i : ℕ) (x : List ℕ) (τ : List Entry) → Of i (slot x i) (task_inversions (setting_of ts h) i x τ)
  its_own i x [] = tt
  its_own i x (e ∷ τ) =
      let rest = task_inversions (setting_of ts h) i (start_job x e.task) τ in
      let later : Of i (slot x i) rest = of_lower i (slot (start_job x e.task) i) (slot x i) rest (slots_rise x i e.task) (its_own i (start_job x e.task) τ) in
      by_eq i e.task
      (λ q. by_bool (runs ((setting_of ts h).baseline x e.start) e.task)
      (λ b. rw (regular ts h x e τ b i) later)
      (λ b. let job : slot x i ≡ slot x e.task = ap (slot x) q in
      rw (eq-eqb e.task i (sym q), b) (sym q, omega arith, later)))
      (λ q. rw (other_task ts h i x e τ q) later)

  -- the inversions of a valid timetable, task by task
  pub inversions_by_task : {x : List ℕ} {f : ℕ} {τ : List Entry} → ValidFrom (setting_of ts h) x f τ →
      inversions (setting_of ts h) x τ ≡ joined (length ts.tasks) 0 (λ i. task_inversions (setting_of ts h) i x τ)
  inversions_by_task {x} (finished all) = sym (joined_none (length ts.tasks) 0 _ (λ i. refl))
  inversions_by_task (entry {x = x} {e = e} {τ = τ} ok valid) =
      let y = start_job x e.task in
      let r = inversion_of (setting_of ts h) x e in
      let now : ℕ → List Inversion = λ i. task_inversions (setting_of ts h) i x (e ∷ τ) in
      let later : ℕ → List Inversion = λ i. task_inversions (setting_of ts h) i y τ in
      let made : Bool → List Inversion = λ b. insert_unless b r (inversions (setting_of ts h) y τ) in
      let rest = inversions_by_task valid in
      by_bool (runs ((setting_of ts h).baseline x e.start) e.task)
      (λ b. ap made b ∙ rest ∙ joined_same (length ts.tasks) 0 later now (λ k lo hi. sym (regular ts h x e τ b k)))
      (λ b. ap made b
      ∙ ap (insert r) rest
      ∙ insert_joined r later now (λ k. of_lower k _ 0 (later k) (omega arith) (its_own k y τ))
      (of_lower e.task (slot y e.task) (slot x e.task) (later e.task) (slots_rise x e.task e.task) (its_own e.task y τ))
      (inverted ts h x e τ b) (λ k n. other_task ts h k x e τ n) (length ts.tasks) 0 (omega arith) (omega (arith, (keeps_rules ts h _ _ _ _ ok).a_task)))

  -- a task has no more inversions than there are entries
  pub own_few : (i : ℕ) (x : List ℕ) (τ : List Entry) → length (task_inversions (setting_of ts h) i x τ) ≤ length τ
  own_few i x [] = omega arith
  own_few i x (e ∷ τ) =
      let later = own_few i (start_job x e.task) τ in
      by_eq i e.task
      (λ q. by_bool (runs ((setting_of ts h).baseline x e.start) e.task) (λ b. rw (regular ts h x e τ b i) (omega arith))
      (λ b. rw (eq-eqb e.task i (sym q), b) (omega arith)))
      (λ q. rw (other_task ts h i x e τ q) (omega arith))
