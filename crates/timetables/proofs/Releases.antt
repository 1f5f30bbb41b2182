-- The releases of the next jobs of all tasks: what stands in a task's slot, what a start changes, and that a job is left exactly where its release lies
-- in the cycle. Assumes nothing.
use Rattle.std.proofs.Common.{◌≡◌, ℕ, zero, suc, ◌+◌, ◌<◌, ◌≤◌, ltb, List, [], ◌∷◌, length, get_or, set, refl, ap, ◌∙◌, mul-le-mul_right, suc-mul, arith, le-ltb, lt-ltb}
use Prim.Native.Nat.{◌∣◌}
use native.Mathlib.Nat.{div-mul_cancel}
use Rattle.fields.specs.Body.{head₀, tail₀}
use Rattle.rules.specs.declared.Task.{Task}
use Rattle.rules.specs.Tasks.{Set, release, jobs, task, KeepsItsRule, GoodSet, task_in}
use Rattle.rules.specs.Priority.{slot, start_job}
use Rattle.rules.proofs.Cases.{by_le}
use Rattle.rules.proofs.PriorityLaws.{slot_empty, due_in_cycle}
use Rattle.timetables.specs.Walks.{next_releases}

-- there is a next release for each task
pub releases_length : (ts : List Task) (x : List ℕ) → length (next_releases ts x) ≡ length ts
releases_length [] x = refl
releases_length (t ∷ ts) x = ap suc (releases_length ts (tail₀ x))

-- a task's slot holds the release of its next job
pub release_in_slot : (ts : List Task) (x : List ℕ) (i : ℕ) (d : Task) → i < length ts →
    get_or (next_releases ts x) i 0 ≡ release (get_or ts i d) (slot x i)
release_in_slot [] x i d l = absurd (omega arith)
release_in_slot (t ∷ ts) x zero d l = refl
release_in_slot (t ∷ ts) x (suc i) d l = release_in_slot ts (tail₀ x) i d (omega arith)

-- before the first start that is its offset
pub first_in_slot : (ts : List Task) (i : ℕ) (d : Task) → i < length ts → get_or (next_releases ts []) i 0 ≡ (get_or ts i d).offset
first_in_slot ts i d l = release_in_slot ts [] i d l ∙ rw (slot_empty i) (omega arith)

-- a start changes its task's slot alone
pub release_stored : (ts : List Task) (x : List ℕ) (i : ℕ) (d : Task) → i < length ts →
    set (next_releases ts x) i (release (get_or ts i d) (suc (slot x i))) ≡ next_releases ts (start_job x i)
release_stored [] x i d l = absurd (omega arith)
release_stored (t ∷ ts) x zero d l = refl
release_stored (t ∷ ts) x (suc i) d l = ap (λ (y : List ℕ). release t (head₀ x) ∷ y) (release_stored ts (tail₀ x) i d (omega arith))

-- the release of the job after a job is a period later
pub release_follows : (t : Task) (k : ℕ) → release t k + t.period ≡ release t (suc k)
release_follows t k = omega (arith, suc-mul k t.period)

module _ (h : ℕ) (t : Task) (k : ℕ) where
  -- a job of a task that keeps its rule is released before the end of the cycle
  pub release_in_cycle : KeepsItsRule t → k < jobs h t → release t k < h
  release_in_cycle r l = omega (arith, due_in_cycle h k t r l, r.takes_time, r.fits)

  -- with no job left the release is behind the cycle
  release_past : t.period ∣ h → jobs h t ≤ k → h ≤ release t k
  release_past whole l = omega (arith, mul-le-mul_right t.period l, div-mul_cancel t.period {m = h} whole)

  -- so a job is left exactly where its release lies in the cycle
  left_by_release : t.period ∣ h → KeepsItsRule t → ltb k (jobs h t) ≡ ltb (release t k) h
  left_by_release whole r =
      by_le (jobs h t) k (λ l. rw (le-ltb k (jobs h t) l, le-ltb (release t k) h (release_past whole l)))
      (λ l. rw (lt-ltb k (jobs h t) l, lt-ltb (release t k) h (release_in_cycle r l)))

-- that all tasks have this in common
abbrev pub LeftByRelease : ℕ → List Task → Type 0
LeftByRelease h ts = (i : ℕ) → i < length ts → (k : ℕ) → ltb k (jobs h (task_in ts i)) ≡ ltb (release (task_in ts i) k) h

-- it holds for a good set
pub good_releases : {ts : Set} {h : ℕ} → GoodSet ts h → LeftByRelease h ts.tasks
good_releases {ts} {h} g i l k = left_by_release h (task ts i) k (g.is_hyperperiod.common i l) (g.own_rules i l)
