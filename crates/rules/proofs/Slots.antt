-- Next job numbers count only in the slots of the set's tasks, and keep to the jobs of a cycle. Assumes nothing.
use mathlib.Core.Path.{◌≡◌, refl, sym, ◌∙◌, ap}
use mathlib.Core.Bool.{true}
use mathlib.Core.List.{List, [], ◌∷◌}
use Prim.Native.Nat.{ℕ, zero, suc, ◌<◌}
use native.Mathlib.Omega.{arith}
use lib.Dec.{ltb, leb}
use lib.ListN.{length}
use borrow.Author.Tests.{ltb-true, le-leb}
use Rattle.fields.specs.Body.{head₀, tail₀}
use Rattle.rules.specs.declared.Task.{Task}
use Rattle.rules.specs.Tasks.{task_in, Set, jobs}
use Rattle.rules.specs.Priority.{slot, start_job, all_started, least_release, waiting, run_lowest, by_priority, setting_of}
use Rattle.rules.specs.Dispatcher.{counts_possible}
use Rattle.rules.proofs.Cases.{by_bool, by_eq, both_true, both_in}
use Rattle.rules.proofs.PriorityLaws.{slot_start_same, slot_start_other}
use Rattle.rules.proofs.Starts.{lowest_from_same}
use Rattle.rules.proofs.NextJobs.{ByNextJobs}

-- the same numbers in the first n slots
abbrev pub Same : ℕ → List ℕ → List ℕ → Type 0
Same n x y = (i : ℕ) → i < n → slot x i ≡ slot y i

-- whether all jobs have started depends only on the slots of the set's tasks
pub all_started_same : (h : ℕ) (ts : List Task) (x y : List ℕ) → Same (length ts) x y → all_started h ts x ≡ all_started h ts y
all_started_same h [] x y s = refl
all_started_same h (t ∷ ts) x y s =
    let a : head₀ x ≡ head₀ y = s 0 (omega arith) in
    by_bool (ltb (head₀ y) (jobs h t)) (λ b. rw (a, b, all_started))
    (λ b. rw (a, b, all_started) (all_started_same h ts (tail₀ x) (tail₀ y) (λ i l. s (suc i) (omega arith))))

-- and so does the least release
pub least_release_same : (h : ℕ) (ts : List Task) (x y : List ℕ) → Same (length ts) x y → least_release h ts x ≡ least_release h ts y
least_release_same h [] x y s = refl
least_release_same h (t ∷ ts) x y s =
    let a : head₀ x ≡ head₀ y = s 0 (omega arith) in
    let r = least_release_same h ts (tail₀ x) (tail₀ y) (λ i l. s (suc i) (omega arith)) in
    by_bool (ltb (head₀ y) (jobs h t)) (λ b. rw (a, b, r, least_release) (rw a)) (λ b. rw (a, b, least_release) r)

-- what has started after a start
pub start_same : (n : ℕ) (x y : List ℕ) (j : ℕ) → Same n x y → Same n (start_job x j) (start_job y j)
start_same n x y j s i l =
    by_eq i j (λ u. rw (u, slot_start_same x j, slot_start_same y j) (ap suc (s j (omega arith))))
    (λ u. slot_start_other x j i u ∙ s i l ∙ sym (slot_start_other y j i u))

module _ (ts : Set) (h : ℕ) where
  -- the lowest waiting task
  priority_same : (x y : List ℕ) (t : ℕ) → Same (length ts.tasks) x y → by_priority ts h x t ≡ by_priority ts h y t
  priority_same x y t s =
      ap (run_lowest (length ts.tasks)) (lowest_from_same (length ts.tasks) 0 (waiting ts h x t) (waiting ts h y t) (λ j l. rw (s j (omega arith))))

  -- document 01's setting goes by next jobs
  pub by_slots : ByNextJobs (setting_of ts h)
  by_slots = record {
    all_started_same = all_started_same h ts.tasks;
    least_release_same = least_release_same h ts.tasks;
    start_same = start_same (length ts.tasks);
    breaks_same = λ x y f i t s. by_bool (ltb i (length ts.tasks)) (λ b. rw (s i (ltb-true i (length ts.tasks) b))) (λ b. rw b);
    baseline_same = priority_same;
  }

-- at a cycle's start next job numbers are possible
pub counts_zero : (h : ℕ) (ts : List Task) (x : List ℕ) → Same (length ts) x [] → counts_possible h ts x ≡ true
counts_zero h [] x s = refl
counts_zero h (t ∷ ts) x s =
    let a : head₀ x ≡ 0 = s 0 (omega arith) in
    rw (le-leb (head₀ x) (jobs h t) (omega arith)) (counts_zero h ts (tail₀ x) (λ i l. s (suc i) (omega arith)))

-- and stay so when a job that is left starts
pub counts_start : (h : ℕ) (ts : List Task) (x : List ℕ) (i : ℕ) → counts_possible h ts x ≡ true → slot x i < jobs h (task_in ts i) →
    counts_possible h ts (start_job x i) ≡ true
counts_start h [] x i c l = refl
counts_start h (t ∷ ts) x zero c l = both_in _ _ (le-leb (suc (head₀ x)) (jobs h t) l) (both_true (leb (head₀ x) (jobs h t)) _ c).1
counts_start h (t ∷ ts) x (suc i) c l =
    let a = both_true (leb (head₀ x) (jobs h t)) _ c in both_in _ _ a.0 (counts_start h ts (tail₀ x) i a.1 l)
