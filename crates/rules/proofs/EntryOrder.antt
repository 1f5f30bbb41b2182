-- The first fault of a timetable is that of the first of the document's tests of entries and of missing jobs that refuses. Assumes nothing.
use mathlib.Core.Path.{◌≡◌, refl, ◌∙◌, ap}
use mathlib.Core.Bool.{Bool, true, false}
use mathlib.Core.List.{List, [], ◌∷◌, ◌++◌}
use Prim.Native.Nat.{ℕ, zero, suc, ◌+◌, ◌≤◌, ◌<◌}
use native.Mathlib.Omega.{arith}
use native.Mathlib.Nat.{add-suc, add-zero}
use lib.Dec.{ltb, leb}
use lib.ListN.{length, drop, drop_of_length-le}
use lib.Seq.{drop-cons, drop-nil, take_all}
use borrow.Author.Tests.{ltb-true, ltb-false, leb-true, leb-false}
use Rattle.fields.specs.Body.{head₀, tail₀}
use Rattle.rules.specs.declared.Entry.{Entry}
use Rattle.rules.specs.Refusals.{Test, test, First, no_test, holds, passes, first, unless, in_turn}
use Rattle.rules.specs.Tasks.{Set, no_task, task, release, due, jobs, hyperperiod, set_fault, set_tests}
use Rattle.rules.specs.Timetable.{entry_at, count, job_at, end_at}
use Rattle.rules.specs.Irregularities.{end_before}
use Rattle.rules.specs.Priority.{slot, all_started, entry_breaks, setting_of}
use Rattle.rules.specs.Judging.{numbered, entries_fault, missing_from, timetable_fault}
use Rattle.rules.specs.Order.{Overlaps, entry_tests, Missing, missing_tests, timetable_tests}
use Rattle.rules.specs.Image.{head_count}
use Rattle.rules.proofs.FirstTests.{first_then, first_pick}
use Rattle.rules.proofs.GoodSets.{set_order}
use Rattle.rules.proofs.Appearances.{job_below, appearance}
use Rattle.rules.proofs.Positions.{Before, at_first, past_end, is_entry, at_next}

-- the next job number of task i comes first in what is left of next job numbers from task i on
head_drop : (x : List ℕ) (i : ℕ) → head₀ (drop i x) ≡ slot x i
head_drop x zero = refl
head_drop [] (suc i) = rw (drop-nil i) at (head_drop [] i)
head_drop (a ∷ x) (suc i) = head_drop x i

tail_drop : (x : List ℕ) (i : ℕ) → tail₀ (drop i x) ≡ drop (suc i) x
tail_drop [] zero = refl
tail_drop (a ∷ x) zero = refl
tail_drop [] (suc i) = refl
tail_drop (a ∷ x) (suc i) = tail_drop x i

-- a task with a job missing refuses before the tasks above it
lowest_missing : (b : Bool) (i : ℕ) (all : Bool) (others : ℕ) {condition : Type 0} {tests : List Test} → (b ≡ false → condition → ⊥) →
    (b ≡ true → condition) → First tests (unless all 16 others) →
    First (test 16 i condition ∷ tests) (unless (elim b [ true ↦ false | false ↦ all ]) 16 (elim b [ true ↦ i | false ↦ others ]))
lowest_missing true i all others fails met next = holds (met refl)
lowest_missing false i all others fails met next = passes (fails refl) next

module _ (ts : Set) (h : ℕ) (τ : List Entry) where
  -- the test of overlap says whether entry j overlaps
  no_overlap : (j : ℕ) → leb (end_before ts τ j) (entry_at τ j).start ≡ true → Overlaps ts h τ j → ⊥
  no_overlap zero e c = c
  no_overlap (suc j) e c = omega (arith, leb-true (end_at ts τ j) (entry_at τ (suc j)).start e)

  overlap : (j : ℕ) → leb (end_before ts τ j) (entry_at τ j).start ≡ false → Overlaps ts h τ j
  overlap zero e = omega (arith, leb-false 0 (entry_at τ 0).start e)
  overlap (suc j) e = leb-false _ _ e

  -- numbers 11 to 15 of entry j
  entry_order : {j : ℕ} {x : List ℕ} {f : ℕ} {e : Entry} {σ : List Entry} → Before ts h τ j x f (e ∷ σ) →
      First (entry_tests ts h τ j) (numbered (entry_breaks ts h x f e.task e.start) (head_count ts + j))
  entry_order {j} {x} b =
      let place : ℕ = head_count ts + j in
      let i : ℕ = (entry_at τ j).task in
      let s : ℕ = (entry_at τ j).start in
      let k : ℕ = job_at τ j in
      rw (← (is_entry ts h τ b), b.free, b.started i)
      (first_pick (ltb i (length ts.tasks)) _ 10 place (λ e c. omega (arith, ltb-true i (length ts.tasks) e)) (λ e. ltb-false _ _ e)
      (λ _. first_pick (ltb k (jobs h (task ts i))) _ 11 place (λ e c. omega (arith, ltb-true k (jobs h (task ts i)) e)) (λ e. ltb-false _ _ e)
      (λ _. first_pick (leb (release (task ts i) k) s) _ 12 place (λ e c. omega (arith, leb-true (release (task ts i) k) s e)) (λ e. leb-false _ _ e)
      (λ _. first_pick (leb (end_before ts τ j) s) _ 13 place (no_overlap j) (overlap j)
      (λ _. first_pick (leb (s + (task ts i).time) (due (task ts i) k)) 0 14 place (λ e c. omega (arith, leb-true (s + (task ts i).time) (due (task ts i) k) e))
      (λ e. leb-false _ _ e) (λ _. no_test))))))

  -- jobs from the number of a task's appearances on are missing
  pub past_missing : (i k : ℕ) → count i τ ≤ k → Missing ts h τ i k
  past_missing i k l j m t q = omega (arith, job_below τ i j m t)

  -- and none below
  enough_there : (i k : ℕ) → jobs h (task ts i) ≤ count i τ → k < jobs h (task ts i) → Missing ts h τ i k → ⊥
  enough_there i k l m n = let a = appearance τ i k (omega arith) in n a.0 a.1 a.2 a.3

  -- number 16, from task i on, of next job numbers that count the appearances
  missing_order : (x : List ℕ) → ((i : ℕ) → slot x i ≡ count i τ) → (i left : ℕ) → i + left ≡ length ts.tasks →
      First (in_turn (missing_tests ts h τ) i left) (unless (all_started h (drop i ts.tasks) (drop i x)) 16 (missing_from i h (drop i ts.tasks) (drop i x)))
  missing_order x c i zero e = rw (drop_of_length-le ts.tasks {i = i} (omega arith)) no_test
  missing_order x c i (suc left) e =
      let q : head₀ (drop i x) ≡ count i τ = head_drop x i ∙ c i in
      rw (drop-cons ts.tasks i no_task (omega arith))
      (lowest_missing (ltb (head₀ (drop i x)) (jobs h (task ts i))) i (all_started h (drop (suc i) ts.tasks) (tail₀ (drop i x)))
      (missing_from (suc i) h (drop (suc i) ts.tasks) (tail₀ (drop i x)))
      (λ b m. enough_there i m.0 (omega (arith, ltb-false (head₀ (drop i x)) (jobs h (task ts i)) b)) m.1 m.2)
      (λ b. (count i τ, omega (arith, ltb-true (head₀ (drop i x)) (jobs h (task ts i)) b), past_missing i (count i τ) (omega arith)))
      (rw (tail_drop x i) (missing_order x c (suc i) left (omega arith))))

  -- entries in turn, from entry j on, then 16
  entries_order : (σ : List Entry) (j : ℕ) (x : List ℕ) (f : ℕ) → Before ts h τ j x f σ →
      First (in_turn (entry_tests ts h τ) j (length σ) ++ in_turn (missing_tests ts h τ) 0 (length ts.tasks))
      (entries_fault (setting_of ts h) (missing_from 0 h ts.tasks) (head_count ts + j) x f σ)
  entries_order [] j x f b =
      missing_order x (λ i. b.started i ∙ ap (count i) (take_all j τ (past_end ts h τ b))) 0 (length ts.tasks) (omega arith)
  entries_order (e ∷ σ) j x f b =
      first_then (entry_order b) (λ _. rw (← (add-suc (head_count ts) j)) (entries_order σ (suc j) _ _ (at_next ts h τ b)))

  -- the first fault of entries, for any end of the cycle, is that of the first test that refuses
  pub judging_order : First (timetable_tests ts h τ) (entries_fault (setting_of ts h) (missing_from 0 h ts.tasks) (head_count ts) [] 0 τ)
  judging_order = rw (add-zero (head_count ts)) at (entries_order τ 0 [] 0 (at_first ts h τ))

-- the first fault of a timetable is that of the first test that refuses
pub timetable_order : (ts : Set) (τ : List Entry) → First (timetable_tests ts (hyperperiod ts) τ) (timetable_fault ts τ)
timetable_order ts τ = judging_order ts (hyperperiod ts) τ

-- the set first, then its timetable
pub judged_timetable_order : (ts : Set) (τ : List Entry) →
    First (set_tests ts ++ timetable_tests ts (hyperperiod ts) τ) (first (set_fault ts) (timetable_fault ts τ))
judged_timetable_order ts τ = first_then (set_order ts) (λ _. timetable_order ts τ)
