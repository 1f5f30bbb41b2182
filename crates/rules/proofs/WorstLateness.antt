-- The lateness of a task's worst job: it is that of one of its jobs, no other is larger, there is one such number, and it is from −65,534 to 0.
-- Assumes nothing.
use mathlib.Core.Path.{◌≡◌, refl}
use mathlib.Core.List.{List}
use mathlib.Core.Option.{Option, none, some}
use Prim.Native.Nat.{ℕ, zero, suc, ◌<◌}
use native.Mathlib.Omega.{arith}
use lib.Dec.{eqb}
use lib.ListN.{length}
use lib.IntN.{ℤ, pos, negsuc}
use lib.Signed.{◌<ℤ◌, <ℤ_irrefl}
use borrow.Author.Tests.{eqb-true, eqb-false}
use Rattle.rules.specs.declared.Entry.{Entry}
use Rattle.rules.specs.Tasks.{Set, GoodSet, task, due}
use Rattle.rules.specs.Timetable.{ValidTimetable, entry_at, job_at, end_at}
use Rattle.rules.specs.Lateness.{lateness_at, larger, worst_among, told_worst, worst_lateness, IsWorst}
use Rattle.rules.proofs.Cases.{by_bool, by_eq}
use Rattle.rules.proofs.Signed.{by_below, below_trans, one_number, minus_not_positive, minus_not_below}
use Rattle.rules.proofs.PriorityLaws.{due_in_cycle}
use Rattle.rules.proofs.GoodSets.{some_jobs, good_rules}

module _ (ts : Set) (τ : List Entry) (i : ℕ) where
  -- the worst of the task's jobs among the first n entries
  record WorstAmong (n : ℕ) (z : ℤ) : Type 0 where
    j : ℕ
    before : j < n
    its_task : (entry_at τ j).task ≡ i
    its_lateness : z ≡ lateness_at ts τ j
    no_larger : (k : ℕ) → k < n → (entry_at τ k).task ≡ i → z <ℤ lateness_at ts τ k → ⊥

  abbrev Found : ℕ → Option ℤ → Type 0
  Found n none = (k : ℕ) → k < n → (entry_at τ k).task ≡ i → ⊥
  Found n (some z) = WorstAmong n z

  -- one more entry of the task
  found_more : (n : ℕ) → (entry_at τ n).task ≡ i → (o : Option ℤ) → Found n o → WorstAmong (suc n) (larger o (lateness_at ts τ n))
  found_more n t none f = record {
    j = n;
    before = omega arith;
    its_task = t;
    its_lateness = refl;
    no_larger = λ k l u b. by_eq k n (λ e. <ℤ_irrefl (rw e at b)) (λ e. f k (omega arith) u);
  }
  found_more n t (some w) f =
      by_below w (lateness_at ts τ n)
      (λ e up. rw e
      (record {
        j = n;
        before = omega arith;
        its_task = t;
        its_lateness = refl;
        no_larger = λ k l u b. by_eq k n (λ e. <ℤ_irrefl (rw e at b)) (λ e. f.no_larger k (omega arith) u (below_trans up b));
      }))
      (λ e up. rw e
      (record {
        j = f.j;
        before = omega (arith, f.before);
        its_task = f.its_task;
        its_lateness = f.its_lateness;
        no_larger = λ k l u b. by_eq k n (λ e. up (rw e at b)) (λ e. f.no_larger k (omega arith) u b);
      }))

  -- and one of another
  found_same : (n : ℕ) → ((entry_at τ n).task ≡ i → ⊥) → (o : Option ℤ) → Found n o → Found (suc n) o
  found_same n t none f = λ k l u. by_eq k n (λ e. t (rw e at u)) (λ e. f k (omega arith) u)
  found_same n t (some w) f = record {
    j = f.j;
    before = omega (arith, f.before);
    its_task = f.its_task;
    its_lateness = f.its_lateness;
    no_larger = λ k l u b. by_eq k n (λ e. t (rw e at u)) (λ e. f.no_larger k (omega arith) u b);
  }

  worst_found : (n : ℕ) → Found n (worst_among ts τ i n)
  worst_found zero = λ k l u. omega arith
  worst_found (suc n) =
      by_bool (eqb (entry_at τ n).task i)
      (λ b. rw b (found_more n (eqb-true (entry_at τ n).task i b) (worst_among ts τ i n) (worst_found n)))
      (λ b. rw b (found_same n (eqb-false (entry_at τ n).task i b) (worst_among ts τ i n) (worst_found n)))

  -- a task with an entry has a worst
  told_is : (j : ℕ) → j < length τ → (entry_at τ j).task ≡ i → (o : Option ℤ) → Found (length τ) o → IsWorst ts τ i (told_worst o)
  told_is j l t none f = absurd (f j l t)
  told_is j l t (some w) f =
      record { j = f.j; an_entry = f.before; its_task = f.its_task; its_lateness = f.its_lateness; no_larger = f.no_larger }

-- the worst lateness of a valid timetable is the worst
pub worst_is : {ts : Set} {h : ℕ} {τ : List Entry} → GoodSet ts h → ValidTimetable ts h τ → (i : ℕ) → i < length ts.tasks →
    IsWorst ts τ i (worst_lateness ts τ i)
unfolding worst_lateness
worst_is {ts} {h} {τ} g v i l =
    let a = v.every_job i l 0 (some_jobs g i l) in
    told_is ts τ i a.0 a.1 a.2 (worst_among ts τ i (length τ)) (worst_found ts τ i (length τ))

-- a task has one worst lateness
pub one_worst : {ts : Set} {τ : List Entry} {i : ℕ} {y z : ℤ} → IsWorst ts τ i y → IsWorst ts τ i z → y ≡ z
one_worst {y} {z} a b =
    one_number y z
    (λ l. a.no_larger b.j b.an_entry b.its_task (rw b.its_lateness at l))
    (λ l. b.no_larger a.j a.an_entry a.its_task (rw a.its_lateness at l))

-- it is from −65,534 to 0: no job ends after its deadline, and each ends a tick or more after the cycle's start and is due within the cycle
pub lateness_range : {ts : Set} {h : ℕ} {τ : List Entry} → GoodSet ts h → ValidTimetable ts h τ → {i : ℕ} {z : ℤ} → IsWorst ts τ i z →
    (pos 0 <ℤ z → ⊥) × (z <ℤ negsuc 65533 → ⊥)
lateness_range {ts} {h} {τ} g v {z} w =
    let i : ℕ = (entry_at τ w.j).task in
    let d : ℕ = due (task ts i) (job_at τ w.j) in
    let in_cycle = due_in_cycle h (job_at τ w.j) (task ts i) (good_rules g i) (v.not_too_many w.j w.an_entry) in (
      λ l. minus_not_positive (end_at ts τ w.j) d (v.in_time w.j w.an_entry) (rw w.its_lateness at l),
      λ l. minus_not_below (end_at ts τ w.j) d 65533 (omega (arith, g.short, (good_rules g i).takes_time)) (rw w.its_lateness at l),
    )
