-- The first fault of ID and PV records is that of the first record that breaks its rule. Assumes nothing.
use mathlib.Core.Path.{◌≡◌}
use mathlib.Core.Logic.{◌↔◌, inl, inr}
use mathlib.Core.Bool.{Bool, true}
use mathlib.Core.List.{List, ◌++◌}
use mathlib.Core.Option.{none}
use Prim.Native.Nat.{ℕ, zero, suc, ◌+◌, ◌≤◌, ◌<◌}
use native.Mathlib.Omega.{arith}
use native.Mathlib.Nat.{add-suc, add-zero}
use lib.Dec.{ltb, leb}
use lib.ListN.{length, drop, drop_of_length-le}
use lib.Seq.{drop-cons}
use borrow.Author.Tests.{ltb-true, leb-true, lt-ltb, le-leb}
use Rattle.rules.specs.declared.Idle.{Idle}
use Rattle.rules.specs.declared.Inversion.{Inversion}
use Rattle.rules.specs.Refusals.{First, no_test, first, in_turn}
use Rattle.rules.specs.Tasks.{Set, both, task, jobs, hyperperiod, set_fault, set_tests}
use Rattle.rules.specs.Setting.{Tables}
use Rattle.rules.specs.Irregularities.{at_most}
use Rattle.rules.specs.Judging.{idle_in_range, inversion_in_range, idles_fault, inversions_fault, records_fault}
use Rattle.rules.specs.Order.{idle, inversion, AbovePrevious, IdleKeepsRule, PairRises, InversionKeepsRule, idle_tests, inversion_tests, record_tests}
use Rattle.rules.specs.Image.{head_count}
use Rattle.rules.proofs.Cases.{both_true, both_in}
use Rattle.rules.proofs.Pairs.{at_most_lt, at_most_le, at_most_zero, at_most_true}
use Rattle.rules.proofs.FirstTests.{none_holds, none_refuses, none_holds_both, both_none_hold, none_holds_at, none_holds_in_turn, first_then, first_rule, not_broken}
use Rattle.rules.proofs.GoodSets.{set_order}

-- ID records
module _ (h : ℕ) (idles : List Idle) where
  -- the tick from which ID record j may start
  abbrev idle_from : ℕ → ℕ
  idle_from zero = 0
  idle_from (suc j) = suc ((idle idles j).start + (idle idles j).length)

  -- the test of ID record j
  abbrev idle_passes : ℕ → Bool
  idle_passes j = both (leb (idle_from j) (idle idles j).start) (idle_in_range h (idle idles j))

  -- a record starts from that tick on exactly where it starts above the previous one's end
  above_previous : (j : ℕ) → idle_from j ≤ (idle idles j).start → AbovePrevious idles j
  above_previous zero l = tt
  above_previous (suc j) l = l

  from_previous : (j : ℕ) → AbovePrevious idles j → idle_from j ≤ (idle idles j).start
  from_previous zero a = omega arith
  from_previous (suc j) a = a

  -- it is passed by a record that keeps its rule, and by no other
  idle_keeps : (j : ℕ) → idle_passes j ≡ true → IdleKeepsRule h idles j
  idle_keeps j e =
      let a = both_true (leb (idle_from j) (idle idles j).start) _ e in
      let b = both_true (leb 1 (idle idles j).length) _ a.1 in
      record { long_enough = leb-true _ _ b.0; within = ltb-true _ _ b.1; above = above_previous j (leb-true _ _ a.0) }

  keeps_idle : (j : ℕ) → IdleKeepsRule h idles j → idle_passes j ≡ true
  keeps_idle j r = both_in _ _ (le-leb _ _ (from_previous j r.above)) (both_in _ _ (le-leb _ _ r.long_enough) (lt-ltb _ _ r.within))

  -- ID records in turn, from record j on
  idles_order : (n j left : ℕ) → j + left ≡ length idles → First (in_turn (idle_tests n h idles) j left) (idles_fault h (n + j) (idle_from j) (drop j idles))
  idles_order n j zero e = rw (drop_of_length-le idles {i = j} (omega arith)) no_test
  idles_order n j (suc left) e =
      rw (drop-cons idles j (record { start = 0; length = 0 }) (omega arith))
      (first_then (first_rule (idle_passes j) (idle_keeps j) (keeps_idle j) 17 (n + j))
      (λ _. rw (← (add-suc n j)) (idles_order n (suc j) left (omega arith))))

-- PV records
module _ (ts : Set) (h : ℕ) (p : List Inversion) where
  -- the pair (task, job) from which PV record j may be
  abbrev task_from : ℕ → ℕ
  task_from zero = 0
  task_from (suc j) = (inversion p j).task

  abbrev job_from : ℕ → ℕ
  job_from zero = 0
  job_from (suc j) = suc (inversion p j).job

  abbrev rises_from : ℕ → Bool
  rises_from j = at_most (task_from j) (job_from j) (inversion p j).task (inversion p j).job

  -- the test of PV record j
  abbrev inversion_passes : ℕ → Bool
  inversion_passes j = both (rises_from j) (inversion_in_range ts h (inversion p j))

  -- a record's pair is from there on exactly where it is above the previous one's
  pair_rises : (j : ℕ) → rises_from j ≡ true → PairRises p j
  pair_rises zero e = tt
  pair_rises (suc j) e =
      at_most_true (inversion p j).task (suc (inversion p j).job) (inversion p (suc j)).task (inversion p (suc j)).job e (λ l. inl l) (λ t l. inr (t, l))

  rises_pair : (j : ℕ) → PairRises p j → rises_from j ≡ true
  rises_pair zero r = at_most_zero (inversion p 0).task (inversion p 0).job
  rises_pair (suc j) (inl l) = at_most_lt _ (suc (inversion p j).job) _ (inversion p (suc j)).job l
  rises_pair (suc j) (inr r) = at_most_le _ _ _ _ r.0 r.1

  -- it is passed by a record that keeps its rule, and by no other
  inversion_keeps : (j : ℕ) → inversion_passes j ≡ true → InversionKeepsRule ts h p j
  inversion_keeps j e =
      let a = both_true (rises_from j) _ e in
      let b = both_true (ltb (inversion p j).task (length ts.tasks)) _ a.1 in
      let c = both_true (ltb (inversion p j).job (jobs h (task ts (inversion p j).task))) _ b.1 in
      record { a_task = ltb-true _ _ b.0; a_job = ltb-true _ _ c.0; in_time = leb-true _ _ c.1; rises = pair_rises j a.0 }

  keeps_inversion : (j : ℕ) → InversionKeepsRule ts h p j → inversion_passes j ≡ true
  keeps_inversion j r =
      both_in _ _ (rises_pair j r.rises) (both_in _ _ (lt-ltb _ _ r.a_task) (both_in _ _ (lt-ltb _ _ r.a_job) (le-leb _ _ r.in_time)))

  -- PV records in turn, from record j on
  inversions_order : (before j left : ℕ) → j + left ≡ length p →
      First (in_turn (inversion_tests ts h before p) j left) (inversions_fault ts h (before + j) (task_from j) (job_from j) (drop j p))
  inversions_order before j zero e = rw (drop_of_length-le p {i = j} (omega arith)) no_test
  inversions_order before j (suc left) e =
      rw (drop-cons p j (record { task = 0; job = 0; delay = 0 }) (omega arith))
      (first_then (first_rule (inversion_passes j) (inversion_keeps j) (keeps_inversion j) 17 (before + j))
      (λ _. rw (← (add-suc before j)) (inversions_order before (suc j) left (omega arith))))

-- the first fault of records is that of the first test that refuses
pub record_order : (ts : Set) (h : ℕ) (X : Tables) → First (record_tests ts h X) (records_fault ts h X)
record_order ts h X =
    let n : ℕ = head_count ts in
    let m : ℕ = length X.idles in
    first_then (rw (add-zero n) at (idles_order h X.idles n 0 m (omega arith)))
    (λ _. rw (add-zero (n + m)) at (inversions_order ts h X.inversions (n + m) 0 (length X.inversions) (omega arith)))

-- the set first, then its records
pub judged_records_order : (ts : Set) (X : Tables) →
    First (set_tests ts ++ record_tests ts (hyperperiod ts) X) (first (set_fault ts) (records_fault ts (hyperperiod ts) X))
judged_records_order ts X = first_then (set_order ts) (λ _. record_order ts (hyperperiod ts) X)

-- records have no fault exactly where each keeps its rule
pub every_record_keeps : (ts : Set) (h : ℕ) (X : Tables) →
    (records_fault ts h X ≡ none)
    ↔ (((j : ℕ) → j < length X.idles → IdleKeepsRule h X.idles j) × ((j : ℕ) → j < length X.inversions → InversionKeepsRule ts h X.inversions j))
every_record_keeps ts h X =
    let n : ℕ = head_count ts in
    let before : ℕ = n + length X.idles in
    let k : List Idle = X.idles in
    let p : List Inversion = X.inversions in (
      λ e. let z = none_holds_both (in_turn (idle_tests n h k) 0 (length k)) _ (none_holds (record_order ts h X) e) in (
        λ j l. not_broken (idle_passes h k j) (idle_keeps h k j) (keeps_idle h k j)
            (none_holds_at (idle_tests n h k) 0 (length k) z.0 j (omega arith) (omega arith)).0,
        λ j l. not_broken (inversion_passes ts h p j) (inversion_keeps ts h p j) (keeps_inversion ts h p j)
            (none_holds_at (inversion_tests ts h before p) 0 (length p) z.1 j (omega arith) (omega arith)).0,
      ),
      λ r. none_refuses (record_order ts h X)
          (both_none_hold (in_turn (idle_tests n h k) 0 (length k)) _
          (none_holds_in_turn (idle_tests n h k) 0 (length k) (λ j lo hi. (λ c. c (r.0 j (omega arith)), tt)))
          (none_holds_in_turn (inversion_tests ts h before p) 0 (length p) (λ j lo hi. (λ c. c (r.1 j (omega arith)), tt)))),
    )
