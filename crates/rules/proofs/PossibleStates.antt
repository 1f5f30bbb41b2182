-- The tests of a state say what they are for: 23 that every number is 0, 25 that the state is impossible, and that all jobs of the cycle have started.
-- Assumes nothing.
use mathlib.Core.Path.{◌≡◌, refl, sym, ◌∙◌}
use mathlib.Core.Bool.{Bool, true}
use mathlib.Core.List.{List, [], ◌∷◌, ◌++◌}
use mathlib.Core.Option.{Option, none, some}
use Prim.Native.Nat.{ℕ, zero, suc, ◌*◌, ◌≤◌, ◌<◌}
use native.Mathlib.Omega.{arith}
use lib.Dec.{ltb, leb, eqb}
use lib.ListN.{length, replicate, length-append}
use borrow.Author.Tests.{ltb-true, leb-true, eqb-true, lt-ltb, le-ltb, le-leb, eq-eqb}
use Rattle.fields.specs.Body.{head₀, tail₀}
use Rattle.rules.specs.declared.Task.{Task}
use Rattle.rules.specs.declared.Refusal.{Refusal}
use Rattle.rules.specs.declared.Dispatcher.{Dispatcher as State}
use Rattle.rules.specs.Refusals.{unless}
use Rattle.rules.specs.Tasks.{task_in, Set, both, limits, task, release, jobs, hyperperiod, few_enough, set_fault, memory_fault}
use Rattle.rules.specs.Priority.{slot, all_started}
use Rattle.rules.specs.Dispatcher.{numbers_a_task, task_numbers, numbers, zero_task, stopped, all_zero, is_stopped, set_of, is_none, counts_possible, possible, Shaped, number_count}
use Rattle.rules.specs.GoingOn.{Stopped, PossibleState, CycleDone}
use Rattle.rules.proofs.Cases.{by_le, clash, differ, both_true, both_in, first_none, unless_none}
use Rattle.rules.proofs.PriorityLaws.{slot_empty, left_not_all}
use Rattle.rules.proofs.GoodSets.{good_set, set_good}

-- 25 for the state: the test of next job numbers says that none is above H/T
pub counts_say : (h : ℕ) (ts : List Task) (x : List ℕ) → counts_possible h ts x ≡ true → (i : ℕ) → i < length ts → slot x i ≤ jobs h (task_in ts i)
counts_say h [] x e i l = absurd (omega arith)
counts_say h (t ∷ ts) x e zero l = leb-true _ _ (both_true (leb (head₀ x) (jobs h t)) _ e).0
counts_say h (t ∷ ts) x e (suc i) l = counts_say h ts (tail₀ x) (both_true (leb (head₀ x) (jobs h t)) _ e).1 i (omega arith)

-- next job numbers that are not above H/T pass it
pub say_counts : (h : ℕ) (ts : List Task) (x : List ℕ) → ((i : ℕ) → i < length ts → slot x i ≤ jobs h (task_in ts i)) → counts_possible h ts x ≡ true
say_counts h [] x c = refl
say_counts h (t ∷ ts) x c =
    both_in (leb (head₀ x) (jobs h t)) _ (le-leb _ _ (c 0 (omega arith))) (say_counts h ts (tail₀ x) (λ i l. c (suc i) (omega arith)))

-- the test for no refusal
is_none_says : (o : Option Refusal) → is_none o ≡ true → o ≡ none
is_none_says none e = refl
is_none_says (some r) e = differ (sym e)

module _ (s : State) where
  -- the test of a state says that it is possible
  pub is_possible : possible s ≡ true → PossibleState s
  is_possible e =
      let ts : Set = set_of s in
      let a = both_true (is_none (memory_fault s.set)) _ e in
      let b = both_true (counts_possible (hyperperiod ts) ts.tasks s.next) _ a.1 in
      let m = first_none (unless (few_enough s.set.n) 5 0) (set_fault ts) (is_none_says (memory_fault s.set) a.0) in
      let n = both_true (leb 1 s.set.n) _ (unless_none (few_enough s.set.n) 5 0 m.0) in
      let r = both_true (ltb s.running.task s.set.n) _ b.1 in
      let u = both_true (eqb (slot s.next s.running.task) (suc s.running.job)) _ r.1 in
      let v = both_true (leb (release (task ts s.running.task) s.running.job) s.running.start) _ u.1 in
      record {
        some_tasks = leb-true _ _ n.0;
        few_tasks = leb-true _ _ n.1;
        h = hyperperiod ts;
        good_set = good_set ts m.1;
        counts = counts_say (hyperperiod ts) ts.tasks s.next b.0;
        a_task = ltb-true _ _ r.0;
        last_started = eqb-true _ _ u.0;
        released = leb-true _ _ v.0;
        in_time = leb-true _ _ v.1;
      }

  -- a possible state passes the test
  pub possible_is : PossibleState s → possible s ≡ true
  possible_is p =
      let ts : Set = set_of s in
      let g = set_good ts p.h p.good_set in
      let few : few_enough s.set.n ≡ true = both_in _ _ (le-leb _ _ p.some_tasks) (le-leb _ _ p.few_tasks) in
      let counts : counts_possible (hyperperiod ts) ts.tasks s.next ≡ true = rw g.1 at (say_counts p.h ts.tasks s.next p.counts) in
      rw (few, g.0, counts, lt-ltb _ _ p.a_task, eq-eqb _ _ p.last_started, le-leb _ _ p.released, le-leb _ _ p.in_time)

-- 23: the test of numbers says that each is 0
pub all_zero_says : (x : List ℕ) → all_zero x ≡ true → (j : ℕ) → slot x j ≡ 0
all_zero_says [] e j = slot_empty j
all_zero_says (k ∷ x) e zero = eqb-true k 0 (both_true (eqb k 0) _ e).0
all_zero_says (k ∷ x) e (suc j) = all_zero_says x (both_true (eqb k 0) _ e).1 j

-- numbers that are all 0 pass it
pub says_all_zero : (x : List ℕ) → ((j : ℕ) → slot x j ≡ 0) → all_zero x ≡ true
says_all_zero [] z = refl
says_all_zero (k ∷ x) z = both_in (eqb k 0) (all_zero x) (eq-eqb k 0 (z 0)) (says_all_zero x (λ j. z (suc j)))

-- a state that tests as stopped has every number 0
pub stopped_says : (s : State) → is_stopped s ≡ true → Stopped s
stopped_says s e = all_zero_says (numbers s) e

-- a state with every number 0 tests as stopped
pub says_stopped : (s : State) → Stopped s → is_stopped s ≡ true
says_stopped s z = says_all_zero (numbers s) z

-- numbers that are all 0, in two parts
all_zero_parts : (x y : List ℕ) → all_zero (x ++ y) ≡ true → (all_zero x ≡ true) × (all_zero y ≡ true)
all_zero_parts [] y e = (refl, e)
all_zero_parts (k ∷ x) y e =
    let a = both_true (eqb k 0) (all_zero (x ++ y)) e in
    let b = all_zero_parts x y a.1 in
    (both_in (eqb k 0) (all_zero x) a.0 b.0, b.1)

-- a first number that is 0, and those behind it
first_zero : (k : ℕ) (others : Bool) → both (eqb k 0) others ≡ true → (k ≡ 0) × (others ≡ true)
first_zero k others e = let a = both_true (eqb k 0) others e in (eqb-true k 0 a.0, a.1)

-- a list of so many slots that are all 0
only_zeros : (many : ℕ) (x : List ℕ) → length x ≡ many → all_zero x ≡ true → x ≡ replicate many 0
only_zeros zero [] l e = refl
only_zeros zero (k ∷ x) l e = clash (cc)
only_zeros (suc many) [] l e = clash (cc)
only_zeros (suc many) (k ∷ x) l e =
    let a = first_zero k _ e in
    let r : x ≡ replicate many 0 = only_zeros many x (omega arith) a.1 in
    rw (a.0, r)

zero_is : (t : Task) → t.offset ≡ 0 → t.time ≡ 0 → t.period ≡ 0 → t.deadline ≡ 0 → t ≡ zero_task
zero_is t a b c d = λ i. record { offset = a i; time = b i; period = c i; deadline = d i }

-- a list of so many tasks whose numbers are all 0
only_zero_tasks : (many : ℕ) (ts : List Task) → length ts ≡ many → all_zero (task_numbers ts) ≡ true → ts ≡ replicate many zero_task
only_zero_tasks zero [] l e = refl
only_zero_tasks zero (t ∷ ts) l e = clash (cc)
only_zero_tasks (suc many) [] l e = clash (cc)
only_zero_tasks (suc many) (t ∷ ts) l e =
    let a = first_zero t.offset _ e in
    let b = first_zero t.time _ a.1 in
    let c = first_zero t.period _ b.1 in
    let d = first_zero t.deadline _ c.1 in
    let z : t ≡ zero_task = zero_is t a.0 b.0 c.0 d.0 in
    let r : ts ≡ replicate many zero_task = only_zero_tasks many ts (omega arith) d.1 in
    rw (z, r)

-- of the states as they lie in memory only the stopped state is stopped
pub only_stopped : (s : State) → Shaped s → Stopped s → s ≡ stopped
only_stopped s w z =
    let n = first_zero s.set.n _ (says_stopped s z) in
    let t = all_zero_parts (task_numbers s.set.tasks) _ n.1 in
    let x = all_zero_parts s.next _ t.1 in
    let c = first_zero s.cycle _ x.1 in
    let i = first_zero s.running.task _ c.1 in
    let k = first_zero s.running.job _ i.1 in
    let b = first_zero s.running.start _ k.1 in
    let o = first_zero s.now.idle _ b.1 in
    let p = all_zero_parts s.now.inversions _ o.1 in
    let o₀ = first_zero s.first.idle _ p.1 in
    let ts : s.set.tasks ≡ replicate limits.tasks zero_task = only_zero_tasks limits.tasks s.set.tasks w.tasks t.0 in
    let xs : s.next ≡ replicate limits.tasks 0 = only_zeros limits.tasks s.next w.next x.0 in
    let ps : s.now.inversions ≡ replicate limits.tasks 0 = only_zeros limits.tasks s.now.inversions w.now p.0 in
    let qs : s.first.inversions ≡ replicate limits.tasks 0 = only_zeros limits.tasks s.first.inversions w.first o₀.1 in
    λ j. record {
      set = record { n = n.0 j; tasks = ts j };
      next = xs j;
      cycle = c.0 j;
      running = record { task = i.0 j; job = k.0 j; start = b.0 j };
      now = record { idle = o.0 j; inversions = ps j };
      first = record { idle = o₀.0 j; inversions = qs j };
    }

-- the stopped state tests as stopped
pub stopped_is_stopped : is_stopped stopped ≡ true
stopped_is_stopped = refl

-- a task has four numbers
pub four_each : (ts : List Task) → length (task_numbers ts) ≡ numbers_a_task * length ts
four_each [] = refl
four_each (t ∷ ts) = omega (arith, four_each ts)

-- a state has 119 numbers
pub count_numbers : (s : State) → Shaped s → length (numbers s) ≡ number_count
count_numbers s w = simp (length-append, four_each) (omega (arith, w))

-- where all jobs have started no task has one left
pub none_left : (h : ℕ) (ts : Set) (x : List ℕ) → all_started h ts.tasks x ≡ true → (i : ℕ) → i < length ts.tasks → jobs h (task ts i) ≤ slot x i
none_left h ts x e i l = by_le (jobs h (task ts i)) (slot x i) (λ k. k) (λ k. differ (sym e ∙ left_not_all h ts.tasks x i l k))

-- where no task has a job left all have started
pub all_have_started : (h : ℕ) (ts : List Task) (x : List ℕ) → ((i : ℕ) → i < length ts → jobs h (task_in ts i) ≤ slot x i) → all_started h ts x ≡ true
all_have_started h [] x d = refl
all_have_started h (t ∷ ts) x d =
    rw (le-ltb (head₀ x) (jobs h t) (d 0 (omega arith)), all_started) (all_have_started h ts (tail₀ x) (λ i l. d (suc i) (omega arith)))

module _ (s : State) where
  -- the test that all jobs have started says, of a possible state, that the cycle is done
  pub cycle_done : PossibleState s → all_started (hyperperiod (set_of s)) (set_of s).tasks s.next ≡ true → CycleDone s
  cycle_done p e =
      let g = set_good (set_of s) p.h p.good_set in
      record { h = hyperperiod (set_of s); good_set = good_set (set_of s) g.0; done = none_left (hyperperiod (set_of s)) (set_of s) s.next e }

  -- a cycle that is done passes it
  pub done_cycle : CycleDone s → all_started (hyperperiod (set_of s)) (set_of s).tasks s.next ≡ true
  done_cycle d = rw (set_good (set_of s) d.h d.good_set).1 at (all_have_started d.h (set_of s).tasks s.next d.done)
