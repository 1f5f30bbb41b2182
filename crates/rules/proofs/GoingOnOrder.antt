-- Going on refuses by the first of the document's tests whose condition holds, with place 0, and leaves the state that the refusal's number says; for
-- every state, all bytes and every reported end. Assumes nothing.
use mathlib.Core.Path.{◌≡◌, refl, sym, ◌∙◌}
use mathlib.Core.Bool.{false}
use mathlib.Core.List.{List, [], ◌∷◌}
use Prim.Native.Nat.{ℕ, suc, ◌≤◌, ◌<◌}
use native.Mathlib.Omega.{arith}
use lib.Dec.{ltb}
use borrow.Author.Tests.{ltb-true, ltb-false}
use Rattle.rules.specs.declared.Located.{Located}
use Rattle.rules.specs.declared.Dispatcher.{Dispatcher as State}
use Rattle.rules.specs.declared.Turn.{Turn}
use Rattle.std.specs.Prelude.{Err}
use Rattle.rules.specs.Refusals.{refusal, of_no_image, test, First, no_test, holds, passes}
use Rattle.rules.specs.Tasks.{hyperperiod}
use Rattle.rules.specs.Priority.{all_started, setting}
use Rattle.rules.specs.Offsets.{lent, Standing, next_start}
use Rattle.rules.specs.Dispatcher.{is_stopped, set_of, possible, began, latest_end, refused, started, start_next, last_cycle, after_running, at_cycle_start, next_turn, go_on}
use Rattle.rules.specs.GoingOn.{Stopped, StuckAt, PossibleState, CycleDone, StuckNext, next_cycle, same_cycle, going_tests, start_refusal, Leaves, end_before_start, end_too_late, was_stopped, all_done, impossible}
use Rattle.rules.proofs.Cases.{by_bool, clash, differ}
use Rattle.rules.proofs.StuckStarts.{by_next, stuck_at, start_not_stuck}
use Rattle.rules.proofs.Shown.{slot_front}
use Rattle.rules.proofs.GoodSets.{good_set, set_good, good_rules, some_jobs}
use Rattle.rules.proofs.PriorityLaws.{left_not_all}
use Rattle.rules.proofs.PossibleStates.{is_possible, possible_is, stopped_says, says_stopped, cycle_done, done_cycle}

module _ (bytes : List ℕ) (s : State) where
  -- in the next cycle there is a job left
  left_in_next_cycle : PossibleState s → all_started (hyperperiod (set_of s)) (set_of s).tasks (at_cycle_start s).next ≡ false
  left_in_next_cycle p =
      let g = set_good (set_of s) p.h p.good_set in
      let k = good_set (set_of s) g.0 in
      left_not_all (hyperperiod (set_of s)) (set_of s).tasks (at_cycle_start s).next 0 k.some_tasks
      (omega (arith, slot_front s.set.n [] s.next 0 p.some_tasks, some_jobs k 0 k.some_tasks))

  -- 25 for bytes, where the next start is looked for from one place
  start_order : (c : ℕ) (a : Standing (List ℕ)) → PossibleState s → all_started (hyperperiod (set_of s)) (set_of s).tasks a.next ≡ false →
      (StuckAt (set_of s) (hyperperiod (set_of s)) (lent bytes (set_of s)) a → StuckNext bytes s) →
      (StuckNext bytes s → StuckAt (set_of s) (hyperperiod (set_of s)) (lent bytes (set_of s)) a) →
      First (test 25 0 (StuckNext bytes s) ∷ []) (start_refusal (start_next bytes s c a).answer)
  start_order c a p left to from =
      let keep = good_rules p.good_set in
      by_next (next_start (setting (set_of s)) (lent bytes (set_of s)) a)
      (λ i t w e. rw (e, started) (passes (λ z. start_not_stuck bytes (set_of s) keep e (from z)) no_test))
      (λ number e. rw (e, started) (holds (to (stuck_at bytes (set_of s) keep a number left e))))

  -- what going on is stuck at, where the cycle is done and where it is not
  stuck_next_cycle : CycleDone s → StuckNext bytes s → StuckAt (set_of s) (hyperperiod (set_of s)) (lent bytes (set_of s)) (at_cycle_start s)
  stuck_next_cycle d (next_cycle d' z) = z
  stuck_next_cycle d (same_cycle n z) = absurd (n d)

  stuck_same_cycle : (CycleDone s → ⊥) → StuckNext bytes s → StuckAt (set_of s) (hyperperiod (set_of s)) (lent bytes (set_of s)) (after_running s)
  stuck_same_cycle n (next_cycle d z) = absurd (n d)
  stuck_same_cycle n (same_cycle n' z) = z

  -- 24, then 25 for bytes
  next_order : PossibleState s →
      First (test 24 0 (CycleDone s × (last_cycle ≤ s.cycle)) ∷ test 25 0 (StuckNext bytes s) ∷ []) (start_refusal (next_turn bytes s).answer)
  next_order p =
      by_bool (all_started (hyperperiod (set_of s)) (set_of s).tasks s.next)
      (λ a. let d : CycleDone s = cycle_done s p a in
      by_bool (ltb s.cycle last_cycle)
      (λ b. rw (a, b, next_turn)
      (passes (λ (c : CycleDone s × (last_cycle ≤ s.cycle)). omega (arith, c.1, ltb-true s.cycle last_cycle b))
      (start_order (suc s.cycle) (at_cycle_start s) p (left_in_next_cycle p) (λ z. next_cycle d z) (λ z. stuck_next_cycle d z))))
      (λ b. let last : CycleDone s × (last_cycle ≤ s.cycle) = (d, ltb-false s.cycle last_cycle b) in rw (a, b, next_turn) (holds last)))
      (λ a. let n : CycleDone s → ⊥ = λ d. differ (sym (done_cycle s d) ∙ a) in
      rw (a, next_turn)
      (passes (λ (c : CycleDone s × (last_cycle ≤ s.cycle)). n c.0)
      (start_order s.cycle (after_running s) p a (λ z. same_cycle n z) (λ z. stuck_same_cycle n z))))

  -- exactly the first test in the document's order whose condition holds refuses, and none where a start is answered
  pub going_order : (end : ℕ) → First (going_tests bytes s end) (start_refusal (go_on bytes s end).answer)
  unfolding go_on
  going_order end =
      by_bool (is_stopped s) (λ a. rw (a, go_on) (holds (stopped_says s a)))
      (λ a. by_bool (possible s)
      (λ b. let p : PossibleState s = is_possible s b in
      by_bool (ltb end (began s))
      (λ c. rw (a, b, c, go_on) (passes (not_stopped a) (passes (not_impossible p) (holds (ltb-true end (began s) c)))))
      (λ c. by_bool (ltb (latest_end s) end)
      (λ d. rw (a, b, c, d, go_on)
      (passes (not_stopped a) (passes (not_impossible p) (passes (not_below end (began s) c) (holds (ltb-true (latest_end s) end d))))))
      (λ d. rw (a, b, c, d, go_on)
      (passes (not_stopped a) (passes (not_impossible p) (passes (not_below end (began s) c) (passes (not_below (latest_end s) end d) (next_order p))))))))
      (λ b. rw (a, b, go_on) (passes (not_stopped a) (holds (not_possible b)))))
    where
      not_stopped : is_stopped s ≡ false → Stopped s → ⊥
      not_stopped a z = differ (sym (says_stopped s z) ∙ a)

      not_possible : possible s ≡ false → PossibleState s → ⊥
      not_possible b p = differ (sym (possible_is s p) ∙ b)

      not_impossible : PossibleState s → (PossibleState s → ⊥) → ⊥
      not_impossible p n = n p

      not_below : (u v : ℕ) → ltb u v ≡ false → u < v → ⊥
      not_below u v e l = omega (arith, ltb-false u v e)

-- what a turn of the dispatcher leaves, if it refuses: place and offset 0, and the state that the number says
abbrev LeavesIfRefused : State → Turn → Type 0
LeavesIfRefused s t = (r : Located) → t.answer ≡ Err r → (r.place ≡ 0) × (r.offset ≡ 0) × Leaves s r.number t.state

-- a refusal whose number leaves a state
refused_leaves : {s after : State} {number : ℕ} → Leaves s number after → LeavesIfRefused s (refused (of_no_image (refusal number 0)) after)
refused_leaves {s} {after} {number} l r e = let q : of_no_image (refusal number 0) ≡ r = cc in rw (← q) (refl, refl, l)

module _ (bytes : List ℕ) (s : State) where
  -- looking for the next start
  start_leaves : (c : ℕ) (a : Standing (List ℕ)) → LeavesIfRefused s (start_next bytes s c a)
  start_leaves c a =
      by_next (next_start (setting (set_of s)) (lent bytes (set_of s)) a) (λ i t w e. rw (e, started) (λ r q. clash (cc)))
      (λ number e. rw (e, started) (refused_leaves impossible))

  -- a state that is possible, with an end that may be reported
  next_leaves : LeavesIfRefused s (next_turn bytes s)
  next_leaves =
      by_bool (all_started (hyperperiod (set_of s)) (set_of s).tasks s.next)
      (λ a. by_bool (ltb s.cycle last_cycle)
      (λ b. rw (a, b, next_turn) (start_leaves (suc s.cycle) (at_cycle_start s)))
      (λ b. rw (a, b, next_turn) (refused_leaves all_done)))
      (λ a. rw (a, next_turn) (start_leaves s.cycle (after_running s)))

  -- a refusal of going on has place and offset 0 and leaves the state that its number says
  pub going_leaves : (end : ℕ) (r : Located) → (go_on bytes s end).answer ≡ Err r → (r.place ≡ 0) × (r.offset ≡ 0) × Leaves s r.number (go_on bytes s end).state
  unfolding go_on
  going_leaves end =
      by_bool (is_stopped s) (λ a. rw (a, go_on) (refused_leaves was_stopped))
      (λ a. by_bool (possible s)
      (λ b. by_bool (ltb end (began s)) (λ c. rw (a, b, c, go_on) (refused_leaves end_before_start))
      (λ c. by_bool (ltb (latest_end s) end) (λ d. rw (a, b, c, d, go_on) (refused_leaves end_too_late)) (λ d. rw (a, b, c, d, go_on) next_leaves)))
      (λ b. rw (a, b, go_on) (refused_leaves impossible)))

-- the numbers of going on are 21 to 25
pub going_numbers : {s after : State} {number : ℕ} → Leaves s number after → (21 ≤ number) × (number ≤ 25)
going_numbers end_before_start = (omega arith, omega arith)
going_numbers end_too_late = (omega arith, omega arith)
going_numbers was_stopped = (omega arith, omega arith)
going_numbers all_done = (omega arith, omega arith)
going_numbers impossible = (omega arith, omega arith)
