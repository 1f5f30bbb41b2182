-- Slots from n up begin at 0 and pass on unread: nothing that going on does depends on them, and a start hands them on. Assumes nothing.
use mathlib.Core.Path.{◌≡◌, refl, sym, ◌∙◌, ap, ap₂}
use mathlib.Core.Bool.{Bool, true, false}
use mathlib.Core.List.{List, [], ◌∷◌, ◌++◌}
use Prim.Native.Nat.{ℕ, zero, suc, ◌-◌, ◌≤◌, ◌<◌}
use native.Mathlib.Omega.{arith}
use lib.Dec.{ltb, leb}
use lib.ListN.{length, replicate, get_or, length-take}
use borrow.Author.Tests.{ltb-true, ne_eqb}
use Rattle.fields.specs.Body.{tail₀}
use Rattle.rules.specs.declared.Task.{Task}
use Rattle.rules.specs.declared.Start.{Start}
use Rattle.rules.specs.declared.Dispatcher.{Dispatcher as State}
use Rattle.rules.specs.declared.Turn.{Turn}
use Rattle.std.specs.Prelude.{Ok}
use Rattle.rules.specs.Tasks.{Set, both, limits, jobs, hyperperiod, memory_fault, memory_set}
use Rattle.rules.specs.Setting.{Setting, Tables}
use Rattle.rules.specs.Priority.{slot, all_started, setting_of, setting}
use Rattle.rules.specs.Offsets.{Source, lent, idle_now, readable, tasks_readable, Standing, NextStart, all_readable, shown_delays, shown_step, idled, waited, next_start_in, next_start, moved, inversion_offsets, first_offsets}
use Rattle.rules.specs.Judging.{judge_tables}
use Rattle.rules.specs.Operations.{Tabled, read_tables}
use Rattle.rules.specs.Dispatcher.{set_of, zeros, zero_task, stopped, is_none, counts_possible, running_possible, is_stopped, possible, began, latest_end, front, started, start_next, last_cycle, after_running, at_cycle_start, next_turn, go_on, fresh, at_begin, begin}
use Rattle.rules.specs.SlotsAbove.{SameAbove, SameBelow}
use Rattle.rules.proofs.Cases.{by_bool, by_eq, by_step, by_judged, clash}
use Rattle.rules.proofs.PriorityLaws.{slot_start_other}
use Rattle.rules.proofs.Arrays.{slot_zeros}
use Rattle.rules.proofs.NextTurns.{next_keeps_rules}
use Rattle.rules.proofs.StuckStarts.{by_next}
use Rattle.rules.proofs.PossibleStates.{is_possible}
use Rattle.rules.proofs.Shown.{slot_put_same, slot_put_other, slot_front}
use Rattle.rules.proofs.NextJobs.{step_same}
use Rattle.rules.proofs.Slots.{Same, all_started_same, start_same, by_slots}

-- whether tasks' offsets can be read depends only on the slots of the set's tasks
readable_same : (S : Source) (n : ℕ) (p q : List ℕ) → Same n p q → tasks_readable S n p ≡ tasks_readable S n q
readable_same S zero p q s = refl
readable_same S (suc n) p q s =
    ap₂ (λ (o : ℕ) (b : Bool). both (readable (S.inversion_shown o)) b) (s 0 (omega arith))
    (readable_same S n (tail₀ p) (tail₀ q) (λ i l. s (suc i) (omega arith)))

-- and so does whether next job numbers are possible
counts_same : (h : ℕ) (ts : List Task) (x y : List ℕ) → Same (length ts) x y → counts_possible h ts x ≡ counts_possible h ts y
counts_same h [] x y s = refl
counts_same h (t ∷ ts) x y s =
    ap₂ (λ (k : ℕ) (b : Bool). both (leb k (jobs h t)) b) (s 0 (omega arith))
    (counts_same h ts (tail₀ x) (tail₀ y) (λ i l. s (suc i) (omega arith)))

-- places to look from that hold the same, in the first n slots
record SameStanding (n : ℕ) (a b : Standing (List ℕ)) : Type 0 where
  next : Same n a.next b.next
  free : a.free ≡ b.free
  offsets : Same n a.offsets b.offsets
  idle : a.idle ≡ b.idle

module _ (ts : Set) (h : ℕ) (S : Source) where
  abbrev G : Setting
  G = setting_of ts h

  -- so does the search for the next start
  next_same : (turns : ℕ) (a b : Standing (List ℕ)) → SameStanding (length ts.tasks) a b → next_start_in G S turns a ≡ next_start_in G S turns b
  next_same zero a b s = refl
  next_same (suc turns) a b s =
      let all : all_readable G S a.offsets a.idle ≡ all_readable G S b.offsets b.idle =
      ap₂ (λ (o : ℕ) (r : Bool). both (readable (S.idle_shown o)) r) s.idle (readable_same S (length ts.tasks) a.offsets b.offsets s.offsets) in
      let turn : shown_step G S a ≡ shown_step G S b =
      rw (s.free, s.idle)
      (step_same G (by_slots ts h) a.next b.next b.free (idle_now (S.idle_shown b.idle)) (shown_delays G S a.next a.offsets)
      (shown_delays G S b.next b.offsets) s.next (λ i l. rw (s.next i l, s.offsets i l))) in
      by_bool (all_readable G S b.offsets b.idle)
      (λ r. by_step (shown_step G S b)
      (λ u e. rw (all ∙ r, r, turn ∙ e, e, next_start_in)
      (next_same turns (idled G S a u) (idled G S b u) (record { next = s.next; free = refl; offsets = s.offsets; idle = rw s.idle })))
      (λ i t e. rw (all ∙ r, r, turn ∙ e, e, next_start_in) (rw s.idle))
      (λ u e. rw (all ∙ r, r, turn ∙ e, e, next_start_in)
      (next_same turns (waited G S a u) (waited G S b u) (record { next = s.next; free = refl; offsets = s.offsets; idle = s.idle })))
      (λ number e. rw (all ∙ r, r, turn ∙ e, e, next_start_in)))
      (λ r. rw (all ∙ r, r, next_start_in))

  -- the offsets after a start
  moved_same : (n : ℕ) (x y p q : List ℕ) (i : ℕ) → Same n x y → Same n p q → Same n (moved G S x p i) (moved G S y q i)
  moved_same n x y p q i sx sp j l =
      by_eq j i
      (λ u. let ex : slot x i ≡ slot y i = sx i (omega arith) in
      let ep : slot p i ≡ slot q i = sp i (omega arith) in
      rw (u, slot_put_same p i _, slot_put_same q i _) (rw (ex, ep)))
      (λ u. slot_put_other p i j _ u ∙ sp j l ∙ sym (slot_put_other q i j _ u))

-- the slots from n up of a list in front are those of the list behind it
slot_behind : (n : ℕ) (a b : List ℕ) (j : ℕ) → n ≤ j → slot (front n a b) j ≡ slot b j
slot_behind zero a b j l = refl
slot_behind (suc n) a b zero l = absurd (omega arith)
slot_behind (suc n) a b (suc j) l = slot_behind n (tail₀ a) (tail₀ b) j (omega arith)

-- lists with the same in their first n slots, in front of others
front_same : (n m : ℕ) (a b x y : List ℕ) → n ≡ m → Same n a b → Same n (front n a x) (front m b y)
front_same n m a b x y e s i l = slot_front n a x i l ∙ s i l ∙ sym (slot_front m b y i (omega arith))

-- the set of a state has at most n tasks
few_in_set : (s : State) → length (set_of s).tasks ≤ s.set.n
unfolding memory_set
few_in_set s = simp length-take (omega arith)

-- turns that answer alike, with states that differ at most in the slots from n up
pub record Alike (t t' : Turn) : Type 0 where
  pub answers : t.answer ≡ t'.answer
  pub states : SameBelow t.state t'.state

-- a state is like itself
same_itself : (s : State) → SameBelow s s
same_itself s = record {
  n = refl;
  set = refl;
  next = λ i l. refl;
  cycle = refl;
  running = refl;
  idle_now = refl;
  now = λ i l. refl;
  idle_first = refl;
  first = λ i l. refl;
}

module _ (bytes : List ℕ) (s s' : State) (b : SameBelow s s') where
  -- a number of slots that the set's tasks have
  in-set : (x y : List ℕ) → Same s.set.n x y → Same (length (set_of s).tasks) x y
  in-set x y e i l = e i (omega (arith, few_in_set s))

  -- looking for the next start from places that hold the same
  start_alike : (c c' : ℕ) (a a' : Standing (List ℕ)) → c ≡ c' → SameStanding s.set.n a a' → Alike (start_next bytes s c a) (start_next bytes s' c' a')
  start_alike c c' a a' sc sa =
      let ts : Set = set_of s in
      let in-first : SameStanding (length ts.tasks) a a' =
      record { next = in-set a.next a'.next sa.next; free = sa.free; offsets = in-set a.offsets a'.offsets sa.offsets; idle = sa.idle } in
      let e : next_start (setting (set_of s')) (lent bytes (set_of s')) a' ≡ next_start (setting ts) (lent bytes ts) a =
      rw (← b.set) (sym (next_same ts (hyperperiod ts) (lent bytes ts) (suc (hyperperiod ts)) a a' in-first)) in
      by_next (next_start (setting ts) (lent bytes ts) a)
      (λ i t w n.
      let n' = e ∙ n in
      let l : i < s.set.n = omega (arith, few_in_set s, (next_keeps_rules bytes ts a i t w n).a_task) in
      rw (n, n', started) (record {
        answers = rw (sc, sa.next i l, b.set);
        states = record {
          n = b.n;
          set = b.set;
          next = start_same s.set.n a.next a'.next i sa.next;
          cycle = sc;
          running = rw (sa.next i l);
          idle_now = refl;
          now = rw (← b.set)
              (moved_same ts (hyperperiod ts) (lent bytes ts) s.set.n a.next a'.next a.offsets a'.offsets i sa.next sa.offsets);
          idle_first = b.idle_first;
          first = b.first;
        };
      }))
      (λ number n. let n' = e ∙ n in rw (n, n', started) (record { answers = refl; states = same_itself stopped }))

  -- the next turn
  turn_alike : Alike (next_turn bytes s) (next_turn bytes s')
  turn_alike =
      let ts : Set = set_of s in
      let all : all_started (hyperperiod (set_of s')) (set_of s').tasks s'.next ≡ all_started (hyperperiod ts) ts.tasks s.next =
      rw (← b.set) (sym (all_started_same (hyperperiod ts) ts.tasks s.next s'.next (in-set s.next s'.next b.next))) in
      by_bool (all_started (hyperperiod ts) ts.tasks s.next)
      (λ a. let a' = all ∙ a in
      by_bool (ltb s.cycle last_cycle)
      (λ c. let c' : ltb s'.cycle last_cycle ≡ true = rw (← b.cycle) c in
      rw (a, a', c, c', next_turn)
      (start_alike (suc s.cycle) (suc s'.cycle) (at_cycle_start s) (at_cycle_start s') (ap suc b.cycle) (record {
        next = front_same s.set.n s'.set.n [] [] s.next s'.next b.n (λ i l. refl);
        free = refl;
        offsets = front_same s.set.n s'.set.n s.first.inversions s'.first.inversions s.now.inversions s'.now.inversions b.n b.first;
        idle = b.idle_first;
      })))
      (λ c. let c' : ltb s'.cycle last_cycle ≡ false = rw (← b.cycle) c in
      rw (a, a', c, c', next_turn) (record { answers = refl; states = b })))
      (λ a. let a' = all ∙ a in
      rw (a, a', next_turn)
      (start_alike s.cycle s'.cycle (after_running s) (after_running s') b.cycle
      (record { next = b.next; free = rw (b.set, b.running); offsets = b.now; idle = b.idle_now })))

  -- the tests of a state
  running_same : running_possible (set_of s) s ≡ running_possible (set_of s') s'
  running_same =
      rw (← b.set, ← b.n, ← b.running)
      (by_bool (ltb s.running.task s.set.n) (λ c. rw (b.next s.running.task (ltb-true _ _ c))) (λ c. rw c))

  possible_same : possible s ≡ possible s'
  possible_same =
      let counts : counts_possible (hyperperiod (set_of s)) (set_of s).tasks s.next ≡ counts_possible (hyperperiod (set_of s')) (set_of s').tasks s'.next =
      rw (← b.set) (counts_same (hyperperiod (set_of s)) (set_of s).tasks s.next s'.next (in-set s.next s'.next b.next)) in
      let sets : is_none (memory_fault s.set) ≡ is_none (memory_fault s'.set) = rw (← b.set, ← b.n) in
      ap₂ both sets (ap₂ both counts running_same)

  -- a state with a task is not stopped
  not_stopped : (r : State) → 1 ≤ r.set.n → is_stopped r ≡ false
  not_stopped r l = rw (ne_eqb r.set.n 0 (λ z. omega arith))

  -- going on
  pub going_alike : (end : ℕ) → 1 ≤ s.set.n → Alike (go_on bytes s end) (go_on bytes s' end)
  unfolding go_on
  going_alike end some =
      let u = not_stopped s some in
      let u' = not_stopped s' (omega (arith, b.n)) in
      let began-same : began s ≡ began s' = rw (b.set, b.cycle, b.running) in
      let latest-same : latest_end s ≡ latest_end s' = rw (b.set, b.cycle, b.running) in
      by_bool (possible s)
      (λ p. let p' = sym possible_same ∙ p in
      by_bool (ltb end (began s))
      (λ c. let c' : ltb end (began s') ≡ true = rw (← began-same) c in rw (u, u', p, p', c, c', go_on) (record { answers = refl; states = b }))
      (λ c. let c' : ltb end (began s') ≡ false = rw (← began-same) c in
      by_bool (ltb (latest_end s) end)
      (λ d. let d' : ltb (latest_end s') end ≡ true = rw (← latest-same) d in
      rw (u, u', p, p', c, c', d, d', go_on) (record { answers = refl; states = same_itself stopped }))
      (λ d. let d' : ltb (latest_end s') end ≡ false = rw (← latest-same) d in rw (u, u', p, p', c, c', d, d', go_on) turn_alike)))
      (λ p. let p' = sym possible_same ∙ p in rw (u, u', p, p', go_on) (record { answers = refl; states = same_itself stopped }))

-- what a turn that answers a start hands on in the slots from n up
abbrev HandsOn : State → Turn → Type 0
HandsOn s t = (a : Start) → t.answer ≡ Ok a → SameAbove s.set.n t.state s

module _ (bytes : List ℕ) (s : State) where
  -- looking for the next start, from slots that hold there what the state holds
  start_hands_on : (c : ℕ) (a : Standing (List ℕ)) → ((j : ℕ) → s.set.n ≤ j → slot a.next j ≡ slot s.next j) →
      ((j : ℕ) → s.set.n ≤ j → slot a.offsets j ≡ slot s.now.inversions j) → HandsOn s (start_next bytes s c a)
  start_hands_on c a ex eo =
      let ts : Set = set_of s in
      by_next (next_start (setting ts) (lent bytes ts) a)
      (λ i t w n.
      let l : i < s.set.n = omega (arith, few_in_set s, (next_keeps_rules bytes ts a i t w n).a_task) in
      rw (n, started) (λ z e. record {
        tasks = λ j k. refl;
        next = λ j k. slot_start_other a.next i j (λ u. omega arith) ∙ ex j k;
        now = λ j k. slot_put_other a.offsets i j _ (λ u. omega arith) ∙ eo j k;
        first = λ j k. refl;
      }))
      (λ number n. rw (n, started) (λ z e. clash (cc)))

  -- the next turn
  turn_hands_on : HandsOn s (next_turn bytes s)
  turn_hands_on =
      by_bool (all_started (hyperperiod (set_of s)) (set_of s).tasks s.next)
      (λ a. by_bool (ltb s.cycle last_cycle)
      (λ b. rw (a, b, next_turn)
      (start_hands_on (suc s.cycle) (at_cycle_start s) (slot_behind s.set.n [] s.next)
      (slot_behind s.set.n s.first.inversions s.now.inversions)))
      (λ b. rw (a, b, next_turn) (λ z e. clash (cc))))
      (λ a. rw (a, next_turn) (start_hands_on s.cycle (after_running s) (λ j k. refl) (λ j k. refl)))

  -- a start that going on answers is that of the next turn, from a possible state
  pub from_next_turn : (end : ℕ) (a : Start) → (go_on bytes s end).answer ≡ Ok a → (possible s ≡ true) × (go_on bytes s end ≡ next_turn bytes s)
  unfolding go_on
  from_next_turn end a =
      by_bool (is_stopped s) (λ u. rw (u, go_on) (λ e. clash (cc)))
      (λ u. by_bool (possible s)
      (λ b. by_bool (ltb end (began s)) (λ c. rw (u, b, c, go_on) (λ e. clash (cc)))
      (λ c. by_bool (ltb (latest_end s) end) (λ d. rw (u, b, c, d, go_on) (λ e. clash (cc))) (λ d. rw (u, b, c, d, go_on) (λ e. (refl, refl)))))
      (λ b. rw (u, b, go_on) (λ e. clash (cc))))

  -- such a state has a task
  pub has_a_task : (end : ℕ) (a : Start) → (go_on bytes s end).answer ≡ Ok a → 1 ≤ s.set.n
  has_a_task end a e = (is_possible s (from_next_turn end a e).0).some_tasks

  -- going on
  pub going_hands_on : (end : ℕ) → HandsOn s (go_on bytes s end)
  going_hands_on end a e = let w = (from_next_turn end a e).1 in rw w (turn_hands_on a (rw w at e))

-- states that hold the same above, by way of a third
above_by_way : {n : ℕ} {s t u : State} → SameAbove n s t → SameAbove n t u → SameAbove n s u
above_by_way a b = record {
  tasks = λ j l. a.tasks j l ∙ b.tasks j l;
  next = λ j l. a.next j l ∙ b.next j l;
  now = λ j l. a.now j l ∙ b.now j l;
  first = λ j l. a.first j l ∙ b.first j l;
}

-- every slot of zero tasks holds one
zero_tasks : (m j : ℕ) → get_or (replicate m zero_task) j zero_task ≡ zero_task
zero_tasks zero j = refl
zero_tasks (suc m) zero = refl
zero_tasks (suc m) (suc j) = zero_tasks m j

-- so do the slots behind the tasks of a set
tasks_behind : (ts : List Task) (m j : ℕ) → length ts ≤ j → get_or (ts ++ replicate m zero_task) j zero_task ≡ zero_task
tasks_behind [] m j l = zero_tasks m j
tasks_behind (t ∷ ts) m zero l = absurd (omega arith)
tasks_behind (t ∷ ts) m (suc j) l = tasks_behind ts m j (omega arith)

-- and behind the tasks' first offsets stands 0
offsets_behind : (ts : Set) (X : Tables) (i many m j : ℕ) → many ≤ j → slot (inversion_offsets ts X i many ++ replicate m 0) j ≡ 0
offsets_behind ts X i zero m j l = slot_zeros m j
offsets_behind ts X i (suc many) m zero l = absurd (omega arith)
offsets_behind ts X i (suc many) m (suc j) l = offsets_behind ts X (suc i) many m j (omega arith)

-- the state from which the first start is made holds 0 there, as the stopped state does
fresh_above : (i : Tabled) → SameAbove (length i.set.tasks) (fresh i) stopped
fresh_above i =
    let ts : Set = i.set in
    let m : ℕ = limits.tasks - length ts.tasks in
    let offsets : (j : ℕ) → length ts.tasks ≤ j → slot (first_offsets ts i.tables).inversions j ≡ slot zeros j =
    λ j l. offsets_behind ts i.tables 0 (length ts.tasks) m j l ∙ sym (slot_zeros limits.tasks j) in
    record {
      tasks = λ j l. tasks_behind ts.tasks m j l ∙ sym (zero_tasks limits.tasks j);
      next = λ j l. refl;
      now = offsets;
      first = offsets;
    }

module _ (bytes : List ℕ) where
  -- a state that holds 0 from its n up
  abbrev BeginsZero : Turn → Type 0
  BeginsZero t = SameAbove t.state.set.n t.state stopped

  -- the stopped state does
  stopped_above : SameAbove 0 stopped stopped
  stopped_above = record { tasks = λ j l. refl; next = λ j l. refl; now = λ j l. refl; first = λ j l. refl }

  -- so does the state after the first start
  first_above : (i : Tabled) → BeginsZero (start_next bytes (fresh i) 0 (at_begin (fresh i)))
  first_above i =
      let s : State = fresh i in
      let a : Standing (List ℕ) = at_begin s in
      by_next (next_start (setting (set_of s)) (lent bytes (set_of s)) a)
      (λ k t w n.
      let kept = start_hands_on bytes s 0 a (λ j l. refl) (λ j l. refl) _ (ap (λ (z : NextStart). (started bytes s 0 a z).answer) n) in
      rw (n, started) (above_by_way (rw (n, started) at kept) (fresh_above i)))
      (λ number n. rw (n, started) stopped_above)

  -- and the state that beginning hands back
  pub begins_zero : BeginsZero (begin bytes)
  unfolding begin
  begins_zero =
      by_judged (read_tables bytes)
      (λ i r. by_judged (judge_tables i.set i.tables) (λ τ e. rw (r, e) (first_above i)) (λ f e. rw (r, e) stopped_above))
      (λ f r. rw r stopped_above)
