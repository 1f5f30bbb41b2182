-- The dispatcher's state and its numbers correspond one to one. Assumes nothing.
use mathlib.Core.Path.{◌≡◌, refl, sym, ◌∙◌, ap}
use mathlib.Core.List.{List, [], ◌∷◌, ◌++◌, map, append-nil}
use Rattle.std.specs.List.{range_with_len}
use Prim.Native.Nat.{ℕ, zero, suc, ◌+◌, ◌*◌, ◌≤◌, ◌<◌}
use native.Mathlib.Omega.{arith}
use lib.ListN.{length, drop, drop_of_length-le}
use lib.Seq.{drop-cons}
use Rattle.rules.specs.declared.Task.{Task}
use Rattle.rules.specs.declared.Dispatcher.{Dispatcher as State}
use Rattle.rules.specs.Dispatcher.{numbers_a_task, task_numbers, numbers, Shaped, number_count}
use Rattle.rules.specs.Dispatcher.{next_position, cycle_position, task_position, job_position, start_position, idle_position, inversions_position, first_idle_position, first_inversions_position}
use Rattle.rules.proofs.PossibleStates.{four_each, count_numbers}
use Rattle.rules.proofs.Cases.{clash}
use Rattle.numbers.specs.Numbers.{slots, number_at, task_from, set_from, numbers_from, state_from}
use Rattle.numbers.proofs.FilledSlots.{sixteen}

module _ (lent : List ℕ) where
  -- the number at a place, and what is behind it
  number_then : (at : ℕ) → at < length lent → number_at lent at ∷ drop (suc at) lent ≡ drop at lent
  number_then at l = sym (drop-cons lent at 0 l)

  -- so many numbers from a place on, and what is behind them
  numbers_then : (at i many from behind : ℕ) → from ≡ at + i → behind ≡ from + many → behind ≤ length lent →
      map (λ (k : ℕ). number_at lent (at + k)) (range_with_len i many) ++ drop behind lent ≡ drop from lent
  numbers_then at i zero from behind e f l = let here : behind ≡ from = omega arith in rw here
  numbers_then at i (suc many) from behind e f l =
      rw (← e)
      (ap (λ (x : List ℕ). number_at lent from ∷ x) (numbers_then at (i + 1) many (suc from) behind (omega arith) (omega arith) l)
      ∙ number_then from (omega arith))

  -- so many tasks from a place on, and what is behind their numbers
  tasks_then : (at i many from behind : ℕ) → from ≡ at + numbers_a_task * i → behind ≡ from + numbers_a_task * many → behind ≤ length lent →
      task_numbers (map (λ (k : ℕ). task_from lent (at + numbers_a_task * k)) (range_with_len i many)) ++ drop behind lent ≡ drop from lent
  tasks_then at i zero from behind e f l = let here : behind ≡ from = omega arith in rw here
  tasks_then at i (suc many) from behind e f l =
      let one : from + 1 ≡ suc from = omega arith in
      let two : from + 2 ≡ suc (suc from) = omega arith in
      let three : from + 3 ≡ suc (suc (suc from)) = omega arith in
      let t = task_from lent from in
      rw (← e)
      (ap (λ (x : List ℕ). t.offset ∷ t.time ∷ t.period ∷ t.deadline ∷ x)
      (tasks_then at (i + 1) many (suc (suc (suc (suc from)))) behind (omega arith) (omega arith) l)
      ∙ rw (one, two, three)
      (rw (number_then (suc (suc (suc from))) (omega arith), number_then (suc (suc from)) (omega arith), number_then (suc from) (omega arith))
      (number_then from (omega arith))))

  -- a set's tasks from a place on, and what is behind their numbers
  pub set_then : (n at behind : ℕ) → behind ≡ at + 64 → behind ≤ length lent → task_numbers (set_from n lent at).tasks ++ drop behind lent ≡ drop at lent
  unfolding slots
  set_then n at behind e l = tasks_then at 0 16 at behind (omega arith) e l

  -- the sixteen numbers from a place on, and what is behind them
  sixteen_then : (at behind : ℕ) → behind ≡ at + 16 → behind ≤ length lent → numbers_from lent at ++ drop behind lent ≡ drop at lent
  unfolding slots
  sixteen_then at behind e l = numbers_then at 0 16 at behind (omega arith) e l

  -- the numbers of the state that numbers are: those numbers
  pub numbers_of_state : length lent ≡ number_count → numbers (state_from lent) ≡ lent
  numbers_of_state long =
      let tasks = task_numbers (state_from lent).set.tasks in
      let next = numbers_from lent next_position in
      let now = numbers_from lent inversions_position in
      let first = numbers_from lent first_inversions_position in
      let none : drop number_count lent ≡ [] = drop_of_length-le lent {i = number_count} (omega arith) in
      let from_first : first ≡ drop first_inversions_position lent =
      sym (append-nil first) ∙ ap (λ (x : List ℕ). first ++ x) (sym none) ∙ sixteen_then first_inversions_position number_count refl (omega arith) in
      let from-now : now ++ (number_at lent first_idle_position ∷ first) ≡ drop inversions_position lent =
      ap (λ (x : List ℕ). now ++ (number_at lent first_idle_position ∷ x)) from_first
      ∙ ap (λ (x : List ℕ). now ++ x) (number_then first_idle_position (omega arith))
      ∙ sixteen_then inversions_position first_idle_position refl (omega arith) in
      let running : List ℕ → List ℕ = λ (x : List ℕ). number_at lent cycle_position ∷ number_at lent task_position ∷ number_at lent job_position ∷ number_at lent start_position ∷ x in
      let from-cycle : running (number_at lent idle_position ∷ (now ++ (number_at lent first_idle_position ∷ first))) ≡ drop cycle_position lent =
      ap (λ (x : List ℕ). running (number_at lent idle_position ∷ x)) from-now
      ∙ ap running (number_then idle_position (omega arith))
      ∙ ap (λ (x : List ℕ). number_at lent cycle_position ∷ number_at lent task_position ∷ number_at lent job_position ∷ x) (number_then start_position (omega arith))
      ∙ ap (λ (x : List ℕ). number_at lent cycle_position ∷ number_at lent task_position ∷ x) (number_then job_position (omega arith))
      ∙ ap (λ (x : List ℕ). number_at lent cycle_position ∷ x) (number_then task_position (omega arith))
      ∙ number_then cycle_position (omega arith) in
      ap (λ (x : List ℕ). number_at lent 0 ∷ (tasks ++ (next ++ x))) from-cycle
      ∙ ap (λ (x : List ℕ). number_at lent 0 ∷ (tasks ++ x)) (sixteen_then next_position cycle_position refl (omega arith))
      ∙ ap (λ (x : List ℕ). number_at lent 0 ∷ x) (set_then (number_at lent 0) 1 next_position refl (omega arith))
      ∙ number_then 0 (omega arith)

  -- that state has sixteen slots in each of its lists
  pub state_shaped : Shaped (state_from lent)
  state_shaped = record { tasks = sixteen _; next = sixteen _; now = sixteen _; first = sixteen _ }

-- the first number and the others of equal numbers
same_first : (k m : ℕ) (x y : List ℕ) → k ∷ x ≡ m ∷ y → (k ≡ m) × (x ≡ y)
same_first k m x y e = (cc, cc)

-- equal numbers in two parts, the first of them as long: part by part they are equal
same_parts : (x y a b : List ℕ) → length x ≡ length y → x ++ a ≡ y ++ b → (x ≡ y) × (a ≡ b)
same_parts [] [] a b l e = (refl, e)
same_parts [] (k ∷ y) a b l e = absurd (omega arith)
same_parts (k ∷ x) [] a b l e = absurd (omega arith)
same_parts (k ∷ x) (m ∷ y) a b l e =
    let here = same_first k m (x ++ a) (y ++ b) e in
    let others = same_parts x y a b (omega arith) here.1 in
    (λ i. here.0 i ∷ others.0 i, others.1)

-- tasks with equal numbers are equal
pub same_tasks : (ts us : List Task) → task_numbers ts ≡ task_numbers us → ts ≡ us
same_tasks [] [] e = refl
same_tasks [] (u ∷ us) e = clash (cc)
same_tasks (t ∷ ts) [] e = clash (cc)
same_tasks (t ∷ ts) (u ∷ us) e =
    let offset = same_first t.offset u.offset _ _ e in
    let time = same_first t.time u.time _ _ offset.1 in
    let period = same_first t.period u.period _ _ time.1 in
    let deadline = same_first t.deadline u.deadline _ _ period.1 in
    let others = same_tasks ts us deadline.1 in
    λ i. record { offset = offset.0 i; time = time.0 i; period = period.0 i; deadline = deadline.0 i } ∷ others i

-- states with equal numbers are equal
same_state : (s d : State) → Shaped s → Shaped d → numbers s ≡ numbers d → s ≡ d
same_state s d w v e =
    let many : length (task_numbers s.set.tasks) ≡ length (task_numbers d.set.tasks) =
    omega (arith, w, v, four_each s.set.tasks, four_each d.set.tasks) in
    let n = same_first s.set.n d.set.n _ _ e in
    let tasks = same_parts (task_numbers s.set.tasks) (task_numbers d.set.tasks) _ _ many n.1 in
    let next = same_parts s.next d.next _ _ (w.next ∙ sym v.next) tasks.1 in
    let cycle = same_first s.cycle d.cycle _ _ next.1 in
    let task = same_first s.running.task d.running.task _ _ cycle.1 in
    let job = same_first s.running.job d.running.job _ _ task.1 in
    let start = same_first s.running.start d.running.start _ _ job.1 in
    let idle = same_first s.now.idle d.now.idle _ _ start.1 in
    let now = same_parts s.now.inversions d.now.inversions _ _ (w.now ∙ sym v.now) idle.1 in
    let first = same_first s.first.idle d.first.idle _ _ now.1 in
    let slots = same_tasks s.set.tasks d.set.tasks tasks.0 in
    λ i. record {
      set = record { n = n.0 i; tasks = slots i };
      next = next.0 i;
      cycle = cycle.0 i;
      running = record { task = task.0 i; job = job.0 i; start = start.0 i };
      now = record { idle = idle.0 i; inversions = now.0 i };
      first = record { idle = first.0 i; inversions = first.1 i };
    }

-- the state that a state's numbers are: that state
pub state_of_numbers : (s : State) → Shaped s → state_from (numbers s) ≡ s
state_of_numbers s w = same_state (state_from (numbers s)) s (state_shaped (numbers s)) w (numbers_of_state (numbers s) (count_numbers s w))
