-- Numbers that are stored one part behind the other, until all numbers of the dispatcher's state stand there. Assumes nothing.
use mathlib.Core.Path.{◌≡◌, refl, sym, ◌∙◌, ap}
use mathlib.Core.List.{List, [], ◌∷◌, ◌++◌, append-nil}
use Prim.Native.Nat.{ℕ, suc, ◌+◌, ◌*◌, ◌<◌}
use native.Mathlib.Numerals.{add-one}
use native.Mathlib.Omega.{arith}
use lib.ListN.{length, take, get_or, set, drop_of_length-le}
use lib.Seq.{take-suc, length-take-le, sets, sets-eq}
use Rattle.rules.specs.declared.Task.{Task}
use Rattle.rules.specs.declared.Dispatcher.{Dispatcher as State}
use Rattle.rules.specs.Dispatcher.{numbers_a_task, task_numbers, numbers, zero_task, Shaped, number_count}
use Rattle.rules.specs.Dispatcher.{next_position, cycle_position, task_position, job_position, start_position, idle_position, inversions_position, first_idle_position, first_inversions_position}
use Rattle.rules.proofs.PossibleStates.{four_each, count_numbers}

-- two parts, the second behind the first, are stored as one
stored_behind : (x y old : List ℕ) (at behind : ℕ) → behind ≡ at + length x → sets (sets old at x) behind y ≡ sets old at (x ++ y)
stored_behind [] y old at behind e = let here : behind ≡ at = omega arith in rw here
stored_behind (k ∷ x) y old at behind e = stored_behind x y (set old at k) (suc at) behind (omega arith)

-- one number more is stored
pub number_more : (old x : List ℕ) (at i : ℕ) → i < length x → set (sets old at (take i x)) (at + i) (get_or x i 0) ≡ sets old at (take (i + 1) x)
number_more old x at i l =
    let many : length (take i x) ≡ i = length-take-le i x (omega arith) in
    rw (add-one i, take-suc x i 0 l) (stored_behind (take i x) (get_or x i 0 ∷ []) old at (at + i) (omega arith))

-- the numbers of tasks in two parts
task_parts : (ts us : List Task) → task_numbers (ts ++ us) ≡ task_numbers ts ++ task_numbers us
task_parts [] us = refl
task_parts (t ∷ ts) us = ap (λ (x : List ℕ). t.offset ∷ t.time ∷ t.period ∷ t.deadline ∷ x) (task_parts ts us)

-- one task more is stored
pub task_more : (old : List ℕ) (ts : List Task) (at i : ℕ) → i < length ts →
    sets (sets old at (task_numbers (take i ts))) (at + numbers_a_task * i) (task_numbers (get_or ts i zero_task ∷ [])) ≡ sets old at (task_numbers (take (i + 1) ts))
task_more old ts at i l =
    let many : length (take i ts) ≡ i = length-take-le i ts (omega arith) in
    let t : List Task = get_or ts i zero_task ∷ [] in
    rw (add-one i, take-suc ts i zero_task l, task_parts (take i ts) t)
    (stored_behind (task_numbers (take i ts)) (task_numbers t) old at (at + numbers_a_task * i) (omega (arith, four_each (take i ts))))

-- stored over as many old ones, numbers are all that stands there
pub stored_over : (x old : List ℕ) → length old ≡ length x → sets old 0 x ≡ x
stored_over x old e = sets-eq x old 0 (omega arith) ∙ rw (drop_of_length-le old {i = 0 + length x} (omega arith), append-nil x)

-- the state's numbers, stored part behind part
pub all_stored : (s : State) → Shaped s → (old tasks next now first : List ℕ) → length old ≡ number_count →
    tasks ≡ sets (set old 0 s.set.n) 1 (task_numbers s.set.tasks) →
    next ≡ sets tasks next_position s.next →
    now
    ≡ sets
    (set (set (set (set (set next cycle_position s.cycle) task_position s.running.task) job_position s.running.job) start_position s.running.start) idle_position s.now.idle)
    inversions_position
    s.now.inversions →
    first ≡ sets (set now first_idle_position s.first.idle) first_inversions_position s.first.inversions →
    first ≡ numbers s
all_stored s w old tasks next now first long at_tasks at_next at-now at_first =
    let rest-now = s.first.idle ∷ s.first.inversions in
    let rest-next = s.cycle ∷ s.running.task ∷ s.running.job ∷ s.running.start ∷ s.now.idle ∷ (s.now.inversions ++ rest-now) in
    at_first
    ∙ ap (λ (x : List ℕ). sets x first_idle_position rest-now) at-now
    ∙ stored_behind s.now.inversions rest-now _ inversions_position first_idle_position (omega (arith, w))
    ∙ ap (λ (x : List ℕ). sets x cycle_position rest-next) at_next
    ∙ stored_behind s.next rest-next tasks next_position cycle_position (omega (arith, w))
    ∙ ap (λ (x : List ℕ). sets x next_position (s.next ++ rest-next)) at_tasks
    ∙ stored_behind (task_numbers s.set.tasks) (s.next ++ rest-next) (set old 0 s.set.n) 1 next_position (omega (arith, w, four_each s.set.tasks))
    ∙ stored_over (numbers s) old (long ∙ sym (count_numbers s w))
