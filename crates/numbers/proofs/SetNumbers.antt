-- A set's numbers: the tasks in its slots, and the set that stored tasks are. Assumes nothing.
use mathlib.Core.Path.{◌≡◌, refl, sym, ◌∙◌, ap}
use mathlib.Core.List.{List, [], ◌++◌, append-nil}
use Prim.Native.Nat.{ℕ, ◌+◌, ◌*◌, ◌<◌}
use native.Mathlib.Omega.{arith}
use lib.ListN.{length, get_or, drop, drop_of_length-le}
use lib.Seq.{sets}
use Rattle.rules.specs.declared.Task.{Task}
use Rattle.rules.specs.declared.TaskSet.{TaskSet}
use Rattle.rules.specs.Tasks.{limits}
use Rattle.rules.specs.Dispatcher.{numbers_a_task, task_numbers}
use Rattle.rules.proofs.PossibleStates.{four_each}
use Rattle.numbers.specs.Numbers.{task_from, set_from}
use Rattle.numbers.proofs.FilledSlots.{sixteen, in_slot}
use Rattle.numbers.proofs.StoredNumbers.{stored_over}
use Rattle.numbers.proofs.StateNumbers.{set_then, same_tasks}

-- a set has sixteen slots
pub sixteen_tasks : (n : ℕ) (lent : List ℕ) (at : ℕ) → length (set_from n lent at).tasks ≡ limits.tasks
sixteen_tasks n lent at = sixteen (λ (k : ℕ). task_from lent (at + numbers_a_task * k))

-- a set's slot holds the task that its four numbers are
pub task_in : (n : ℕ) (lent : List ℕ) (at : ℕ) (empty : Task) (i : ℕ) → i < limits.tasks →
    task_from lent (at + numbers_a_task * i) ≡ get_or (set_from n lent at).tasks i empty
task_in n lent at empty i l = sym (in_slot (λ (k : ℕ). task_from lent (at + numbers_a_task * k)) empty i l)

-- the set that its stored tasks are, with its n: that set
pub set_of_stored : (s : TaskSet) (old : List ℕ) → length s.tasks ≡ limits.tasks → length old ≡ 64 →
    set_from s.n (sets old 0 (task_numbers s.tasks)) 0 ≡ s
set_of_stored s old many long =
    let count : length (task_numbers s.tasks) ≡ 64 = omega (arith, four_each s.tasks) in
    let lent = task_numbers s.tasks in
    let stored : sets old 0 lent ≡ lent = stored_over lent old (omega arith) in
    let none : drop 64 lent ≡ [] = drop_of_length-le lent {i = 64} (omega arith) in
    let read = task_numbers (set_from s.n lent 0).tasks in
    let back : read ≡ lent =
    sym (append-nil read) ∙ ap (λ (x : List ℕ). read ++ x) (sym none) ∙ set_then lent s.n 0 64 refl (omega arith) in
    rw stored (ap (λ (ts : List Task). record { n = s.n; tasks = ts }) (same_tasks _ s.tasks back))
