-- Small laws of lists that hold slots, tasks or records, used by all crates: what stands at a place, and how long a list is. Assumes nothing.
use mathlib.Core.Path.{◌≡◌, refl, sym, ◌∙◌, ap}
use mathlib.Core.List.{List, [], ◌∷◌, map}
use Prim.Native.Nat.{ℕ, zero, suc, ◌-◌, ◌≤◌, ◌<◌}
use native.Mathlib.Omega.{arith}
use lib.ListN.{length, get_or, drop, replicate, length-map, length-append, length-replicate}
use lib.Seq.{drop-cons, get_or-take, take_at, length-take-le}
use Rattle.rules.specs.declared.Task.{Task}
use Rattle.rules.specs.declared.TaskSet.{TaskSet}
use Rattle.rules.specs.Tasks.{Set, limits, set_with, memory_set, task}
use Rattle.rules.specs.Priority.{slot, start_job}
use Rattle.rules.specs.Setting.{Tables}
use Rattle.rules.specs.Offsets.{put_slot, inversion_offsets, first_offsets}
use Rattle.rules.specs.Dispatcher.{front, in_memory, zero_task}
use Rattle.rules.specs.Marks.{Mark, size}
use Rattle.rules.specs.Framing.{read}
use Rattle.rules.proofs.PriorityLaws.{slot_empty}

-- a slot is an element, 0 past the end
pub slot_element : (x : List ℕ) (i : ℕ) → slot x i ≡ get_or x i 0
slot_element [] i = slot_empty i
slot_element (a ∷ x) zero = refl
slot_element (a ∷ x) (suc i) = slot_element x i

-- every slot of zeros holds 0
pub slot_zeros : (m i : ℕ) → slot (replicate m 0) i ≡ 0
slot_zeros zero i = slot_empty i
slot_zeros (suc m) zero = refl
slot_zeros (suc m) (suc i) = slot_zeros m i

-- inside a list it does not matter what stands for places outside
pub inside_alike : {A : Type 0} (xs : List A) (i : ℕ) (d e : A) → i < length xs → get_or xs i d ≡ get_or xs i e
inside_alike xs i d e l =
    let a = drop-cons xs i d l in
    let b = drop-cons xs i e l in
    cc

-- there are as many slots as there are fields of slots
pub slots_counted : {A B : Type 0} (fields : A → B) (slots : List A) (n : ℕ) → length (map fields slots) ≡ n → length slots ≡ n
slots_counted fields slots n e = sym (length-map slots fields) ∙ e

-- the tasks of a set in memory are in its first n slots
pub task_in_slot : (s : TaskSet) (i : ℕ) (d : Task) → s.n ≤ length s.tasks → i < s.n → task (memory_set s) i ≡ get_or s.tasks i d
unfolding memory_set
task_in_slot s i d room l = get_or-take s.n s.tasks i _ l ∙ inside_alike s.tasks i _ d (omega arith)

-- and there are n of them
pub memory_many : (s : TaskSet) → s.n ≤ length s.tasks → length (memory_set s).tasks ≡ s.n
unfolding memory_set
memory_many s room = length-take-le s.n s.tasks room

-- a set as it lies in memory is that set
pub memory_keeps : (ts : Set) → memory_set (in_memory ts) ≡ ts
unfolding memory_set
memory_keeps ts = ap set_with (take_at ts.tasks (replicate (limits.tasks - length ts.tasks) zero_task) (length ts.tasks) refl)

-- as many records are read as are asked for
pub read_length : (m : Mark) (many : ℕ) (bytes : List ℕ) → length (read m many bytes) ≡ many
read_length m zero bytes = refl
read_length m (suc many) bytes = ap suc (read_length m many (drop (size m) bytes))

-- a job that starts in one of the slots leaves as many
pub start_length : (x : List ℕ) (i : ℕ) → i < length x → length (start_job x i) ≡ length x
start_length [] i l = absurd (omega arith)
start_length (a ∷ x) zero l = refl
start_length (a ∷ x) (suc i) l = ap suc (start_length x i (omega arith))

-- and so does another number in one of them
pub put_length : (x : List ℕ) (i v : ℕ) → i < length x → length (put_slot x i v) ≡ length x
put_length [] i v l = absurd (omega arith)
put_length (a ∷ x) zero v l = refl
put_length (a ∷ x) (suc i) v l = ap suc (put_length x i v (omega arith))

-- and other numbers in the first n
pub front_length : (n : ℕ) (a b : List ℕ) → n ≤ length b → length (front n a b) ≡ length b
front_length zero a b l = refl
front_length (suc n) a [] l = absurd (omega arith)
front_length (suc n) a (k ∷ b) l = ap suc (front_length n _ b (omega arith))

-- the offsets as at a cycle's start fill all slots
offsets_length : (ts : Set) (X : Tables) (i many : ℕ) → length (inversion_offsets ts X i many) ≡ many
offsets_length ts X i zero = refl
offsets_length ts X i (suc many) = ap suc (offsets_length ts X (suc i) many)

pub first_length : (ts : Set) (X : Tables) → length ts.tasks ≤ limits.tasks → length (first_offsets ts X).inversions ≡ limits.tasks
first_length ts X l =
    omega (
      arith,
      length-append (inversion_offsets ts X 0 (length ts.tasks)) (replicate (limits.tasks - length ts.tasks) 0),
      offsets_length ts X 0 (length ts.tasks),
      length-replicate {A = ℕ} (limits.tasks - length ts.tasks) 0,
    )
