-- What a number stored at its place does to the state that the numbers are, and all that a start and the change of a cycle store. Assumes nothing.
use mathlib.Core.Path.{◌≡◌, refl, sym, ◌∙◌, ap}
use mathlib.Core.List.{List, [], ◌∷◌, ◌++◌}
use Prim.Native.Nat.{ℕ, zero, suc, ◌+◌, ◌<◌}
use native.Mathlib.Numerals.{add-one}
use native.Mathlib.Omega.{arith}
use lib.ListN.{length, set, length-set}
use lib.Seq.{set-append_left}
use Rattle.fields.specs.Body.{head₀, tail₀}
use Rattle.rules.specs.declared.Running.{Running}
use Rattle.rules.specs.declared.Dispatcher.{Dispatcher as State}
use Rattle.rules.specs.declared.Turn.{Turn}
use Rattle.std.specs.Prelude.{Result, Err}
use Rattle.rules.specs.declared.Located.{Located}
use Rattle.rules.specs.declared.Start.{Start}
use Rattle.rules.specs.Priority.{slot, start_job}
use Rattle.rules.specs.Offsets.{put_slot}
use Rattle.rules.specs.Dispatcher.{task_numbers, numbers, front, Shaped, number_count, stopped, refused}
use Rattle.rules.specs.Dispatcher.{next_position, cycle_position, task_position, job_position, start_position, idle_position, inversions_position, first_idle_position, first_inversions_position}
use Rattle.rules.proofs.Arrays.{slot_element}
use Rattle.rules.proofs.PriorityLaws.{slot_empty}
use Rattle.rules.proofs.PossibleStates.{four_each}
use Rattle.replay.proofs.Stores.{put_stores}
use Rattle.numbers.specs.Numbers.{number_at, state_from}
use Rattle.numbers.proofs.FilledSlots.{in_slot}
use Rattle.numbers.proofs.StateNumbers.{numbers_of_state, state_shaped, state_of_numbers}
use Rattle.decision.specs.declared.Found.{Found}
use Rattle.dispatcher.specs.Stored.{in_next_cycle, with_start, TurnStored}
use Rattle.dispatcher.proofs.Lent.{next_lent}

-- one slot more of the numbers in front
front_put : (i : ℕ) (a b : List ℕ) → put_slot (front i a b) i (slot a i) ≡ front (suc i) a b
front_put zero a b = refl
front_put (suc i) a b = ap (λ (x : List ℕ). head₀ a ∷ x) (front_put i (tail₀ a) (tail₀ b))

-- a start counts its task's next job number up by one
pub put_next : (x : List ℕ) (i : ℕ) → put_slot x i (slot x i + 1) ≡ start_job x i
put_next x zero = rw (add-one (head₀ x))
put_next x (suc i) = ap (λ (y : List ℕ). head₀ x ∷ y) (put_next (tail₀ x) i)

-- a state with other next job numbers, another cycle, another running job and other offsets
abbrev other : State → List ℕ → ℕ → Running → ℕ → List ℕ → State
other d next cycle running idle inversions = record {
  set = d.set;
  next = next;
  cycle = cycle;
  running = running;
  now = record { idle = idle; inversions = inversions };
  first = d.first;
}

-- and one with one other number
abbrev with_next : ℕ → ℕ → State → State
with_next i v d = other d (put_slot d.next i v) d.cycle d.running d.now.idle d.now.inversions

abbrev with_cycle : ℕ → State → State
with_cycle v d = other d d.next v d.running d.now.idle d.now.inversions

abbrev with_task : ℕ → State → State
with_task v d = other d d.next d.cycle (record { task = v; job = d.running.job; start = d.running.start }) d.now.idle d.now.inversions

abbrev with_job : ℕ → State → State
with_job v d = other d d.next d.cycle (record { task = d.running.task; job = v; start = d.running.start }) d.now.idle d.now.inversions

abbrev with_start_at : ℕ → State → State
with_start_at v d = other d d.next d.cycle (record { task = d.running.task; job = d.running.job; start = v }) d.now.idle d.now.inversions

abbrev with_idle : ℕ → State → State
with_idle v d = other d d.next d.cycle d.running v d.now.inversions

abbrev with_inversion : ℕ → ℕ → State → State
with_inversion i v d = other d d.next d.cycle d.running d.now.idle (put_slot d.now.inversions i v)

-- with as many slots it is shaped as before
still : {d : State} {next inversions : List ℕ} {cycle idle : ℕ} {running : Running} → Shaped d → length next ≡ length d.next →
    length inversions ≡ length d.now.inversions → Shaped (other d next cycle running idle inversions)
still w e f = record { tasks = w.tasks; next = e ∙ w.next; now = f ∙ w.now; first = w.first }

-- a number stored in what comes behind a part
set_behind : (x y : List ℕ) (p k v : ℕ) → p ≡ length x + k → set (x ++ y) p v ≡ x ++ set y k v
set_behind [] y p k v e = let here : p ≡ k = omega arith in rw here
set_behind (a ∷ x) y zero k v e = absurd (omega arith)
set_behind (a ∷ x) y (suc p) k v e = ap (λ (z : List ℕ). a ∷ z) (set_behind x y p k v (omega arith))

-- a number stored in a part, in one of its slots
set_inside : (x y : List ℕ) (i v : ℕ) → i < length x → set (x ++ y) i v ≡ put_slot x i v ++ y
set_inside x y i v l = set-append_left x y i v l ∙ ap (λ (z : List ℕ). z ++ y) (put_stores x i v l)

-- which has as many slots then
put_length : (x : List ℕ) (i v : ℕ) → i < length x → length (put_slot x i v) ≡ length x
put_length x i v l = ap length (sym (put_stores x i v l)) ∙ length-set x i v

-- a number stored among those of a state, part by part
module _ (v : ℕ) (d : State) (w : Shaped d) where
  -- the numbers of the tasks, and those behind the next job numbers
  abbrev tasks : List ℕ
  tasks = task_numbers d.set.tasks

  abbrev firsts : List ℕ
  firsts = d.first.idle ∷ d.first.inversions

  abbrev behind : List ℕ
  behind =
      d.cycle ∷ d.running.task ∷ d.running.job ∷ d.running.start ∷ d.now.idle ∷ (d.now.inversions ++ firsts)

  -- behind the set
  behind_set : (k : ℕ) → set (numbers d) (next_position + k) v ≡ d.set.n ∷ (tasks ++ set (d.next ++ behind) k v)
  behind_set k =
      let at : next_position + k ≡ suc (length tasks + k) = omega (arith, w, four_each d.set.tasks) in
      ap (λ (p : ℕ). set (numbers d) p v) at
      ∙ ap (λ (x : List ℕ). d.set.n ∷ x) (set_behind tasks (d.next ++ behind) (length tasks + k) k v refl)

  -- behind the next job numbers
  behind_next : (k p : ℕ) → p ≡ cycle_position + k → set (numbers d) p v ≡ d.set.n ∷ (tasks ++ (d.next ++ set behind k v))
  behind_next k p e =
      let at : p ≡ next_position + (length d.next + k) = omega (arith, w) in
      ap (λ (q : ℕ). set (numbers d) q v) at
      ∙ behind_set (length d.next + k)
      ∙ ap (λ (x : List ℕ). d.set.n ∷ (tasks ++ x)) (set_behind d.next behind (length d.next + k) k v refl)

  -- a next job number, and a task's offset
  next_put : (i : ℕ) → i < 16 → set (numbers d) (next_position + i) v ≡ numbers (with_next i v d)
  next_put i l = behind_set i ∙ ap (λ (x : List ℕ). d.set.n ∷ (tasks ++ x)) (set_inside d.next behind i v (omega (arith, w)))

  inversion_put : (i : ℕ) → i < 16 → set (numbers d) (inversions_position + i) v ≡ numbers (with_inversion i v d)
  inversion_put i l =
      behind_next (suc (suc (suc (suc (suc i))))) (inversions_position + i) (omega arith)
      ∙ ap
      (λ (x : List ℕ).
      d.set.n
      ∷ (tasks ++ (d.next ++ (d.cycle ∷ d.running.task ∷ d.running.job ∷ d.running.start ∷ d.now.idle ∷ x))))
      (set_inside d.now.inversions firsts i v (omega (arith, w)))

-- lent numbers that are a state's
pub record Holds (lent : List ℕ) (d : State) : Type 0 where
  pub long : length lent ≡ number_count
  pub is : state_from lent ≡ d

-- a number stored at its place is that of the state
module _ {lent : List ℕ} {d : State} (h : Holds lent d) (v : ℕ) where
  stored : (p : ℕ) (change : State → State) → ((e : State) → Shaped e → (set (numbers e) p v ≡ numbers (change e)) × Shaped (change e)) →
      Holds (set lent p v) (change d)
  stored p change puts =
      let put = puts (state_from lent) (state_shaped lent) in
      record {
        long = length-set lent p v ∙ h.long;
        is = ap (λ (x : List ℕ). state_from (set x p v)) (sym (numbers_of_state lent h.long))
            ∙ ap state_from put.0
            ∙ state_of_numbers (change (state_from lent)) put.1
            ∙ ap change h.is;
      }

  -- a next job number
  next_stored : (i : ℕ) → i < 16 → Holds (set lent (next_position + i) v) (with_next i v d)
  next_stored i l =
      stored (next_position + i) (with_next i v) (λ e w. (next_put v e w i l, still w (put_length e.next i v (omega (arith, w))) refl))

  -- a task's offset
  inversion_stored : (i : ℕ) → i < 16 → Holds (set lent (inversions_position + i) v) (with_inversion i v d)
  inversion_stored i l =
      stored (inversions_position + i) (with_inversion i v)
      (λ e w. (inversion_put v e w i l, still w refl (put_length e.now.inversions i v (omega (arith, w)))))

  -- the cycle
  cycle_stored : Holds (set lent cycle_position v) (with_cycle v d)
  cycle_stored = stored cycle_position (with_cycle v) (λ e w. (behind_next v e w 0 cycle_position refl, still w refl refl))

  -- the running job's task, its number, its start
  task_stored : Holds (set lent task_position v) (with_task v d)
  task_stored = stored task_position (with_task v) (λ e w. (behind_next v e w 1 task_position refl, still w refl refl))

  job_stored : Holds (set lent job_position v) (with_job v d)
  job_stored = stored job_position (with_job v) (λ e w. (behind_next v e w 2 job_position refl, still w refl refl))

  start_stored : Holds (set lent start_position v) (with_start_at v d)
  start_stored = stored start_position (with_start_at v) (λ e w. (behind_next v e w 3 start_position refl, still w refl refl))

  -- the ID offset
  idle_stored : Holds (set lent idle_position v) (with_idle v d)
  idle_stored = stored idle_position (with_idle v) (λ e w. (behind_next v e w 4 idle_position refl, still w refl refl))

-- one task more is at the start of the next cycle
pub one_task_more : (d : State) {lent : List ℕ} (i : ℕ) → i < 16 → Holds lent (in_next_cycle d i) →
    Holds (set (set lent (next_position + i) 0) (inversions_position + i) (number_at (set lent (next_position + i) 0) (first_inversions_position + i)))
    (in_next_cycle d (i + 1))
one_task_more d {lent} i l h =
    let next = set lent (next_position + i) 0 in
    let offset = number_at next (first_inversions_position + i) in
    let first_job = next_stored h 0 i l in
    let first_offset = inversion_stored first_job offset i l in
    let offset_is : offset ≡ slot d.first.inversions i =
    sym (slot_element _ i ∙ in_slot (λ (k : ℕ). number_at next (first_inversions_position + k)) 0 i l)
    ∙ ap (λ (e : State). slot e.first.inversions i) first_job.is in
    let jobs : put_slot (front i [] d.next) i 0 ≡ front (suc i) [] d.next =
    ap (put_slot (front i [] d.next) i) (sym (slot_empty i)) ∙ front_put i [] d.next in
    let begun = front i d.first.inversions d.now.inversions in
    let offsets : put_slot begun i offset ≡ front (suc i) d.first.inversions d.now.inversions =
    ap (put_slot begun i) offset_is ∙ front_put i d.first.inversions d.now.inversions in
    record { long = first_offset.long; is = first_offset.is ∙ rw (jobs, offsets, add-one i) }

-- the cycle is counted and the ID offset is the first one, and no task is at the cycle's start yet
pub cycle_counted : (lent : List ℕ) → length lent ≡ number_count →
    Holds
    (set (set lent cycle_position (number_at lent cycle_position + 1)) idle_position (number_at (set lent cycle_position (number_at lent cycle_position + 1)) first_idle_position))
    (in_next_cycle (state_from lent) 0)
cycle_counted lent long =
    let counted = cycle_stored (record { long = long; is = refl }) (number_at lent cycle_position + 1) in
    let first_idle : number_at (set lent cycle_position (number_at lent cycle_position + 1)) first_idle_position ≡ (state_from lent).first.idle =
    ap (λ (d : State). d.first.idle) counted.is in
    let begun = idle_stored counted (number_at (set lent cycle_position (number_at lent cycle_position + 1)) first_idle_position) in
    record { long = begun.long; is = begun.is ∙ rw (first_idle, add-one (number_at lent cycle_position)) }

-- all that a start stores
abbrev after_start : List ℕ → Found → List ℕ
after_start lent f =
    let i = f.task in
    let job = number_at lent (next_position + i) in
    let running = set (set (set (set lent (next_position + i) (job + 1)) task_position i) job_position job) start_position f.start in
    set (set running idle_position f.idle) (inversions_position + i) f.inversion

-- the state has the start then
pub start_made : (lent : List ℕ) (f : Found) → length lent ≡ number_count → f.task < 16 → Holds (after_start lent f) (with_start (state_from lent) f)
start_made lent f long l =
    let i = f.task in
    let job = number_at lent (next_position + i) in
    let counted = next_stored (record { long = long; is = refl }) (job + 1) i l in
    let running = start_stored (job_stored (task_stored counted i) job) f.start in
    let all = inversion_stored (idle_stored running f.idle) f.inversion i l in
    record { long = all.long; is = all.is ∙ rw (next_lent lent i l, put_next (state_from lent).next i) }

-- a turn is stored where the answer and the state are right
pub stored_turn : {turn : Turn} (answer : Result Start Located) (after : List ℕ) → answer ≡ turn.answer → length after ≡ number_count →
    state_from after ≡ turn.state → TurnStored turn answer after
stored_turn answer after told long is =
    record { its_answer = told; its_numbers = sym (numbers_of_state after long) ∙ ap numbers is; its_state = is }

-- so is an equal turn
pub stored_as : {turn other : Turn} {answer : Result Start Located} {after : List ℕ} → turn ≡ other → TurnStored turn answer after → TurnStored other answer after
stored_as e stored = record {
  its_answer = stored.its_answer ∙ ap (λ (t : Turn). t.answer) e;
  its_numbers = stored.its_numbers ∙ ap (λ (t : Turn). numbers t.state) e;
  its_state = stored.its_state ∙ ap (λ (t : Turn). t.state) e;
}

-- a refusal that leaves the state as it is, and one that stops it
pub refused_kept : {turn : Turn} {r q : Located} {lent : List ℕ} → refused q (state_from lent) ≡ turn → length lent ≡ number_count → r ≡ q → TurnStored turn (Err r) lent
refused_kept e long is = stored_as e (stored_turn _ _ (ap Err is) long refl)

pub refused_stopped : {turn : Turn} {r q : Located} {answer : Result Start Located} {after : List ℕ} → refused q stopped ≡ turn → r ≡ q →
    TurnStored (refused r stopped) answer after → TurnStored turn answer after
refused_stopped e is stored = stored_as (ap (λ (x : Located). refused x stopped) is ∙ e) stored
