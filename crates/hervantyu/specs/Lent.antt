-- What the C face is lent and what it leaves there, in the rule book's terms. Assumes nothing.
use Rattle.std.specs.Prelude.{◌≡◌, List, [], ◌∷◌, ℕ, zero, suc, ◌+◌, ◌≤◌, length, ℤ, Result, Ok, Err, ⊤}
use Rattle.rules.specs.declared.Turn.{Turn}
use Rattle.rules.specs.declared.Intake.TheVariants.{Shut}
use Rattle.rules.specs.declared.Located.{Located}
use Rattle.rules.specs.declared.Axis.{Axis}
use Rattle.rules.specs.declared.Start.{Start}
use Rattle.rules.specs.Refusals.{Told, Judged, set_tells, answer_tells, take_tells, start_tells}
use Rattle.rules.specs.Priority.{slot}
use Rattle.rules.specs.Tasks.{judge_set}
use Rattle.rules.specs.Operations.{check_timetable, check_tables, output_after, derive, derive_output, rebuild, rebuild_output}
use Rattle.rules.specs.Intake.{begun, held, joined, holding, close, rebuild_held, rebuild_held_output, intake_from, intake_numbers}
use Rattle.rules.specs.Axis.{front, measured_into, axis_answer}
use Rattle.rules.specs.Dispatcher.{numbers, begin, go_on}
use Rattle.numbers.specs.Numbers.{set_from, state_from}

-- a lent number afterwards: the answer's value, or what it held where the answer is a refusal
abbrev pub value_if : ℕ → Told → ℕ → ℕ → ℕ
value_if zero t i old = slot t.values i
value_if (suc number) t i old = old

abbrev pub value_or : Told → ℕ → ℕ → ℕ
value_or t i old = value_if t.number t i old

-- what `hv_judge_set` returns and leaves in the lent numbers, for n tasks in 64 numbers
pub record SetJudged (n : ℕ) (numbers : List ℕ) (old-hyperperiod old-jobs number place hyperperiod jobs : ℕ) : Type 0 where
  pub its_number : number ≡ (set_tells (judge_set (set_from n numbers 0))).number
  pub its_place : place ≡ (set_tells (judge_set (set_from n numbers 0))).place
  pub its_hyperperiod : hyperperiod ≡ value_or (set_tells (judge_set (set_from n numbers 0))) 0 old-hyperperiod
  pub its_jobs : jobs ≡ value_or (set_tells (judge_set (set_from n numbers 0))) 1 old-jobs

-- where a refusal of an image is: its place, and its byte offset
abbrev pub location_of : Told → List ℕ
location_of t = t.place ∷ t.offset ∷ []

-- what an operation on an image returns and leaves in the location, by what it answers
pub record AnswerTold {A : Type 0} (values : A → List ℕ) (answer : Result A Located) (number : ℕ) (location : List ℕ) : Type 0 where
  pub its_number : number ≡ (answer_tells values answer).number
  pub its_location : location ≡ location_of (answer_tells values answer)

-- a lent value afterwards: one of the answer's, or what it held where the answer is a refusal
abbrev pub given_or : {A B : Type 0} → (A → B) → Result A Located → B → B
given_or value (Ok a) old = value a
given_or value (Err r) old = old

-- plain checking returns a number and leaves a location alone
abbrev pub CheckTold : Result ⊤ Located → ℕ → List ℕ → Type 0
CheckTold = AnswerTold (λ _. [])

abbrev pub TimetableChecked : List ℕ → ℕ → List ℕ → Type 0
TimetableChecked image = CheckTold (check_timetable image)

abbrev pub TablesChecked : List ℕ → ℕ → List ℕ → Type 0
TablesChecked image = CheckTold (check_tables image)

-- what deriving or rebuilding returns and leaves in the lent numbers
abbrev pub length_or : Result ℕ Located → ℕ → ℕ
length_or = given_or (λ length. length)

pub record MakeTold (answer : Result ℕ Located) (old-length number : ℕ) (location : List ℕ) (length : ℕ) : Type 0 where
  pub answered : AnswerTold (λ length. length ∷ []) answer number location
  pub its_length : length ≡ length_or answer old-length

-- and in every byte of the output
pub record Written (answer : Result ℕ Located) (after : List ℕ) (old-length number : ℕ) (location : List ℕ) (length : ℕ) (output : List ℕ) : Type 0 where
  pub told : MakeTold answer old-length number location length
  pub its_output : output ≡ after

abbrev pub Derived : List ℕ → List ℕ → ℕ → ℕ → List ℕ → ℕ → List ℕ → Type 0
Derived image old-output = Written (derive image old-output) (derive_output image old-output)

abbrev pub Rebuilt : List ℕ → List ℕ → ℕ → ℕ → List ℕ → ℕ → List ℕ → Type 0
Rebuilt image old-output = Written (rebuild image old-output) (rebuild_output image old-output)

-- what measuring returns and leaves in the lent numbers: the count of figures, and how many bytes their image has
pub record AxisTold (answer : Result Axis Located) (old-count old-used number : ℕ) (location : List ℕ) (count used : ℕ) : Type 0 where
  pub answered : AnswerTold (λ (a : Axis). a.figures ∷ a.used ∷ []) answer number location
  pub its_count : count ≡ given_or (λ (a : Axis). a.figures) answer old-count
  pub its_used : used ≡ given_or (λ (a : Axis). a.used) answer old-used

-- and `hv_figures` in every slot of the figures
pub record Figured (images : List ℕ) (old : List ℤ) (old-count old-used number : ℕ) (location : List ℕ) (count used : ℕ) (figures : List ℤ) : Type 0 where
  pub told : AxisTold (axis_answer (front images) (measured_into (length old) images)) old-count old-used number location count used
  pub its_figures : figures ≡ output_after (measured_into (length old) images) old

-- what `hv_intake_begin` leaves in the intake's two numbers, whatever they were
abbrev pub IntakeBegun : List ℕ → Type 0
IntakeBegun numbers = numbers ≡ intake_numbers begun

-- two numbers hold the front of a buffer where the first is 1 and the second, the count, is not above the buffer's length
pub record Holds (numbers buffer : List ℕ) : Type 0 where
  pub is_open : slot numbers 0 ≡ 1
  pub inside : slot numbers 1 ≤ length buffer

-- and a fragment fits behind it where the count with the fragment's length is not above the buffer's
pub record Fits (numbers buffer fragment : List ℕ) : Type 0 where
  pub is_open : slot numbers 0 ≡ 1
  pub room : slot numbers 1 + length fragment ≤ length buffer

-- what taking a fragment returns and leaves in the two numbers and in every byte of the buffer, by what it comes to: the joined bytes, or 20
pub record Taken (after : Judged (List ℕ)) (old-buffer : List ℕ) (number : ℕ) (numbers buffer : List ℕ) : Type 0 where
  pub its_number : number ≡ (take_tells (holding after)).number
  pub its_numbers : numbers ≡ intake_numbers (holding after)
  pub its_buffer : buffer ≡ output_after after old-buffer

pub record FragmentTaken (old-numbers old-buffer fragment : List ℕ) (number : ℕ) (numbers buffer : List ℕ) : Type 0 where
  pub taken : Taken (joined (intake_from old-numbers) old-buffer fragment) old-buffer number numbers buffer

-- what the two closing calls return and leave; the intake is shut, whatever they answer
pub record IntakeClosed (old-numbers buffer : List ℕ) (old-length number : ℕ) (location : List ℕ) (length : ℕ) (numbers : List ℕ) : Type 0 where
  pub told : MakeTold (close (intake_from old-numbers) buffer) old-length number location length
  pub its_numbers : numbers ≡ intake_numbers Shut

pub record IntakeRebuilt (old-numbers buffer old-output : List ℕ) (old-length number : ℕ) (location : List ℕ) (length : ℕ) (output numbers : List ℕ) : Type 0 where
  pub written : Written (rebuild_held (held (intake_from old-numbers) buffer) old-output) (rebuild_held_output (held (intake_from old-numbers) buffer) old-output) old-length number location length output
  pub its_numbers : numbers ≡ intake_numbers Shut

-- the start afterwards: task, job, cycle and absolute time, or what it held
abbrev pub start_or : Result Start Located → List ℕ → List ℕ
start_or = given_or (λ (s : Start). s.task ∷ s.job ∷ s.cycle ∷ s.time ∷ [])

-- what the dispatcher returns and leaves in the start
pub record StartTold (answer : Result Start Located) (old-start : List ℕ) (number : ℕ) (start : List ℕ) : Type 0 where
  pub its_number : number ≡ (start_tells answer).number
  pub its_start : start ≡ start_or answer old-start

-- and in the state's numbers: they are those of the state that is handed back, and it is the state that they are
pub record TurnTold (turn : Turn) (old-start : List ℕ) (number : ℕ) (start state : List ℕ) : Type 0 where
  pub told : StartTold turn.answer old-start number start
  pub its_numbers : state ≡ numbers turn.state
  pub its_state : state_from state ≡ turn.state

-- what `hv_begin` returns and leaves, whatever the state was
pub record Begun (image old-start : List ℕ) (number : ℕ) (location start state : List ℕ) : Type 0 where
  pub turn_told : TurnTold (begin image) old-start number start state
  pub its_location : location ≡ location_of (start_tells (begin image).answer)

-- what `hv_go_on` returns and leaves
abbrev pub GoneOn : List ℕ → List ℕ → ℕ → List ℕ → ℕ → List ℕ → List ℕ → Type 0
GoneOn image old-state end = TurnTold (go_on image (state_from old-state) end)
