-- Refusals: document 01, "Refusal numbers". How a refusal is made, which of several comes first, and the number and values that each answer tells.
-- Assumes nothing.
use Rattle.std.specs.Prelude.{Bool, true, false, List, [], ◌∷◌, ◌++◌, ℕ, zero, suc, Result, Ok, Err, ⊤}
use Rattle.std.proofs.Math.Option.{Option, none, some}
use Rattle.rules.specs.declared.Refusal.{Refusal}
use Rattle.rules.specs.declared.Located.{Located}
use Rattle.rules.specs.declared.Intake.{Intake}
use Rattle.rules.specs.declared.Intake.TheVariants as intake_case
use Rattle.rules.specs.declared.Figures.{Figures}
use Rattle.rules.specs.declared.Axis.{Axis}
use Rattle.rules.specs.declared.Start.{Start}

-- a refusal is its number and its place
abbrev pub refusal : ℕ → ℕ → Refusal
refusal number place = record { number = number; place = place }

-- of two refusals the first
abbrev pub first : Option Refusal → Option Refusal → Option Refusal
first none b = b
first (some a) b = some a

-- the refusal that comes where a test fails
abbrev pub unless : Bool → ℕ → ℕ → Option Refusal
unless true number place = none
unless false number place = some (refusal number place)

-- what judging comes to: a value, or the refusal
pub data Judged (A : Type 0) : Type 0 where
  gives : A → Judged A
  refuses : Refusal → Judged A

-- the refusal, or else what judging goes on to
abbrev pub or_else : {A : Type 0} → Option Refusal → Judged A → Judged A
or_else none next = next
or_else (some r) next = refuses r

-- judging goes on with what the first part gave
abbrev pub then : {A B : Type 0} → Judged A → (A → Judged B) → Judged B
then (gives a) next = next a
then (refuses r) next = refuses r

-- the refusal that judging came to, if it did
abbrev pub refusal_in : {A : Type 0} → Judged A → Option Refusal
refusal_in (gives a) = none
refusal_in (refuses r) = some r

-- a test of the document: the condition under which it refuses, and with what
pub record Test : Type 1 where
  pub refuses_when : Type 0
  pub with_refusal : Refusal

abbrev pub test : ℕ → ℕ → Type 0 → Test
test number place condition = record { refuses_when = condition; with_refusal = refusal number place }

-- tests in turn: those at one place, then those at the next, for so many places
abbrev pub in_turn : (ℕ → List Test) → ℕ → ℕ → List Test
in_turn tests place zero = []
in_turn tests place (suc left) = tests place ++ in_turn tests (suc place) left

-- of tests in the document's order, the first whose condition holds refuses; none refuses where no condition holds
pub data First : List Test → Option Refusal → Type 1 where
  no_test : First [] none
  holds : {t : Test} {ts : List Test} → t.refuses_when → First (t ∷ ts) (some t.with_refusal)
  passes : {t : Test} {ts : List Test} {o : Option Refusal} → (t.refuses_when → ⊥) → First ts o → First (t ∷ ts) o

-- what an answer tells: the refusal's number, 0 where there is none; its place; its byte offset; and the values
pub record Told : Type 0 where
  pub number : ℕ
  pub place : ℕ
  pub offset : ℕ
  pub values : List ℕ

abbrev pub tells : List ℕ → Told
tells values = record { number = 0; place = 0; offset = 0; values = values }

abbrev pub tells_refusal : Located → Told
tells_refusal r = record { number = r.number; place = r.place; offset = r.offset; values = [] }

-- a set in memory has no bytes, and 20 of an intake is of no image
abbrev pub of_no_image : Refusal → Located
of_no_image r = record { number = r.number; place = r.place; offset = 0 }

-- judging a set tells the hyperperiod and the number of jobs
abbrev pub set_tells : Result Figures Refusal → Told
set_tells (Ok f) = tells (f.hyperperiod ∷ f.jobs ∷ [])
set_tells (Err r) = tells_refusal (of_no_image r)

-- an operation on an image tells the values of what it answers, or its refusal
abbrev pub answer_tells : {A : Type 0} → (A → List ℕ) → Result A Located → Told
answer_tells values (Ok a) = tells (values a)
answer_tells values (Err r) = tells_refusal r

-- plain checking has no values
abbrev pub check_tells : Result ⊤ Located → Told
check_tells = answer_tells (λ _. [])

-- deriving and rebuilding tell the length of the result
abbrev pub make_tells : Result ℕ Located → Told
make_tells = answer_tells (λ length. length ∷ [])

-- taking a fragment tells how many bytes are taken by then; an intake that is shut after it has refused it, with 20
abbrev pub take_tells : Intake → Told
take_tells (intake_case.Open count) = tells (count ∷ [])
take_tells intake_case.Shut = tells_refusal (of_no_image (refusal 20 0))

-- measuring an axis tells how many figures it has and how many bytes its image
abbrev pub axis_tells : Result Axis Located → Told
axis_tells = answer_tells (λ (a : Axis). a.figures ∷ a.used ∷ [])

-- the dispatcher tells task, job, cycle and absolute time
abbrev pub start_tells : Result Start Located → Told
start_tells = answer_tells (λ (s : Start). s.task ∷ s.job ∷ s.cycle ∷ s.time ∷ [])
