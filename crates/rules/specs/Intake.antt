-- An intake: document 02, R-1. It collects fragments of a table image at the front of a lent buffer, and a closing call judges that front. Assumes nothing.
use Rattle.std.specs.Prelude.{◌≡◌, List, [], ◌∷◌, ◌++◌, ℕ, leb, eqb, length, take, Result, Ok, Err, ⊤}
use Rattle.rules.specs.declared.Intake.{Intake}
use Rattle.rules.specs.declared.Intake.TheVariants.{Shut, Open}
use Rattle.rules.specs.declared.Located.{Located}
use Rattle.rules.specs.Refusals.{Judged, gives, refuses, refusal, then, of_no_image}
use Rattle.rules.specs.Timetable.{pick}
use Rattle.rules.specs.Priority.{slot}
use Rattle.rules.specs.Operations.{check_tables, into, output_after, rebuild, rebuild_output}

-- an intake that was begun is open and has taken no bytes
abbrev pub begun : Intake
begun = Open 0

-- an intake before a buffer of so many bytes: a count above them shuts it
abbrev pub within : Intake → ℕ → Intake
within Shut room = Shut
within (Open count) room = pick (leb count room) (Open count) Shut

-- the bytes that an intake holds: the buffer's front up to the count; 20 where it is shut
abbrev pub front : Intake → List ℕ → Judged (List ℕ)
front Shut buffer = refuses (refusal 20 0)
front (Open count) buffer = gives (take count buffer)

abbrev pub held : Intake → List ℕ → Judged (List ℕ)
held k buffer = front (within k (length buffer)) buffer

-- a fragment is joined to the bytes that are held, in a buffer of so many bytes; 20 where it does not fit
abbrev pub join : ℕ → List ℕ → Judged (List ℕ) → Judged (List ℕ)
join room fragment before = then before (λ (bytes : List ℕ). into room (bytes ++ fragment))

abbrev pub joined : Intake → List ℕ → List ℕ → Judged (List ℕ)
joined k buffer fragment = join (length buffer) fragment (held k buffer)

-- an intake that holds bytes is open with their number, and a refusal shuts it
abbrev pub holding : Judged (List ℕ) → Intake
holding (gives bytes) = Open (length bytes)
holding (refuses r) = Shut

-- what taking a fragment answers, the intake afterwards, and leaves in the buffer: the joined bytes at its front, and all other bytes as they were
pub record Takes (k : Intake) (buffer fragment : List ℕ) (answered : Intake) (left : List ℕ) : Type 0 where
  pub answer : answered ≡ holding (joined k buffer fragment)
  pub output : left ≡ output_after (joined k buffer fragment) buffer

-- closing judges the bytes that are held as checking tables does, and answers the length of an image that is accepted
abbrev pub accepted_length : ℕ → Result ⊤ Located → Result ℕ Located
accepted_length n (Ok tt) = Ok n
accepted_length n (Err r) = Err r

abbrev pub close_held : Judged (List ℕ) → Result ℕ Located
close_held (gives bytes) = accepted_length (length bytes) (check_tables bytes)
close_held (refuses r) = Err (of_no_image r)

abbrev pub close : Intake → List ℕ → Result ℕ Located
close k buffer = close_held (held k buffer)

-- or it rebuilds them into an output
abbrev pub rebuild_held : Judged (List ℕ) → List ℕ → Result ℕ Located
rebuild_held (gives bytes) old = rebuild bytes old
rebuild_held (refuses r) old = Err (of_no_image r)

abbrev pub rebuild_held_output : Judged (List ℕ) → List ℕ → List ℕ
rebuild_held_output (gives bytes) old = rebuild_output bytes old
rebuild_held_output (refuses r) old = old

pub record ClosesRebuilding (k : Intake) (buffer old : List ℕ) (answered : Result ℕ Located) (left : List ℕ) : Type 0 where
  pub answer : answered ≡ rebuild_held (held k buffer) old
  pub output : left ≡ rebuild_held_output (held k buffer) old

-- two numbers are an intake: open where the first is 1, and the second is the count; shut it is two zeros
abbrev pub intake_from : List ℕ → Intake
intake_from numbers = pick (eqb (slot numbers 0) 1) (Open (slot numbers 1)) Shut

abbrev pub intake_numbers : Intake → List ℕ
intake_numbers Shut = 0 ∷ 0 ∷ []
intake_numbers (Open count) = 1 ∷ count ∷ []
