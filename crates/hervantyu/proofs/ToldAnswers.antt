-- What an answer tells, whatever it is of: the number, the place, and what each lent number holds afterwards. Assumes nothing.
use mathlib.Core.Path.{◌≡◌, refl, sym, ap}
use mathlib.Core.List.{List}
use Prim.Native.Nat.{ℕ, zero, suc, ◌≤◌}
use native.Mathlib.Omega.{arith}
use Rattle.rules.specs.declared.Located.{Located}
use Rattle.rules.specs.declared.Turn.{Turn}
use Rattle.std.specs.Prelude.{Result}
use Rattle.rules.specs.declared.Start.{Start}
use Rattle.rules.specs.Refusals.{Told, tells, tells_refusal}
use Rattle.rules.specs.Priority.{slot}
use Rattle.rules.proofs.Cases.{clash}
use Rattle.dispatcher.specs.Stored.{TurnStored}
use Rattle.hervantyu.specs.Lent.{value_if, value_or, StartTold, TurnTold}

-- an answer with values: number and place are 0, and a lent number holds its value
module _ (t : Told) (values : List ℕ) (e : t ≡ tells values) where
  pub no_number : 0 ≡ t.number
  no_number = sym (ap (λ (a : Told). a.number) e)

  pub no_place : 0 ≡ t.place
  no_place = sym (ap (λ (a : Told). a.place) e)

  pub value_given : (i old : ℕ) → slot values i ≡ value_or t i old
  value_given i old = sym (ap (λ (a : Told). value_or a i old) e)

-- a number that is not 0 leaves what was lent as it was
pub kept_by : (number : ℕ) (t : Told) (i old : ℕ) → 1 ≤ number → old ≡ value_if number t i old
kept_by zero t i old h = clash (omega arith)
kept_by (suc number) t i old h = refl

-- a refusal: its number, its place, and a lent number holds what it held
module _ (t : Told) (r : Located) (e : t ≡ tells_refusal r) where
  pub its_number : r.number ≡ t.number
  its_number = sym (ap (λ (a : Told). a.number) e)

  pub its_place : r.place ≡ t.place
  its_place = sym (ap (λ (a : Told). a.place) e)

  pub value_kept : 1 ≤ r.number → (i old : ℕ) → old ≡ value_or t i old
  value_kept h i old = kept_by t.number t i old (omega (arith, its_number))

-- a turn that is stored in a state's numbers, and told of its answer
pub turn_told : {turn : Turn} {answer : Result Start Located} {old start state : List ℕ} {number : ℕ} → TurnStored turn answer state →
    StartTold answer old number start → TurnTold turn old number start state
turn_told stored told = record { told = rw stored.its_answer at told; its_numbers = stored.its_numbers; its_state = stored.its_state }
