-- What a call of the dispatcher leaves: the answer, and the state after it, by value, in place, or as numbers. Assumes nothing.
use Rattle.std.specs.Prelude.{◌≡◌, List, ℕ, Result}
use Rattle.rules.specs.declared.Dispatcher.{Dispatcher as State}
use Rattle.rules.specs.declared.Turn.{Turn}
use Rattle.rules.specs.declared.Located.{Located}
use Rattle.rules.specs.declared.Start.{Start}
use Rattle.rules.specs.Dispatcher.{begin, go_on}
use Rattle.numbers.specs.Numbers.{state_from}
use Rattle.dispatcher.specs.Stored.{TurnStored}

-- a result that meets the contract of beginning
abbrev pub Begun : List ℕ → Turn → Type 0
Begun bytes turn = turn ≡ begin bytes

-- a result that meets the contract of going on with a state and a reported end
abbrev pub GoneOn : List ℕ → State → ℕ → Turn → Type 0
GoneOn bytes d end turn = turn ≡ go_on bytes d end

-- a turn whose state is left in place
pub record TurnInPlace (turn : Turn) (answer : Result Start Located) (after : State) : Type 0 where
  pub its_answer : answer ≡ turn.answer
  pub its_state : after ≡ turn.state

-- beginning in place, and going on in place
abbrev pub BegunInPlace : List ℕ → Result Start Located → State → Type 0
BegunInPlace bytes = TurnInPlace (begin bytes)

abbrev pub GoneOnInPlace : List ℕ → State → ℕ → Result Start Located → State → Type 0
GoneOnInPlace bytes d end = TurnInPlace (go_on bytes d end)

-- beginning into numbers, and going on with a state's numbers
abbrev pub BegunNumbers : List ℕ → Result Start Located → List ℕ → Type 0
BegunNumbers bytes = TurnStored (begin bytes)

abbrev pub GoneOnNumbers : List ℕ → List ℕ → ℕ → Result Start Located → List ℕ → Type 0
GoneOnNumbers bytes old end = TurnStored (go_on bytes (state_from old) end)
