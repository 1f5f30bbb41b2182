-- What whoever calls the dispatcher can rely on, from the contracts alone: one result of each call, and logs of calls that the rule book's
-- promises are of. Assumes nothing.
use mathlib.Core.Path.{◌≡◌, sym, ◌∙◌, ap}
use mathlib.Core.Bool.{true}
use mathlib.Core.List.{List}
use Prim.Native.Nat.{ℕ, suc, ◌≤◌, ◌<◌}
use Rattle.fields.specs.Number.{Bytes}
use Rattle.rules.specs.declared.Located.{Located}
use Rattle.rules.specs.declared.Start.{Start}
use Rattle.rules.specs.declared.Dispatcher.{Dispatcher as State}
use Rattle.rules.specs.declared.Turn.{Turn}
use Rattle.std.specs.Prelude.{Result, Ok, Err}
use Rattle.rules.specs.Tasks.{Set}
use Rattle.rules.specs.Refusals.{First}
use Rattle.rules.specs.Operations.{check_tables}
use Rattle.rules.specs.Dispatcher.{Shaped, stopped, is_stopped, refused}
use Rattle.rules.specs.Calls.{Honest, Log, begun, went_on, too_early}
use Rattle.rules.specs.GoingOn.{going_tests, start_refusal, Leaves}
use Rattle.rules.proofs.Promises as book
use Rattle.dispatcher.specs.Turns.{Begun, GoneOn, BegunInPlace, GoneOnInPlace}

-- the contract of beginning leaves one result: the answer, and the state with all its numbers and slots
pub one_beginning : (bytes : List ℕ) (a b : Turn) → Begun bytes a → Begun bytes b → a ≡ b
one_beginning bytes a b p q = p ∙ sym q

-- and so does that of going on
pub one_turn : (bytes : List ℕ) (d : State) (end : ℕ) (a b : Turn) → GoneOn bytes d end a → GoneOn bytes d end b → a ≡ b
one_turn bytes d end a b p q = p ∙ sym q

-- in place: the answer, and the state behind the reference, are a result that meets the contract of beginning
pub begun_in_place : (bytes : List ℕ) (answer : Result Start Located) (after : State) → BegunInPlace bytes answer after →
    Begun bytes (record { answer = answer; state = after })
begun_in_place bytes answer after met = λ i. record { answer = met.its_answer i; state = met.its_state i }

-- or of going on; so all that follows is of calls in place too
pub gone_on_in_place : (bytes : List ℕ) (d : State) (end : ℕ) (answer : Result Start Located) (after : State) →
    GoneOnInPlace bytes d end answer after → GoneOn bytes d end (record { answer = answer; state = after })
gone_on_in_place bytes d end answer after met = λ i. record { answer = met.its_answer i; state = met.its_state i }

-- DEMAND 1: of every result that meets the contract of beginning

module _ (bytes : List ℕ) (turn : Turn) (begun : Begun bytes turn) where
  -- beginning refuses exactly as table checking does, and hands back the stopped state
  pub beginning_refuses : (r : Located) → check_tables bytes ≡ Err r → turn ≡ refused r stopped
  beginning_refuses r e = begun ∙ book.beginning_refuses bytes r e

  -- an image that table checking accepts is begun with a start
  pub beginning_starts : Bytes bytes → check_tables bytes ≡ Ok tt → (s : Start) × (turn.answer ≡ Ok s)
  beginning_starts b e = let w = book.beginning_starts bytes b e in (w.0, ap (λ (t : Turn). t.answer) begun ∙ w.1)

-- DEMAND 1: of every result that meets the contract of going on

module _ (bytes : List ℕ) (d : State) (end : ℕ) (turn : Turn) (gone-on : GoneOn bytes d end turn) where
  -- going on refuses with the first of 23, 25, 21, 22, 24, 25 whose condition holds, and with nothing else
  pub going_on_order : First (going_tests bytes d end) (start_refusal turn.answer)
  going_on_order = rw gone-on (book.going_on_order bytes d end)

  -- the number is one of 21 to 25, place and offset 0, and the state is the one that the number leaves
  pub going_on_leaves : (r : Located) → turn.answer ≡ Err r →
      (21 ≤ r.number) × (r.number ≤ 25) × (r.place ≡ 0) × (r.offset ≡ 0) × Leaves d r.number turn.state
  going_on_leaves r e = rw gone-on (book.going_on_leaves bytes d end r (sym (ap (λ (t : Turn). t.answer) gone-on) ∙ e))

-- only the stopped state tests as stopped
pub only_the_stopped_state : (s : State) → Shaped s → is_stopped s ≡ true → s ≡ stopped
only_the_stopped_state = book.only_the_stopped_state

-- DEMAND 3: results that meet the contracts, each call given the state of the one before, make up a log of the rule book, and its promises are of every log

module _ (bytes : List ℕ) (ts : Set) where
  -- one begins it
  pub begins_a_log : {turn : Turn} → Begun bytes turn → Log bytes ts 0 turn.answer turn.state
  begins_a_log = begun

  -- one that is given an honest end goes on
  pub goes_on : {k : ℕ} {s : Start} {d : State} {turn : Turn} → Log bytes ts k (Ok s) d → (end : ℕ) → Honest ts s end →
      GoneOn bytes d end turn → Log bytes ts (suc k) turn.answer turn.state
  goes_on = went_on

  -- one that is given an end before the start stays where it is
  pub stays : {k : ℕ} {s : Start} {d : State} {turn : Turn} → Log bytes ts k (Ok s) d → (end : ℕ) → end < s.time →
      GoneOn bytes d end turn → Log bytes ts k (Ok s) turn.state
  stays = too_early
