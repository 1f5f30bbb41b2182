-- Calls of the C face in service: every log of them tells what a log of the rule book answers, so that what holds there holds of what is lent and returned.
-- Assumes nothing.
use mathlib.Core.Path.{◌≡◌, refl, sym, ◌∙◌, ap}
use mathlib.Core.List.{List, [], ◌∷◌}
use Prim.Native.Nat.{ℕ, zero, suc, ◌/◌, ◌%◌, ◌<◌}
use native.Mathlib.Omega.{arith}
use lib.ListN.{length}
use Rattle.fields.specs.Number.{Bytes}
use Rattle.rules.specs.declared.Entry.{Entry}
use Rattle.rules.specs.declared.Start.{Start}
use Rattle.rules.specs.declared.Dispatcher.{Dispatcher as State}
use Rattle.rules.specs.declared.Turn.{Turn}
use Rattle.std.specs.Prelude.{Result, Ok}
use Rattle.rules.specs.declared.Located.{Located}
use Rattle.rules.specs.Refusals.{refusal, of_no_image, start_tells}
use Rattle.rules.specs.Tasks.{Set, hyperperiod}
use Rattle.rules.specs.Priority.{slot}
use Rattle.rules.specs.Dispatcher.{Shaped, numbers, refused, begin, go_on}
use Rattle.rules.specs.Calls.{all_starts, start_of}
use Rattle.rules.specs.Calls as book_calls
use Rattle.rules.specs.Promised.{TableImage}
use Rattle.rules.proofs.Demand2.{rebuilds}
use Rattle.rules.proofs.Demand3 as demand3
use Rattle.rules.proofs.Promises as book
use Rattle.numbers.specs.Numbers.{state_from}
use Rattle.numbers.proofs.StateNumbers.{state_of_numbers}
use Rattle.hervantyu.specs.Lent.{start_or, TurnTold, Begun, GoneOn}
use Rattle.hervantyu.specs.Runs.{Honest, Log, begun, went_on, too_early}

-- a start's four numbers
abbrev four : Start → List ℕ
four s = s.task ∷ s.job ∷ s.cycle ∷ s.time ∷ []

-- a turn whose state has all its slots can be told
told_of : (turn : Turn) (old-start : List ℕ) → Shaped turn.state →
    TurnTold turn old-start (start_tells turn.answer).number (start_or turn.answer old-start) (numbers turn.state)
told_of turn old-start shaped =
    record { told = record { its_number = refl; its_start = refl }; its_numbers = refl; its_state = state_of_numbers turn.state shaped }

module _ (image : List ℕ) (ts : Set) where
  -- the log of the rule book beside a log of calls: its last start is in the start, and its state is what the state's numbers are
  pub record Beside (k : ℕ) (start state : List ℕ) : Type 0 where
    pub s : Start
    pub d : State
    pub log : book_calls.Log image ts k (Ok s) d
    pub its_start : start ≡ four s
    pub its_numbers : state ≡ numbers d
    pub its_state : state_from state ≡ d

  module _ {k : ℕ} {start state : List ℕ} (b : Beside k start state) where
    -- what a call from there tells
    gone_on_from : {number : ℕ} {old-start start' state' : List ℕ} (end : ℕ) → GoneOn image state end old-start number start' state' →
        TurnTold (go_on image b.d end) old-start number start' state'
    gone_on_from end g = rw (← b.its_state) g

    -- and what tells it is such a call
    gone_on_there : {number : ℕ} {old-start start' state' : List ℕ} (end : ℕ) → TurnTold (go_on image b.d end) old-start number start' state' →
        GoneOn image state end old-start number start' state'
    gone_on_there end t = rw (← b.its_state) at t

    -- an honest end is honest there
    honest_there : (end : ℕ) → Honest ts start end → book_calls.Honest ts b.s end
    honest_there end honest = rw b.its_start at honest

    -- a call that is refused and hands back the same state leaves all as it was
    kept_by : {number : ℕ} {old-start start' state' : List ℕ} (end : ℕ) → GoneOn image state end old-start number start' state' → (n : ℕ) →
        go_on image b.d end ≡ refused (of_no_image (refusal n 0)) b.d → (number ≡ n) × (start' ≡ old-start) × (state' ≡ state)
    kept_by {old-start = old-start} end g n e =
        let t = gone_on_from end g in (
          t.told.its_number ∙ ap (λ (turn : Turn). (start_tells turn.answer).number) e,
          t.told.its_start ∙ ap (λ (turn : Turn). start_or turn.answer old-start) e,
          t.its_numbers ∙ ap (λ (turn : Turn). numbers turn.state) e ∙ sym b.its_numbers,
        )

module _ (image : List ℕ) (are-bytes : Bytes image) (ts : Set) (τ : List Entry) (accepted : TableImage image ts τ) where
  -- a turn that ends a log of the rule book returns 0 and tells its start
  told_next : {k number : ℕ} {old-start start state : List ℕ} {turn : Turn} → book_calls.Log image ts k turn.answer turn.state → k < all_starts τ →
      TurnTold turn old-start number start state → (number ≡ 0) × Beside image ts k start state
  told_next {k = k} {old-start = old-start} {turn = turn} log lt t =
      let s : Start = start_of (hyperperiod ts) τ (k / length τ) (k % length τ) in
      let e : turn.answer ≡ Ok s = demand3.serves image are-bytes ts τ (rebuilds accepted) log lt in (
        t.told.its_number ∙ ap (λ (a : Result Start Located). (start_tells a).number) e,
        record {
          s = s;
          d = turn.state;
          log = rw e at log;
          its_start = t.told.its_start ∙ ap (λ (a : Result Start Located). start_or a old-start) e;
          its_numbers = t.its_numbers;
          its_state = t.its_state;
        },
      )

  -- `hv_begin` does
  pub begins : {number : ℕ} {old-start location start state : List ℕ} → 0 < all_starts τ → Begun image old-start number location start state →
      (number ≡ 0) × Beside image ts 0 start state
  begins lt g = told_next (book_calls.begun refl) lt g.turn_told

  -- and so does `hv_go_on` with an honest end
  pub goes_on : {k number : ℕ} {start state old-start start' state' : List ℕ} → suc k < all_starts τ → Beside image ts k start state → (end : ℕ) →
      Honest ts start end → GoneOn image state end old-start number start' state' → (number ≡ 0) × Beside image ts (suc k) start' state'
  goes_on lt b end honest g =
      told_next (book_calls.went_on b.log end (honest_there image ts b end honest) refl) lt (gone_on_from image ts b end g)

  -- with an end before the start it returns 21 and leaves all as it was
  pub stays : {k number : ℕ} {start state old-start start' state' : List ℕ} → k < all_starts τ → Beside image ts k start state → (end : ℕ) →
      end < slot start 3 → GoneOn image state end old-start number start' state' → (number ≡ 21) × (start' ≡ old-start) × (state' ≡ state)
  stays lt b end early g =
      kept_by image ts b end g 21 (book.too_early_refused image are-bytes ts τ accepted b.log lt end (rw b.its_start at early))

  -- and so it does, with 24, after the last start of the last cycle
  pub ends : {k number : ℕ} {start state old-start start' state' : List ℕ} → suc k ≡ all_starts τ → Beside image ts k start state → (end : ℕ) →
      Honest ts start end → GoneOn image state end old-start number start' state' → (number ≡ 24) × (start' ≡ old-start) × (state' ≡ state)
  ends last b end honest g =
      kept_by image ts b end g 24 (book.after_the_last image are-bytes ts τ accepted b.log last end (honest_there image ts b end honest))

  -- so every log has one of the rule book beside it
  pub logged : {k : ℕ} {start state : List ℕ} → Log image ts k start state → k < all_starts τ → Beside image ts k start state
  logged (begun g) lt = (begins lt g).1
  logged (went_on log end honest g) lt = (goes_on lt (logged log (omega arith)) end honest g).1
  logged (too_early log end early g) lt = let b = logged log lt in rw (stays lt b end early g).2 b

  -- a log of calls for a start
  abbrev ALog : ℕ → Type 0
  ALog k = (start : List ℕ) × (state : List ℕ) × Log image ts k start state

  -- there is one for the first
  first_log : 0 < all_starts τ → ALog 0
  first_log lt =
      let turn : Turn = begin image in
      let shaped : Shaped turn.state = book.states_shaped image are-bytes ts τ accepted (book_calls.begun refl) lt in
      (start_or turn.answer [], numbers turn.state, begun (record { turn_told = told_of turn [] shaped; its_location = refl }))

  -- and for the next, where the job ends when it starts
  one_more : (k : ℕ) → ALog k → suc k < all_starts τ → ALog (suc k)
  one_more k w lt =
      let b : Beside image ts k w.0 w.1 = logged w.2 (omega arith) in
      let end : ℕ = slot w.0 3 in
      let honest : Honest ts w.0 end = (omega arith, omega arith) in
      let turn : Turn = go_on image b.d end in
      let shaped : Shaped turn.state =
      book.states_shaped image are-bytes ts τ accepted (book_calls.went_on b.log end (honest_there image ts b end honest) refl) lt in
      (start_or turn.answer [], numbers turn.state, went_on w.2 end honest (gone_on_there image ts b end (told_of turn [] shaped)))

  pub a_log : (k : ℕ) → k < all_starts τ → ALog k
  a_log zero lt = first_log lt
  a_log (suc k) lt = one_more k (a_log k (omega arith)) lt

  -- in every log but of the first start a call can report an end that is too early
  pub an_early_call : {k : ℕ} {start state : List ℕ} → Log image ts (suc k) start state → suc k < all_starts τ → (old-start : List ℕ) →
      (0 < slot start 3) × GoneOn image state 0 old-start 21 old-start state
  an_early_call {start = start} {state = state} log lt old-start =
      let b = logged log lt in
      let l : 0 < b.s.time = book.early_ends_exist image are-bytes ts τ accepted b.log lt in
      let t : TurnTold (refused (of_no_image (refusal 21 0)) b.d) old-start 21 old-start state =
      record { told = record { its_number = refl; its_start = refl }; its_numbers = b.its_numbers; its_state = b.its_state } in
      let u : TurnTold (go_on image b.d 0) old-start 21 old-start state = rw (book.too_early_refused image are-bytes ts τ accepted b.log lt 0 l) t in
      (rw b.its_start l, gone_on_there image ts b 0 u)
