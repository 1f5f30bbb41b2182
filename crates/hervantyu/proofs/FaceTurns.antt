-- What `hv_begin` and `hv_go_on` return and leave, over every result that meets their contracts. Assumes nothing.
use mathlib.Core.Path.{◌≡◌, refl, sym, ◌∙◌, ap, subst}
use mathlib.Core.Logic.{◌↔◌, ◌⊎◌, inl, inr}
use mathlib.Core.List.{List}
use mathlib.Core.Option.{none, some}
use Prim.Native.Nat.{ℕ, ◌≤◌}
use native.Mathlib.Omega.{arith}
use lib.ListN.{length, replicate}
use Rattle.fields.specs.Number.{Bytes}
use Rattle.rules.specs.declared.Refusal.{Refusal}
use Rattle.rules.specs.declared.Located.{Located}
use Rattle.rules.specs.declared.Start.{Start}
use Rattle.rules.specs.declared.Dispatcher.{Dispatcher as State}
use Rattle.rules.specs.declared.Turn.{Turn}
use Rattle.std.specs.Prelude.{Result, Ok, Err, ⊤}
use Rattle.rules.specs.Refusals.{refusal, First, check_tells, start_tells}
use Rattle.rules.specs.Located.{bare}
use Rattle.rules.specs.Operations.{check_tables}
use Rattle.rules.specs.Dispatcher.{numbers, number_count, stopped, begin, go_on}
use Rattle.rules.specs.GoingOn.{going_tests, start_refusal, Leaves, end_before_start, end_too_late, was_stopped, all_done, impossible}
use Rattle.rules.proofs.Cases.{clash}
use Rattle.rules.proofs.FirstTests.{one_first}
use Rattle.rules.proofs.BeginOrder.{refused_stopped}
use Rattle.rules.proofs.Promises as book
use Rattle.numbers.specs.Numbers.{state_from}
use Rattle.numbers.proofs.StateNumbers.{numbers_of_state}
use Rattle.hervantyu.specs.Lent.{location_of, TablesChecked, start_or, TurnTold, Begun, GoneOn}
use Rattle.hervantyu.proofs.Returned.{Returned, refused_with, zero_exactly, refusal_exactly, start_returned}

-- the stopped state's numbers are all 0
stopped_numbers : numbers stopped ≡ replicate number_count 0
stopped_numbers = refl

-- the start after a refusal
refused_start : {turn : Turn} {old-start start state : List ℕ} {r : ℕ} → TurnTold turn old-start r start state → (q : Located) → turn.answer ≡ Err q →
    start ≡ old-start
refused_start {old-start = old-start} told q e = told.told.its_start ∙ ap (λ (a : Result Start Located). start_or a old-start) e

-- `hv_begin`
module _ {image old-start : List ℕ} {r : ℕ} {w start state : List ℕ} (begun : Begun image old-start r w start state) where
  -- it returns what `hv_check_tables` does, and leaves it in the location
  pub begin_checks : Bytes image → TablesChecked image r w
  begin_checks are-bytes = by_check (check_tables image) refl
    where
      told : {a : Result Start Located} {c : Result ⊤ Located} → (begin image).answer ≡ a → check_tables image ≡ c → (start_tells a).number ≡ (check_tells c).number →
          location_of (start_tells a) ≡ location_of (check_tells c) → TablesChecked image r w
      told e f number location = record {
        its_number =
            begun.turn_told.told.its_number ∙ ap (λ (x : Result Start Located). (start_tells x).number) e ∙ number
            ∙ sym (ap (λ (x : Result ⊤ Located). (check_tells x).number) f);
        its_location =
            begun.its_location ∙ ap (λ (x : Result Start Located). location_of (start_tells x)) e ∙ location
            ∙ sym (ap (λ (x : Result ⊤ Located). location_of (check_tells x)) f);
      }

      by_check : (c : Result ⊤ Located) → check_tables image ≡ c → TablesChecked image r w
      by_check (Ok tt) c = told (book.beginning_starts image are-bytes c).1 c refl refl
      by_check (Err q) c = told (ap (λ (t : Turn). t.answer) (book.beginning_refuses image q c)) c refl refl

  -- a refusal leaves the start as it was, and every number of the state 0
  pub begin_leaves : 1 ≤ r → (start ≡ old-start) × (state ≡ replicate number_count 0)
  begin_leaves l = by_answer (begin image).answer refl
    where
      by_answer : (a : Result Start Located) → (begin image).answer ≡ a → (start ≡ old-start) × (state ≡ replicate number_count 0)
      by_answer (Ok s) e =
          absurd (omega (arith, l, begun.turn_told.told.its_number ∙ ap (λ (a : Result Start Located). (start_tells a).number) e))
      by_answer (Err q) e =
          (refused_start begun.turn_told q e, begun.turn_told.its_numbers ∙ ap numbers (refused_stopped image q e) ∙ stopped_numbers)

-- the refusal in an answer is what it refuses
refusing : (a : Result Start Located) (q : Refusal) → start_refusal a ≡ some q → (w : Located) × (a ≡ Err w) × (bare w ≡ q)
refusing (Ok s) q e = clash (cc)
refusing (Err w) q e = (w, refl, cc)

-- and none in a start
none_in : (a : Result Start Located) → ((s : Start) × (a ≡ Ok s)) ↔ (start_refusal a ≡ none)
none_in (Ok s) = (λ w. refl, λ e. (s, refl))
none_in (Err w) = (λ e. clash (cc e.1), λ e. clash (cc))

-- `hv_go_on`
module _ (image old-state : List ℕ) (end : ℕ) {old-start start state : List ℕ} {r : ℕ}
    (gone-on : GoneOn image old-state end old-start r start state) where
  abbrev turn : Turn
  turn = go_on image (state_from old-state) end

  -- a refusal has one of the numbers of going on, and leaves the state as that says
  leaving : (q : Refusal) → start_refusal turn.answer ≡ some q → (21 ≤ q.number) × (q.number ≤ 25) × Leaves (state_from old-state) q.number turn.state
  leaving q e =
      let (w, is, same) = refusing turn.answer q e in
      let l = book.going_on_leaves image (state_from old-state) end w is in
      let its : (21 ≤ w.number) × (w.number ≤ 25) × Leaves (state_from old-state) w.number turn.state = (l.0, l.1, l.4) in
      subst (λ (x : Refusal). (21 ≤ x.number) × (x.number ≤ 25) × Leaves (state_from old-state) x.number turn.state) same its

  -- what is returned says what going on answers, with place 0
  pub returned_go_on : Returned ((s : Start) × (turn.answer ≡ Ok s)) (λ q. start_refusal turn.answer ≡ some q) r 0
  returned_go_on =
      start_returned turn.answer gone-on.told.its_number (no_place turn.answer refl) (λ q e. omega (arith, (leaving q e).0))
    where
      no_place : (a : Result Start Located) → turn.answer ≡ a → 0 ≡ (start_tells a).place
      no_place (Ok s) e = refl
      no_place (Err q) e = sym (book.going_on_leaves image (state_from old-state) end q e).2

  -- 0 exactly where no test refuses
  pub go_on_passes : (r ≡ 0) ↔ First (going_tests image (state_from old-state) end) none
  go_on_passes = (
    λ z. rw ((none_in turn.answer).0 ((zero_exactly returned_go_on).0 z)) at (book.going_on_order image (state_from old-state) end),
    λ f. (zero_exactly returned_go_on).1 ((none_in turn.answer).1 (one_first (book.going_on_order image (state_from old-state) end) f)),
  )

  -- another number exactly where that is the first test that refuses
  pub go_on_refuses : (q : Refusal) → ((1 ≤ r) × (refusal r 0 ≡ q)) ↔ First (going_tests image (state_from old-state) end) (some q)
  go_on_refuses q = (
    λ w. rw ((refusal_exactly returned_go_on q).0 w) at (book.going_on_order image (state_from old-state) end),
    λ f. (refusal_exactly returned_go_on q).1 (one_first (book.going_on_order image (state_from old-state) end) f),
  )

  -- the numbers are 0 and 21 to 25
  pub go_on_numbers : (r ≡ 0) ⊎ ((21 ≤ r) × (r ≤ 25))
  go_on_numbers =
      elim returned_go_on.either [
        | inl g ↦ inl (returned_go_on.given g).0
        | inr w ↦
            let leaves = leaving w.0 w.1 in
            let is = ap (λ (q : Refusal). q.number) (returned_go_on.refused w.0 w.1).1 in
            inr (omega (arith, leaves.0, is), omega (arith, leaves.1, is))
      ]

  -- a refusal leaves the start as it was
  pub go_on_keeps_start : 1 ≤ r → start ≡ old-start
  go_on_keeps_start l =
      let (w, is, same) = refusing turn.answer (refusal r 0) (refused_with returned_go_on l) in refused_start gone-on w is

  -- and the state as its number says
  leaves : 1 ≤ r → Leaves (state_from old-state) r turn.state
  leaves l = (leaving (refusal r 0) (refused_with returned_go_on l)).2

  -- 21, 23 and 24 leave every number of the state as it was
  pub go_on_keeps_state : length old-state ≡ number_count → (r ≡ 21) ⊎ ((r ≡ 23) ⊎ (r ≡ 24)) → state ≡ old-state
  go_on_keeps_state long one =
      gone-on.its_numbers ∙ ap numbers (kept (leaves (some_number one)) one) ∙ numbers_of_state old-state long
    where
      some_number : {k : ℕ} → (k ≡ 21) ⊎ ((k ≡ 23) ⊎ (k ≡ 24)) → 1 ≤ k
      some_number (inl e) = omega (arith, e)
      some_number (inr (inl e)) = omega (arith, e)
      some_number (inr (inr e)) = omega (arith, e)

      kept : {s after : State} {k : ℕ} → Leaves s k after → (k ≡ 21) ⊎ ((k ≡ 23) ⊎ (k ≡ 24)) → after ≡ s
      kept end_before_start e = refl
      kept end_too_late (inl e) = clash (omega (arith, e))
      kept end_too_late (inr (inl e)) = clash (omega (arith, e))
      kept end_too_late (inr (inr e)) = clash (omega (arith, e))
      kept was_stopped e = refl
      kept all_done e = refl
      kept impossible (inl e) = clash (omega (arith, e))
      kept impossible (inr (inl e)) = clash (omega (arith, e))
      kept impossible (inr (inr e)) = clash (omega (arith, e))

  -- 22 and 25 leave every number of the state 0
  pub go_on_stops : (r ≡ 22) ⊎ (r ≡ 25) → state ≡ replicate number_count 0
  go_on_stops one = gone-on.its_numbers ∙ ap numbers (ended (leaves (some_number one)) one) ∙ stopped_numbers
    where
      some_number : {k : ℕ} → (k ≡ 22) ⊎ (k ≡ 25) → 1 ≤ k
      some_number (inl e) = omega (arith, e)
      some_number (inr e) = omega (arith, e)

      ended : {s after : State} {k : ℕ} → Leaves s k after → (k ≡ 22) ⊎ (k ≡ 25) → after ≡ stopped
      ended end_before_start (inl e) = clash (omega (arith, e))
      ended end_before_start (inr e) = clash (omega (arith, e))
      ended end_too_late e = refl
      ended was_stopped (inl e) = clash (omega (arith, e))
      ended was_stopped (inr e) = clash (omega (arith, e))
      ended all_done (inl e) = clash (omega (arith, e))
      ended all_done (inr e) = clash (omega (arith, e))
      ended impossible e = refl
