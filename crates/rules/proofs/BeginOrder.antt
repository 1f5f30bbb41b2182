-- Beginning refuses what table checking refuses, with its number, place and offset, and a refused beginning hands back the stopped state. Assumes nothing.
use mathlib.Core.Path.{◌≡◌, refl, sym, ◌∙◌, ap}
use mathlib.Core.List.{List}
use Prim.Native.Nat.{ℕ}
use Rattle.rules.specs.declared.Entry.{Entry}
use Rattle.rules.specs.declared.Located.{Located}
use Rattle.rules.specs.declared.Start.{Start}
use Rattle.rules.specs.declared.Dispatcher.{Dispatcher as State}
use Rattle.rules.specs.declared.Turn.{Turn}
use Rattle.std.specs.Prelude.{Result, Ok, Err, ⊤}
use Rattle.rules.specs.Refusals.{Judged, gives, then}
use Rattle.rules.specs.Priority.{setting}
use Rattle.rules.specs.Judging.{judge_tables}
use Rattle.rules.specs.Located.{located}
use Rattle.rules.specs.Operations.{Tabled, Timed, read_tables, rebuild_from, check_answer, check_tables}
use Rattle.rules.specs.Offsets.{lent, Standing, NextStart, next_is, stuck, next_start}
use Rattle.rules.specs.Dispatcher.{set_of, stopped, refused, started, start_next, fresh, at_begin, begin_accepted, begin_framed, begin}
use Rattle.rules.proofs.Cases.{by_judged, clash}
use Rattle.rules.proofs.Serving.{first_turn}

-- a next start that is not found leaves the stopped state
stuck_stopped : (bytes : List ℕ) (s : State) (c : ℕ) (a : Standing (List ℕ)) (r : Located) → (start_next bytes s c a).answer ≡ Err r →
    (start_next bytes s c a).state ≡ stopped
stuck_stopped bytes s c a r = by_found (next_start (setting (set_of s)) (lent bytes (set_of s)) a)
  where
    by_found : (n : NextStart) → (started bytes s c a n).answer ≡ Err r → (started bytes s c a n).state ≡ stopped
    by_found (next_is i t o) e = clash (cc)
    by_found (stuck number) e = refl

module _ (bytes : List ℕ) where
  -- how beginning comes about: table checking refuses the image, or accepts it and the first start is looked for
  by_beginning : {A : Type 0} → ((r : Located) → check_tables bytes ≡ Err r → begin bytes ≡ refused r stopped → A) →
      ((i : Tabled) → check_tables bytes ≡ Ok tt → begin bytes ≡ first_turn bytes i → A) → A
  unfolding check_tables begin
  by_beginning refusing accepting =
      by_judged (read_tables bytes)
      (λ i e. let c : check_tables bytes ≡ check_answer bytes (rebuild_from i) = ap (λ (z : Judged Tabled). check_answer bytes (then z rebuild_from)) e in
      let b : begin bytes ≡ begin_accepted bytes i (judge_tables i.set i.tables) = ap (begin_framed bytes) e in
      by_judged (judge_tables i.set i.tables) (λ τ j. accepting i (c ∙ ap (rebuilt_answer i) j) (b ∙ ap (begin_accepted bytes i) j))
      (λ r j. refusing (located bytes r) (c ∙ ap (rebuilt_answer i) j) (b ∙ ap (begin_accepted bytes i) j)))
      (λ r e. refusing (located bytes r) (ap (λ (z : Judged Tabled). check_answer bytes (then z rebuild_from)) e) (ap (begin_framed bytes) e))
    where
      timed : Tabled → List Entry → Judged Timed
      timed i τ = gives (record { set = i.set; entries = τ })

      rebuilt_answer : Tabled → Judged (List Entry) → Result ⊤ Located
      rebuilt_answer i z = check_answer bytes (then z (timed i))

  -- table checking refuses it or accepts it
  pub by_check : {A : Type 0} → ((r : Located) → check_tables bytes ≡ Err r → A) → (check_tables bytes ≡ Ok tt → A) → A
  by_check refusing accepting = by_beginning (λ r c b. refusing r c) (λ i c b. accepting c)

  -- an image that table checking refuses is refused by beginning with the same number, place and offset, and the state is stopped
  pub begin_refuses : (r : Located) → check_tables bytes ≡ Err r → begin bytes ≡ refused r stopped
  begin_refuses r c =
      by_beginning (λ q d b. let e : q ≡ r = cc in b ∙ ap (λ (z : Located). refused z stopped) e) (λ i d b. clash (cc))

  -- a start is begun only from an image that table checking accepts
  pub begin_accepts : (s : Start) → (begin bytes).answer ≡ Ok s → check_tables bytes ≡ Ok tt
  begin_accepts s e = by_beginning (λ r c b. let g : Err r ≡ Ok s = sym (ap (λ (t : Turn). t.answer) b) ∙ e in clash (cc)) (λ i c b. c)

  -- a refused beginning hands back the stopped state
  pub refused_stopped : (r : Located) → (begin bytes).answer ≡ Err r → (begin bytes).state ≡ stopped
  refused_stopped r e =
      by_beginning (λ q c b. ap (λ (t : Turn). t.state) b)
      (λ i c b. ap (λ (t : Turn). t.state) b
      ∙ stuck_stopped bytes (fresh i) 0 (at_begin (fresh i)) r (sym (ap (λ (t : Turn). t.answer) b) ∙ e))
