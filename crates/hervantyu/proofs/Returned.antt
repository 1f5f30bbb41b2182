-- What a returned number and a stored place say of an answer: 0 and 0 of one that is given, its own number and place of a refusal. Assumes nothing.
use mathlib.Core.Path.{◌≡◌, refl, sym, ◌∙◌, ap, subst}
use mathlib.Core.Logic.{◌↔◌, ◌⊎◌, inl, inr}
use mathlib.Core.List.{List}
use mathlib.Core.Option.{some}
use Prim.Native.Nat.{ℕ, ◌≤◌}
use native.Mathlib.Omega.{arith}
use Rattle.rules.specs.declared.Figures.{Figures}
use Rattle.rules.specs.declared.Refusal.{Refusal}
use Rattle.rules.specs.declared.Located.{Located}
use Rattle.rules.specs.declared.Start.{Start}
use Rattle.std.specs.Prelude.{Result, Ok, Err, ⊤}
use Rattle.rules.specs.Refusals.{refusal, Told, set_tells, answer_tells, start_tells}
use Rattle.rules.specs.Priority.{slot}
use Rattle.rules.specs.Located.{located, bare}
use Rattle.rules.specs.GoingOn.{start_refusal}
use Rattle.rules.proofs.Cases.{clash}
use Rattle.hervantyu.specs.Lent.{location_of, AnswerTold, CheckTold}

-- an answer is given or a refusal, and what is returned of it
pub record Returned (Given : Type 0) (Refuses : Refusal → Type 0) (number place : ℕ) : Type 0 where
  pub either : Given ⊎ ((q : Refusal) × Refuses q)
  pub given : Given → (number ≡ 0) × (place ≡ 0)
  pub refused : (q : Refusal) → Refuses q → (1 ≤ number) × (refusal number place ≡ q)

module _ {Given : Type 0} {Refuses : Refusal → Type 0} {number place : ℕ} (returned : Returned Given Refuses number place) where
  -- 0 is returned exactly of an answer that is given
  pub zero_exactly : (number ≡ 0) ↔ Given
  zero_exactly = (
    λ z. elim returned.either [
      | inl g ↦ g
      | inr w ↦ absurd (omega (arith, z, (returned.refused w.0 w.1).0))
    ],
    λ g. (returned.given g).0,
  )

  -- and then the place is 0
  pub zero_place : number ≡ 0 → place ≡ 0
  zero_place z = (returned.given (zero_exactly.0 z)).1

  -- another number with the place is exactly the refusal
  pub refusal_exactly : (q : Refusal) → ((1 ≤ number) × (refusal number place ≡ q)) ↔ Refuses q
  refusal_exactly q = (
    λ w. elim returned.either [
      | inl g ↦ absurd (omega (arith, w.0, (returned.given g).0))
      | inr v ↦ subst Refuses (sym (returned.refused v.0 v.1).1 ∙ w.1) v.1
    ],
    returned.refused q,
  )

  -- there is one for another number
  pub refused_with : 1 ≤ number → Refuses (refusal number place)
  refused_with l = (refusal_exactly (refusal number place)).0 (l, refl)

-- a number and a place that are a refusal's
is_refusal : {number place : ℕ} (q : Refusal) → 1 ≤ q.number → (number ≡ q.number) × (place ≡ q.place) → (1 ≤ number) × (refusal number place ≡ q)
is_refusal q l e = (omega (arith, l, e.0), λ i. record { number = e.0 i; place = e.1 i })

-- an answer that tells its number and its place
module _ {A : Type 0} (tells-of : A → Told) {a : A} {number place : ℕ} (its_number : number ≡ (tells-of a).number) (its_place : place ≡ (tells-of a).place) where
  -- an answer that is equal tells the same
  told_as : {b : A} → a ≡ b → (number ≡ (tells-of b).number) × (place ≡ (tells-of b).place)
  told_as e = (its_number ∙ ap (λ (x : A). (tells-of x).number) e, its_place ∙ ap (λ (x : A). (tells-of x).place) e)

-- that of judging a set is returned so, where no refusal has number 0
pub set_returned : (a : Result Figures Refusal) {number place : ℕ} → number ≡ (set_tells a).number → place ≡ (set_tells a).place →
    ((q : Refusal) → a ≡ Err q → 1 ≤ q.number) →
    Returned ((f : Figures) × (a ≡ Ok f)) (λ q. a ≡ Err q) number place
set_returned a n p numbered = record {
  either = cases a;
  given = λ g. told_as set_tells n p g.1;
  refused = λ q e. is_refusal q (numbered q e) (told_as set_tells n p e);
}
  where
    cases : (b : Result Figures Refusal) → ((f : Figures) × (b ≡ Ok f)) ⊎ ((q : Refusal) × (b ≡ Err q))
    cases (Ok f) = inl (f, refl)
    cases (Err q) = inr (q, refl)

-- a refusal that has a number, and is located in an image
abbrev pub NumberedIn : List ℕ → Located → Type 0
NumberedIn bytes q = (1 ≤ q.number) × (q ≡ located bytes (bare q))

-- what is told of an operation on an image
module _ {A : Type 0} {values : A → List ℕ} {answer : Result A Located} {number : ℕ} {location : List ℕ} (told : AnswerTold values answer number location) where
  -- of an answer that is equal
  pub answer_told : {other : Result A Located} → answer ≡ other → AnswerTold values other number location
  answer_told e = record {
    its_number = told.its_number ∙ ap (λ (x : Result A Located). (answer_tells values x).number) e;
    its_location = told.its_location ∙ ap (λ (x : Result A Located). location_of (answer_tells values x)) e;
  }

  -- is returned so, where each refusal has a number and is located in the image
  pub answer_returned : (bytes : List ℕ) → ((q : Located) → answer ≡ Err q → NumberedIn bytes q) →
      Returned ((a : A) × (answer ≡ Ok a)) (λ q. answer ≡ Err (located bytes q)) number (slot location 0)
  answer_returned bytes numbered = record {
    either = cases answer refl;
    given = λ g. let t = answer_told g.1 in (t.its_number, ap (λ (x : List ℕ). slot x 0) t.its_location);
    refused = λ q e.
        let t = answer_told e in is_refusal q (numbered (located bytes q) e).0 (t.its_number, ap (λ (x : List ℕ). slot x 0) t.its_location);
  }
    where
      cases : (b : Result A Located) → answer ≡ b → ((a : A) × (answer ≡ Ok a)) ⊎ ((q : Refusal) × (answer ≡ Err (located bytes q)))
      cases (Ok a) e = inl (a, e)
      cases (Err q) e = inr (bare q, e ∙ ap Err (numbered q e).1)

-- plain checking has one answer without a refusal
pub check_returned : (bytes : List ℕ) {answer : Result ⊤ Located} {number : ℕ} {location : List ℕ} → CheckTold answer number location →
    ((q : Located) → answer ≡ Err q → NumberedIn bytes q) → Returned (answer ≡ Ok tt) (λ q. answer ≡ Err (located bytes q)) number (slot location 0)
check_returned bytes {answer} told numbered =
    let r : Returned ((u : ⊤) × (answer ≡ Ok u)) (λ q. answer ≡ Err (located bytes q)) _ _ = answer_returned told bytes numbered in
    record { either = elim r.either [ inl g ↦ inl g.1 | inr w ↦ inr w ]; given = λ e. r.given (tt, e); refused = r.refused }

-- the dispatcher's, by the refusal in it
pub start_returned : (a : Result Start Located) {number place : ℕ} → number ≡ (start_tells a).number → place ≡ (start_tells a).place →
    ((q : Refusal) → start_refusal a ≡ some q → 1 ≤ q.number) →
    Returned ((s : Start) × (a ≡ Ok s)) (λ q. start_refusal a ≡ some q) number place
start_returned a {number} {place} n p numbered = record {
  either = cases a;
  given = λ g. told_as start_tells n p g.1;
  refused = λ q e. is_refusal q (numbered q e) (by_answer a n p q e);
}
  where
    cases : (b : Result Start Located) → ((s : Start) × (b ≡ Ok s)) ⊎ ((q : Refusal) × (start_refusal b ≡ some q))
    cases (Ok s) = inl (s, refl)
    cases (Err q) = inr (bare q, refl)

    by_answer : (b : Result Start Located) → number ≡ (start_tells b).number → place ≡ (start_tells b).place → (q : Refusal) → start_refusal b ≡ some q →
        (number ≡ q.number) × (place ≡ q.place)
    by_answer (Ok s) n p q e = clash (cc)
    by_answer (Err w) n p q e =
        let same : bare w ≡ q = cc in (n ∙ ap (λ (x : Refusal). x.number) same, p ∙ ap (λ (x : Refusal). x.place) same)
