-- The first of several tests that refuses: how the laws of single tests join, and what it means that none refuses. Assumes nothing.
use mathlib.Core.Path.{◌≡◌, refl, sym, ◌∙◌}
use mathlib.Core.Bool.{Bool, true, false}
use mathlib.Core.List.{List, [], ◌∷◌, ◌++◌}
use mathlib.Core.Option.{Option, none, some}
use Prim.Native.Nat.{ℕ, zero, suc, ◌+◌, ◌≤◌, ◌<◌}
use native.Mathlib.Omega.{arith}
use Rattle.rules.specs.declared.Refusal.{Refusal}
use Rattle.rules.specs.Refusals.{first, unless, Test, test, First, no_test, in_turn, holds, passes}
use Rattle.rules.specs.Timetable.{pick}
use Rattle.rules.specs.Judging.{numbered}
use Rattle.rules.proofs.Cases.{by_bool, by_eq, differ, clash}

-- no condition holds
abbrev pub NoneHolds : List Test → Type 0
NoneHolds [] = Unit {0}
NoneHolds (t ∷ tests) = (t.refuses_when → ⊥) × NoneHolds tests

-- where no test refuses, no condition holds
pub none_holds : {tests : List Test} {o : Option Refusal} → First tests o → o ≡ none → NoneHolds tests
none_holds no_test e = tt
none_holds (holds c) e = clash (cc)
none_holds (passes n rest) e = (n, none_holds rest e)

-- where no condition holds, no test refuses
pub none_refuses : {tests : List Test} {o : Option Refusal} → First tests o → NoneHolds tests → o ≡ none
none_refuses no_test z = refl
none_refuses (holds c) z = absurd (z.0 c)
none_refuses (passes n rest) z = none_refuses rest z.1

-- no condition of two lists of tests holds, and none of each
pub none_holds_both : (a b : List Test) → NoneHolds (a ++ b) → NoneHolds a × NoneHolds b
none_holds_both [] b z = (tt, z)
none_holds_both (t ∷ a) b z = let y = none_holds_both a b z.1 in ((z.0, y.0), y.1)

-- and back
pub both_none_hold : (a b : List Test) → NoneHolds a → NoneHolds b → NoneHolds (a ++ b)
both_none_hold [] b y z = z
both_none_hold (t ∷ a) b y z = (y.0, both_none_hold a b y.1 z)

-- tests have one first refusal
pub one_first : {tests : List Test} {a b : Option Refusal} → First tests a → First tests b → a ≡ b
one_first no_test no_test = refl
one_first (holds c) (holds d) = refl
one_first (holds c) (passes n q) = absurd (n c)
one_first (passes n p) (holds d) = absurd (n d)
one_first (passes n p) (passes m q) = one_first p q

-- later tests count where none of the earlier ones refuses, and may then be judged by that
pub first_then : {a b : List Test} {o u : Option Refusal} → First a o → (NoneHolds a → First b u) → First (a ++ b) (first o u)
first_then no_test next = next tt
first_then (holds c) next = holds c
first_then (passes n rest) next = passes n (first_then rest (λ z. next (n, z)))

-- a test whose condition is decided
pub first_unless : (b : Bool) (number place : ℕ) {condition : Type 0} → (b ≡ true → condition → ⊥) → (b ≡ false → condition) →
    First (test number place condition ∷ []) (unless b number place)
first_unless true number place fails met = passes (fails refl) no_test
first_unless false number place fails met = holds (met refl)

-- a rule that has a test: refused where it is broken, and kept where it is not broken
module _ (b : Bool) {rule : Type 0} (kept : b ≡ true → rule) (passed : rule → b ≡ true) where
  pub first_rule : (number place : ℕ) → First (test number place (rule → ⊥) ∷ []) (unless b number place)
  first_rule number place = first_unless b number place (λ e c. c (kept e)) (λ e r. differ (sym (passed r) ∙ e))

  pub not_broken : ((rule → ⊥) → ⊥) → rule
  not_broken n = by_bool b kept (λ e. absurd (n (λ r. differ (sym (passed r) ∙ e))))

-- a rule whose number comes before those of other rules
pub first_pick : (b : Bool) (others number place : ℕ) {condition : Type 0} {tests : List Test} → (b ≡ true → condition → ⊥) → (b ≡ false → condition) →
    (b ≡ true → First tests (numbered others place)) →
    First (test (suc number) place condition ∷ tests) (numbered (pick b others (suc number)) place)
first_pick true others number place fails met next = passes (fails refl) (next refl)
first_pick false others number place fails met next = holds (met refl)

-- of tests in turn none holds exactly where none holds at any place
module _ (tests : ℕ → List Test) where
  pub none_holds_at : (j left : ℕ) → NoneHolds (in_turn tests j left) → (k : ℕ) → j ≤ k → k < j + left → NoneHolds (tests k)
  none_holds_at j zero z k lo hi = absurd (omega arith)
  none_holds_at j (suc left) z k lo hi =
      let y = none_holds_both (tests j) (in_turn tests (suc j) left) z in
      by_eq k j (λ e. rw e y.0) (λ n. none_holds_at (suc j) left y.1 k (omega arith) (omega arith))

  pub none_holds_in_turn : (j left : ℕ) → ((k : ℕ) → j ≤ k → k < j + left → NoneHolds (tests k)) → NoneHolds (in_turn tests j left)
  none_holds_in_turn j zero each = tt
  none_holds_in_turn j (suc left) each =
      both_none_hold (tests j) (in_turn tests (suc j) left) (each j (omega arith) (omega arith))
      (none_holds_in_turn (suc j) left (λ k lo hi. each k (omega arith) (omega arith)))

-- every test's refusal has a property
abbrev pub EachRefusal : (Refusal → Type 0) → List Test → Type 0
EachRefusal P [] = Unit {0}
EachRefusal P (t ∷ tests) = P t.with_refusal × EachRefusal P tests

module _ (P : Refusal → Type 0) where
  -- of two lists of tests too
  pub each_of_both : (a b : List Test) → EachRefusal P a → EachRefusal P b → EachRefusal P (a ++ b)
  each_of_both [] b y z = z
  each_of_both (t ∷ a) b y z = (y.0, each_of_both a b y.1 z)

  -- and of tests in turn, where it is so at every place
  pub each_in_turn : (tests : ℕ → List Test) (j left : ℕ) → ((k : ℕ) → j ≤ k → k < j + left → EachRefusal P (tests k)) → EachRefusal P (in_turn tests j left)
  each_in_turn tests j zero each = tt
  each_in_turn tests j (suc left) each =
      each_of_both (tests j) (in_turn tests (suc j) left) (each j (omega arith) (omega arith))
      (each_in_turn tests (suc j) left (λ k lo hi. each k (omega arith) (omega arith)))

  -- then so has the first that comes
  pub first_has : {tests : List Test} {o : Option Refusal} → First tests o → EachRefusal P tests → (r : Refusal) → o ≡ some r → P r
  first_has no_test z r e = clash (cc)
  first_has (holds {t = t} c) z r e = let same : t.with_refusal ≡ r = cc in rw (← same) z.0
  first_has (passes n f) z r e = first_has f z.1 r e
