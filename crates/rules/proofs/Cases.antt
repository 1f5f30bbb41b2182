-- Case splits that keep the equation, and what follows from equal answers. Assumes nothing.
use mathlib.Core.Path.{◌≡◌, refl, sym}
use mathlib.Core.Bool.{Bool, true, false, true≢false}
use mathlib.Core.Option.{Option, none, some}
use Prim.Native.Nat.{ℕ, zero, suc, ◌≤◌, ◌<◌}
use native.Mathlib.Omega.{arith}
use lib.Dec.{leb, eqb}
use borrow.Author.Tests.{leb-true, leb-false, eqb-true, eqb-false}
use Rattle.rules.specs.declared.Refusal.{Refusal}
use Rattle.rules.specs.Refusals.{Judged, gives, refuses, or_else, then, first, unless}
use Rattle.rules.specs.Tasks.{both}
use Rattle.rules.specs.Setting.{Act, run, wait}
use Rattle.rules.specs.Decision.{Choice, idle_for, start_task, wait_till, Effect, idles_till, starts, waits_till, stops}

pub by_bool {ℓ} : {A : Type ℓ} (b : Bool) → (b ≡ true → A) → (b ≡ false → A) → A
by_bool true p q = p refl
by_bool false p q = q refl

module _ {A : Type 0} where
  pub differ : true ≡ false → A
  differ e = absurd (true≢false e)

  -- two constructors are never equal: a path from 0 to 1 comes from `cc`
  pub clash : ◌≡◌ {A = ℕ} 0 1 → A
  clash e = absurd (omega arith)

  pub by_act : (a : Act) → ((i : ℕ) → a ≡ run i → A) → ((r : ℕ) → a ≡ wait r → A) → A
  by_act (run i) p q = p i refl
  by_act (wait r) p q = q r refl

  pub by_option : {B : Type 0} (o : Option B) → (o ≡ none → A) → ((d : B) → o ≡ some d → A) → A
  by_option none p q = p refl
  by_option (some d) p q = q d refl

  pub by_eq : (a b : ℕ) → (a ≡ b → A) → ((a ≡ b → ⊥) → A) → A
  by_eq a b p q = by_bool (eqb a b) (λ e. p (eqb-true a b e)) (λ e. q (eqb-false a b e))

  pub by_pair : (a i b k : ℕ) → (a ≡ i → b ≡ k → A) → ((a ≡ i → b ≡ k → ⊥) → A) → A
  by_pair a i b k p q = by_eq a i (λ u. by_eq b k (λ w. p u w) (λ w. q (λ _ z. w z))) (λ u. q (λ z _. u z))

  pub by_le : (a b : ℕ) → (a ≤ b → A) → (b < a → A) → A
  by_le a b p q = by_bool (leb a b) (λ e. p (leb-true a b e)) (λ e. q (leb-false a b e))

  pub by_choice : (c : Choice) → ((l : ℕ) → c ≡ idle_for l → A) → ((i : ℕ) → c ≡ start_task i → A) → ((r : ℕ) → c ≡ wait_till r → A) → A
  by_choice (idle_for l) p q r = p l refl
  by_choice (start_task i) p q r = q i refl
  by_choice (wait_till w) p q r = r w refl

  pub by_step : (s : Effect) → ((r : ℕ) → s ≡ idles_till r → A) → ((i t : ℕ) → s ≡ starts i t → A) → ((r : ℕ) → s ≡ waits_till r → A) →
      ((number : ℕ) → s ≡ stops number → A) → A
  by_step (idles_till r) p q u v = p r refl
  by_step (starts i t) p q u v = q i t refl
  by_step (waits_till r) p q u v = u r refl
  by_step (stops number) p q u v = v number refl

  pub by_nat : (n : ℕ) → (n ≡ 0 → A) → ((m : ℕ) → n ≡ suc m → A) → A
  by_nat zero p q = p refl
  by_nat (suc m) p q = q m refl

  pub by_judged : {B : Type 0} (z : Judged B) → ((b : B) → z ≡ gives b → A) → ((r : Refusal) → z ≡ refuses r → A) → A
  by_judged (gives b) p q = p b refl
  by_judged (refuses r) p q = q r refl

-- what a joined test or a joined fault says
pub both_true : (a b : Bool) → both a b ≡ true → (a ≡ true) × (b ≡ true)
both_true true b h = (refl, h)
both_true false b h = differ (sym h)

pub both_in : (a b : Bool) → a ≡ true → b ≡ true → both a b ≡ true
both_in a b u v = rw (u, v)

pub first_none : (a b : Option Refusal) → first a b ≡ none → (a ≡ none) × (b ≡ none)
first_none none b h = (refl, h)
first_none (some r) b h = clash (cc)

pub none_first : (a b : Option Refusal) → a ≡ none → b ≡ none → first a b ≡ none
none_first none b h k = k
none_first (some r) b h k = h

pub unless_none : (b : Bool) (number place : ℕ) → unless b number place ≡ none → b ≡ true
unless_none true number place h = refl
unless_none false number place h = clash (cc)

-- what judging that gives a value has passed
pub or_else_gives : {A : Type 0} (o : Option Refusal) (z : Judged A) (a : A) → or_else o z ≡ gives a → (o ≡ none) × (z ≡ gives a)
or_else_gives none z a h = (refl, h)
or_else_gives (some r) z a h = clash (cc)

pub or_else_none : {A : Type 0} (o : Option Refusal) (z : Judged A) → o ≡ none → or_else o z ≡ z
or_else_none none z h = refl
or_else_none (some r) z h = clash (cc)

pub then_gives : {A B C : Type 0} (z : Judged A) (next : A → Judged B) (b : B) → then z next ≡ gives b → ((a : A) → z ≡ gives a → next a ≡ gives b → C) → C
then_gives (gives a) next b h go = go a refl h
then_gives (refuses r) next b h go = clash (cc)

pub gives_in : {A : Type 0} (a b : A) → gives a ≡ gives b → a ≡ b
gives_in a b e = cc
