-- The place of 19: comparing tables finds the first record at which they differ, and nothing where they are the same. Assumes nothing.
use mathlib.Core.Path.{◌≡◌, refl, sym, ◌∙◌, ap}
use mathlib.Core.Logic.{◌↔◌}
use mathlib.Core.Bool.{Bool, true, false}
use mathlib.Core.List.{List, [], ◌∷◌, ◌++◌, map}
use mathlib.Core.Option.{Option, none, some}
use Prim.Native.Nat.{ℕ, suc, ◌+◌, ◌≤◌}
use native.Mathlib.Omega.{arith}
use native.Mathlib.Nat.{add-zero}
use lib.Dec.{eqb}
use lib.ListN.{take}
use lib.Seq.{take-take}
use borrow.Author.Tests.{eqb-true, eq-eqb}
use Rattle.rules.specs.declared.Idle.{Idle}
use Rattle.rules.specs.declared.Inversion.{Inversion}
use Rattle.rules.specs.declared.Refusal.{Refusal}
use Rattle.rules.specs.Refusals.{refusal, first, unless}
use Rattle.rules.specs.Setting.{Tables}
use Rattle.rules.specs.Judging.{same_idle, same_inversion, inversions_differ, records_differ, tables_differ}
use Rattle.rules.specs.Order.{Item, an_idle, an_inversion, items, FirstDifference}
use Rattle.rules.proofs.Cases.{by_bool, by_option, by_le, differ, clash, both_true, first_none, unless_none}
use Rattle.rules.proofs.Pairs.{inversion_path, idle_path}

-- the comparison of two records, ID or PV
same_item : Item → Item → Bool
same_item (an_idle r) (an_idle s) = same_idle r s
same_item (an_idle r) (an_inversion s) = false
same_item (an_inversion r) (an_idle s) = false
same_item (an_inversion r) (an_inversion s) = same_inversion r s

-- it passes for the same record alone
same_item_path : (r s : Item) → same_item r s ≡ true → r ≡ s
unfolding same_item
same_item_path (an_idle r) (an_idle s) b =
    let c = both_true (eqb r.start s.start) _ b in
    ap an_idle (idle_path r s (eqb-true _ _ c.0) (eqb-true _ _ c.1))
same_item_path (an_idle r) (an_inversion s) b = differ (sym b)
same_item_path (an_inversion r) (an_idle s) b = differ (sym b)
same_item_path (an_inversion r) (an_inversion s) b =
    let c = both_true (eqb r.task s.task) _ b in
    let d = both_true (eqb r.job s.job) _ c.1 in
    ap an_inversion (inversion_path r s (eqb-true _ _ c.0) (eqb-true _ _ d.0) (eqb-true _ _ d.1))

-- and for every record beside itself
item_same : (r : Item) → same_item r r ≡ true
unfolding same_item
item_same (an_idle r) = simp (eq-eqb r.start r.start refl, eq-eqb r.length r.length refl)
item_same (an_inversion r) = simp (eq-eqb r.task r.task refl, eq-eqb r.job r.job refl, eq-eqb r.delay r.delay refl)

-- the first place at which two lists of records differ, ID and PV records in one list
items_differ : ℕ → List Item → List Item → Option Refusal
items_differ place [] [] = none
items_differ place [] (s ∷ b) = some (refusal 19 place)
items_differ place (r ∷ a) [] = some (refusal 19 place)
items_differ place (r ∷ a) (s ∷ b) = first (unless (same_item r s) 19 place) (items_differ (suc place) a b)

-- PV records are compared as items
inversions_as_items : (place : ℕ) (p q : List Inversion) → inversions_differ place p q ≡ items_differ place (map an_inversion p) (map an_inversion q)
unfolding same_item items_differ
inversions_as_items place [] [] = refl
inversions_as_items place [] (s ∷ q) = refl
inversions_as_items place (r ∷ p) [] = refl
inversions_as_items place (r ∷ p) (s ∷ q) = rw (inversions_as_items (suc place) p q)

-- and so are whole tables
as_items : (place : ℕ) (k l : List Idle) (p q : List Inversion) →
    records_differ place k l p q ≡ items_differ place (map an_idle k ++ map an_inversion p) (map an_idle l ++ map an_inversion q)
unfolding same_item items_differ
as_items place [] [] p q = inversions_as_items place p q
as_items place [] (s ∷ l) [] q = refl
as_items place [] (s ∷ l) (r ∷ p) q = refl
as_items place (r ∷ k) [] p [] = refl
as_items place (r ∷ k) [] p (s ∷ q) = refl
as_items place (r ∷ k) (s ∷ l) p q = rw (as_items (suc place) k l p q)

-- where nothing is found the lists are the same
same_items : (place : ℕ) (a b : List Item) → items_differ place a b ≡ none → a ≡ b
unfolding items_differ
same_items place [] [] e = refl
same_items place [] (s ∷ b) e = clash (cc)
same_items place (r ∷ a) [] e = clash (cc)
same_items place (r ∷ a) (s ∷ b) e =
    let c = first_none (unless (same_item r s) 19 place) _ e in
    rw (same_item_path r s (unless_none (same_item r s) 19 place c.0), same_items (suc place) a b c.1)

-- m is the first index at which two lists of records differ
abbrev Differ : List Item → List Item → ℕ → Type 0
Differ a b m = (take m a ≡ take m b) × (take (suc m) a ≡ take (suc m) b → ⊥)

-- a refusal by 19 at that index, from a place on
abbrev Found : ℕ → List Item → List Item → Refusal → Type 0
Found place a b r = (m : ℕ) × (r ≡ refusal 19 (place + m)) × Differ a b m

-- two lists that differ at once
found_here : (place : ℕ) (a b : List Item) (r : Refusal) → refusal 19 place ≡ r → (take 1 a ≡ take 1 b → ⊥) → Found place a b r
found_here place a b r e there = (0, rw (add-zero, e), (refl, there))

-- two lists that differ behind the same first record
found_later : (place : ℕ) (d s : Item) (a b : List Item) (r : Refusal) → d ≡ s → Found (suc place) a b r → Found place (d ∷ a) (s ∷ b) r
found_later place d s a b r e (m, at, differs) =
    let same_place : suc place + m ≡ place + suc m = omega arith in
    (suc m, rw (← same_place) at, (rw (e, differs.0), λ q. differs.1 (cc)))

-- the comparison refuses at that index
differ_at : (place : ℕ) (a b : List Item) (r : Refusal) → items_differ place a b ≡ some r → Found place a b r
unfolding items_differ
differ_at place [] [] r e = clash (cc)
differ_at place [] (s ∷ b) r e = found_here place [] (s ∷ b) r (cc) (λ q. clash (cc))
differ_at place (d ∷ a) [] r e = found_here place (d ∷ a) [] r (cc) (λ q. clash (cc))
differ_at place (d ∷ a) (s ∷ b) r e =
    by_bool (same_item d s) (λ c. found_later place d s a b r (same_item_path d s c) (differ_at (suc place) a b r (rw c at e)))
    (λ c. let g : some (refusal 19 place) ≡ some r = rw c at e in
    found_here place (d ∷ a) (s ∷ b) r (cc)
    (λ q. let same : d ≡ s = cc in
    differ (sym (item_same s) ∙ (rw same at c))))

-- there is only one such index
differ_once : (a b : List Item) (m n : ℕ) → Differ a b m → Differ a b n → n ≤ m
differ_once a b m n (e, d) (e', d') =
    by_le n m (λ le. le) (λ gt. absurd (d (sym (take-take (suc m) n a gt) ∙ ap (take (suc m)) e' ∙ take-take (suc m) n b gt)))

-- PV records are known by their items
inversions_known : (p q : List Inversion) → map an_inversion p ≡ map an_inversion q → p ≡ q
inversions_known [] [] e = refl
inversions_known [] (s ∷ q) e = clash (cc)
inversions_known (r ∷ p) [] e = clash (cc)
inversions_known (r ∷ p) (s ∷ q) e =
    let rest : map an_inversion p ≡ map an_inversion q = cc in
    let same = inversions_known p q rest in
    cc

-- ID and PV records are known by their items
records_known : (k l : List Idle) (p q : List Inversion) → map an_idle k ++ map an_inversion p ≡ map an_idle l ++ map an_inversion q → (k ≡ l) × (p ≡ q)
records_known [] [] p q e = (refl, inversions_known p q e)
records_known [] (s ∷ l) [] q e = clash (cc)
records_known [] (s ∷ l) (r ∷ p) q e = clash (cc)
records_known (r ∷ k) [] p [] e = clash (cc)
records_known (r ∷ k) [] p (s ∷ q) e = clash (cc)
records_known (r ∷ k) (s ∷ l) p q e =
    let rest : map an_idle k ++ map an_inversion p ≡ map an_idle l ++ map an_inversion q = cc in
    let same = records_known k l p q rest in
    (cc, same.1)

-- tables are known by their items
pub items_known : (X Y : Tables) → items X ≡ items Y → X ≡ Y
items_known X Y e =
    let same = records_known X.idles Y.idles X.inversions Y.inversions e in
    λ i. record { idles = same.0 i; inversions = same.1 i }

module _ (place : ℕ) (X Y : Tables) where
  -- comparing tables compares their items
  compared_items : tables_differ place X Y ≡ items_differ place (items X) (items Y)
  compared_items = as_items place X.idles Y.idles X.inversions Y.inversions

  -- 19's place is the first record at which the tables differ
  pub differs_at : (r : Refusal) → tables_differ place X Y ≡ some r → (m : ℕ) × (r ≡ refusal 19 (place + m)) × FirstDifference X Y m
  differs_at r e =
      let (m, at, differs) = differ_at place (items X) (items Y) r (sym compared_items ∙ e) in
      (m, at, record { before = differs.0; there = differs.1 })

  -- where nothing is found the tables are the same, and the same tables show no difference
  pub no_difference : tables_differ place X Y ≡ none ↔ X ≡ Y
  no_difference = (
    λ e. items_known X Y (same_items place (items X) (items Y) (sym compared_items ∙ e)),
    λ q. by_option (tables_differ place X Y) (λ e. e)
        (λ r e. let (m, at, d) = differs_at r e in absurd (d.there (ap (λ (Z : Tables). take (suc m) (items Z)) q))),
  )

  -- the first difference is found
  pub difference_found : (m : ℕ) → FirstDifference X Y m → tables_differ place X Y ≡ some (refusal 19 (place + m))
  difference_found m d =
      by_option (tables_differ place X Y) (λ e. absurd (d.there (ap (λ (Z : Tables). take (suc m) (items Z)) (no_difference.0 e))))
      (λ r e. let (n, at, c) = differs_at r e in
      let le : n ≤ m = differ_once (items X) (items Y) m n (d.before, d.there) (c.before, c.there) in
      let ge : m ≤ n = differ_once (items X) (items Y) n m (c.before, c.there) (d.before, d.there) in
      let same : n ≡ m = omega arith in
      e ∙ ap some at ∙ rw same)
