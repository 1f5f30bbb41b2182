-- Records that keep their own rules, 17: the first fault of tables, as relations on their lists. Assumes nothing.
use mathlib.Core.Path.{◌≡◌, refl}
use mathlib.Core.List.{List, [], ◌∷◌}
use mathlib.Core.Option.{none}
use Prim.Native.Nat.{ℕ, suc, ◌+◌}
use lib.Dec.{leb}
use lib.ListN.{length}
use borrow.Author.Tests.{ltb-true, leb-true, lt-ltb, le-leb}
use Rattle.rules.specs.declared.Idle.{Idle}
use Rattle.rules.specs.declared.Inversion.{Inversion}
use Rattle.rules.specs.Refusals.{unless}
use Rattle.rules.specs.Tasks.{Set, both}
use Rattle.rules.specs.Setting.{Tables}
use Rattle.rules.specs.Irregularities.{at_most}
use Rattle.rules.specs.Judging.{idle_in_range, inversion_in_range, idles_fault, inversions_fault, records_fault}
use Rattle.rules.specs.Image.{head_count}
use Rattle.rules.proofs.Cases.{both_true, first_none, none_first, unless_none}
use Rattle.rules.proofs.Theory.{Rising, Pairs}
use Rattle.rules.proofs.Derived.{Every}

-- idle records without a fault rise
pub faultless_rising : (h place from : ℕ) (idles : List Idle) → idles_fault h place from idles ≡ none → Rising h from idles
faultless_rising h place from [] e = tt
faultless_rising h place from (r ∷ idles) e =
    let a = first_none (unless (both (leb from r.start) (idle_in_range h r)) 17 place) _ e in
    let b = both_true (leb from r.start) _ (unless_none _ 17 place a.0) in
    let c = both_true (leb 1 r.length) _ b.1 in
    (leb-true _ _ b.0, leb-true _ _ c.0, ltb-true _ _ c.1, faultless_rising h (suc place) (suc (r.start + r.length)) idles a.1)

-- and rising ones have none
pub rising_faultless : (h place from : ℕ) (idles : List Idle) → Rising h from idles → idles_fault h place from idles ≡ none
rising_faultless h place from [] z = refl
rising_faultless h place from (r ∷ idles) z =
    rw (le-leb _ _ z.0, le-leb _ _ z.1, lt-ltb _ _ z.2) (rising_faultless h (suc place) (suc (r.start + r.length)) idles z.3)

-- inversion records without a fault have rising pairs, and each is in its range
pub faultless_pairs : (ts : Set) (h place i k : ℕ) (p : List Inversion) → inversions_fault ts h place i k p ≡ none →
    Pairs i k p × Every (inversion_in_range ts h) p
faultless_pairs ts h place i k [] e = (tt, tt)
faultless_pairs ts h place i k (r ∷ p) e =
    let a = first_none (unless (both (at_most i k r.task r.job) (inversion_in_range ts h r)) 17 place) _ e in
    let b = both_true (at_most i k r.task r.job) _ (unless_none _ 17 place a.0) in
    let c = faultless_pairs ts h (suc place) r.task (suc r.job) p a.1 in
    ((b.0, c.0), (b.1, c.1))

-- and such records have none
pub pairs_faultless : (ts : Set) (h place i k : ℕ) (p : List Inversion) → Pairs i k p → Every (inversion_in_range ts h) p →
    inversions_fault ts h place i k p ≡ none
pairs_faultless ts h place i k [] z y = refl
pairs_faultless ts h place i k (r ∷ p) z y = rw (z.0, y.0) (pairs_faultless ts h (suc place) r.task (suc r.job) p z.1 y.1)

-- tables whose records keep their rules
pub record RecordsKeepRules (ts : Set) (h : ℕ) (X : Tables) : Type 0 where
  pub rising : Rising h 0 X.idles
  pub pairs : Pairs 0 0 X.inversions
  pub in_range : Every (inversion_in_range ts h) X.inversions

-- tables without a fault in their records keep their rules
pub records_keep : (ts : Set) (h : ℕ) (X : Tables) → records_fault ts h X ≡ none → RecordsKeepRules ts h X
records_keep ts h X e =
    let a = first_none (idles_fault h (head_count ts) 0 X.idles) _ e in
    let b = faultless_pairs ts h (head_count ts + length X.idles) 0 0 X.inversions a.1 in
    record { rising = faultless_rising h (head_count ts) 0 X.idles a.0; pairs = b.0; in_range = b.1 }

-- and tables that keep them have no fault in their records
pub keep_records : (ts : Set) (h : ℕ) (X : Tables) → RecordsKeepRules ts h X → records_fault ts h X ≡ none
keep_records ts h X k =
    none_first (idles_fault h (head_count ts) 0 X.idles) _ (rising_faultless h (head_count ts) 0 X.idles k.rising)
    (pairs_faultless ts h (head_count ts + length X.idles) 0 0 X.inversions k.pairs k.in_range)
