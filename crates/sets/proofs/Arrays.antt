-- An array of numbers that is filled slot by slot, and what stands in its slots. Assumes nothing.
use mathlib.Core.Path.{◌≡◌, refl, sym, ◌∙◌}
use mathlib.Core.List.{List, [], ◌∷◌, ◌++◌}
use Prim.Native.Nat.{ℕ, zero, suc, ◌+◌, ◌-◌, ◌≤◌, ◌<◌}
use native.Mathlib.Omega.{arith}
use lib.ListN.{length, set, replicate, length-set}
use lib.Seq.{get_or-set_same, get_or-set_other, ext_get_or}
use Rattle.rules.specs.Priority.{slot}
use Rattle.rules.proofs.Cases.{by_eq}
use Rattle.rules.proofs.Arrays.{slot_element, slot_zeros}
use Rattle.sets.specs.Kept.{Filled}

-- arrays of one length with the same in every slot are equal
pub same_slots : (x y : List ℕ) → length x ≡ length y → ((i : ℕ) → i < length x → slot x i ≡ slot y i) → x ≡ y
same_slots x y e same = ext_get_or 0 x y e (λ i l. sym (slot_element x i) ∙ same i l ∙ slot_element y i)

-- slots behind numbers that zeros follow are 0
pub zeros_behind : (x : List ℕ) (many i : ℕ) → length x ≤ i → slot (x ++ replicate many 0) i ≡ 0
zeros_behind [] many i l = slot_zeros many i
zeros_behind (a ∷ x) many zero l = absurd (omega arith)
zeros_behind (a ∷ x) many (suc i) l = zeros_behind x many i (omega arith)

-- at first nothing is filled
pub filled_none : (before : List ℕ) (value : ℕ → ℕ) (from : ℕ) → Filled before value from from before
filled_none before value from = record { slots = refl; inside = λ i l m. absurd (omega arith); below = λ i l. refl; above = λ i l. refl }

-- a value stored in a slot leaves the others
stored_other : (x : List ℕ) (k v i : ℕ) → (i ≡ k → ⊥) → slot (set x k v) i ≡ slot x i
stored_other x k v i n = slot_element (set x k v) i ∙ get_or-set_other x k i v 0 n ∙ sym (slot_element x i)

-- and stands in its slot
stored_same : (x : List ℕ) (k v : ℕ) → k < length x → slot (set x k v) k ≡ v
stored_same x k v l = slot_element (set x k v) k ∙ get_or-set_same x k v 0 l

module _ {before now : List ℕ} {value : ℕ → ℕ} {from to : ℕ} (f : Filled before value from to now) (v : ℕ) where
  -- with a value stored behind them, one slot more is filled
  pub filled_more : from ≤ to → to < length before → v ≡ value to → Filled before value from (to + 1) (set now to v)
  filled_more l m e = record {
    slots = length-set now to v ∙ f.slots;
    inside = λ i a b.
        by_eq i to (λ u. rw u (stored_same now to v (omega (arith, f.slots)) ∙ e)) (λ u. stored_other now to v i u ∙ f.inside i a (omega arith));
    below = λ i a. stored_other now to v i (λ u. omega arith) ∙ f.below i a;
    above = λ i a. stored_other now to v i (λ u. omega arith) ∙ f.above i (omega arith);
  }

  -- and so with one in front of them
  pub filled_front : 0 < from → from ≤ to → to ≤ length before → v ≡ value (from - 1) → Filled before value (from - 1) to (set now (from - 1) v)
  filled_front p l m e = record {
    slots = length-set now (from - 1) v ∙ f.slots;
    inside = λ i a b.
        by_eq i (from - 1) (λ u. rw u (stored_same now (from - 1) v (omega (arith, f.slots)) ∙ e))
        (λ u. stored_other now (from - 1) v i u ∙ f.inside i (omega arith) b);
    below = λ i a. stored_other now (from - 1) v i (λ u. omega arith) ∙ f.below i (omega arith);
    above = λ i a. stored_other now (from - 1) v i (λ u. omega arith) ∙ f.above i a;
  }
