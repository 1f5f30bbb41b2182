-- Scans of slots: what they find. Assumes nothing.
use mathlib.Core.Path.{◌≡◌, refl, ◌∙◌, ap}
use mathlib.Core.Bool.{Bool}
use mathlib.Core.List.{List}
use Prim.Native.Nat.{ℕ, zero, suc, ◌+◌, min, ◌≤◌, ◌<◌}
use native.Mathlib.Omega.{arith}
use native.Mathlib.Numerals.{add-one}
use lib.ListN.{length, get_or, take}
use lib.Seq.{length-take-le}
use Rattle.std.proofs.Common.{get_or-take}
use borrow.Author.Tests.{lt-ltb, le-ltb, ltb-true, ltb-false}
use Rattle.std.specs.Prelude.{not, nat_lt, MatchOption, Some, None}
use Rattle.std.specs.List.{position, position_or_len}
use Rattle.std.proofs.lemmas.List.Sums.{prefix_len-le-length, position_or_len_is, fails_before_first, passes_at_first}
use Rattle.fields.specs.Body.{tail₀}
use Rattle.rules.specs.Priority.{slot}
use Rattle.rules.proofs.Cases.{by_le}
use Rattle.rules.proofs.Arrays.{slot_element}
use Rattle.sets.specs.Scans.{least_of}

-- the first of numbers that is below a limit
module _ (h : ℕ) (xs : List ℕ) where
  -- one that is, behind others that are not
  pub found_at : (i : ℕ) → i < length xs → get_or xs i 0 < h → ((k : ℕ) → k < i → h ≤ get_or xs k 0) → position (λ r. nat_lt r h) xs ≡ Some i
  found_at i l here before =
      rw (position_or_len_is (λ (r : ℕ). nat_lt r h) xs i 0 (omega arith) (λ k b. le-ltb _ h (before k b)) (λ _. lt-ltb _ h here), lt-ltb i (length xs) l)

  -- where none is, none is found
  pub found_none : ((k : ℕ) → k < length xs → h ≤ get_or xs k 0) → position (λ r. nat_lt r h) xs ≡ None
  found_none before =
      rw (
        position_or_len_is (λ (r : ℕ). nat_lt r h) xs (length xs) 0 (omega arith) (λ k b. le-ltb _ h (before k b)) (λ l. absurd (omega arith)),
        le-ltb (length xs) (length xs) (omega arith),
      )

module _ (n h : ℕ) (rs : List ℕ) (room : n ≤ length rs) where
  -- is a number below the limit
  abbrev pub below : ℕ → Bool
  below r = nat_lt r h

  -- so many of the first n numbers, from the front on, are not
  abbrev pub passed : ℕ
  passed = position_or_len below (take n rs)

  -- the first that is stands behind these, if one does
  pub first_told : MatchOption (position below (take n rs)) (passed ≡ n) (λ i. (i < n) × (i ≡ passed))
  first_told =
      let size = length-take-le n rs room in
      by_le n passed (λ l. rw (size, le-ltb passed n l) (omega (arith, size, prefix_len-le-length (λ (r : ℕ). not (below r)) (take n rs))))
      (λ l. rw (size, lt-ltb passed n l) (l, refl))

  -- none that is passed is below it
  pub none_before : (k : ℕ) → k < passed → h ≤ slot rs k
  none_before k l =
      let inside : k < n = omega (arith, length-take-le n rs room, prefix_len-le-length (λ (r : ℕ). not (below r)) (take n rs)) in
      rw (slot_element rs k, ← get_or-take n rs k 0 inside) (ltb-false _ h (fails_before_first below (take n rs) k 0 l))

  -- the next one is
  pub found_below : passed < n → slot rs passed < h
  found_below l =
      let size = length-take-le n rs room in
      rw (slot_element rs passed, ← get_or-take n rs passed 0 l) (ltb-true _ h (passes_at_first below (take n rs) 0 (omega (arith, size))))

-- the least of one number more
pub least_more : (m bound : ℕ) (numbers : List ℕ) → least_of (m + 1) bound numbers ≡ min (least_of m bound numbers) (get_or numbers m 0)
least_more m bound numbers =
    ap (λ (k : ℕ). least_of k bound numbers) (add-one m) ∙ least_suc m numbers ∙ ap (min (least_of m bound numbers)) (slot_element numbers m)
  where
    -- with its slot
    least_suc : (k : ℕ) (us : List ℕ) → least_of (suc k) bound us ≡ min (least_of k bound us) (slot us k)
    least_suc zero us = omega arith
    least_suc (suc k) us = omega (arith, least_suc k (tail₀ us))
