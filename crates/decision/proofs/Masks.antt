-- The mask of the numbers that pass a test: its lowest bit is the lowest of them, and what setting and clearing a bit come to. Assumes nothing.
use mathlib.Core.Path.{◌≡◌, refl, sym, ◌∙◌, ap, ap₂}
use mathlib.Core.Bool.{Bool, true, false}
use mathlib.Core.Option.{Option, none, some}
use Prim.Native.Nat.{ℕ, zero, suc, ◌+◌, ◌*◌, ◌-◌, ◌/◌, ◌%◌, ◌^◌, ◌≤◌, ◌<◌}
use native.Mathlib.Nat.{add-zero, zero-add, add-suc, suc-add, one-mul, pow-suc, mod-eq_of_lt}
use native.Mathlib.Omega.{arith}
use lib.Dec.{eqb}
use lib.Bits.{bit_and, and_block, and_zero_l, and_zero_r, and_mask, and_self, or_shifted}
use lib.Count.{count_trailing_zeros}
use lib.Pow.{pow_mono, pow-lt, pow_pos}
use borrow.Author.Tests.{eq-eqb, ne_eqb}
use Rattle.rules.specs.Timetable.{pick}
use Rattle.rules.specs.Setting.{lowest_from, lowest}
use Rattle.rules.proofs.Cases.{by_bool, by_option, by_eq, by_le, clash, differ}
use Rattle.rules.proofs.Lowest.{lowest_from_some, lowest_from_below, below_lowest}
use Rattle.decision.specs.Waiting.{bit, mask_from, mask_of, set_bit, clear_bit, task_number}

-- a bit behind doubled ones is the parity
bit_parity : (m : ℕ) (b : Bool) → (m * 2 + bit b) % 2 ≡ bit b
bit_parity m true = omega arith
bit_parity m false = omega arith

-- and the half is the ones without it
bit_half : (m : ℕ) (b : Bool) → (m * 2 + bit b) / 2 ≡ m
bit_half m true = omega arith
bit_half m false = omega arith

-- a bit is below 2
bit_below : (b : Bool) → bit b < 2 ^ 1
bit_below true = omega arith
bit_below false = omega arith

-- and it stays beside a set one
bit_and_one : (b : Bool) → bit_and (bit b) 1 ≡ bit b
bit_and_one true = refl
bit_and_one false = refl

-- no bit of 0 is set
pub zero_empty : (k : ℕ) → count_trailing_zeros k 0 ≡ k
unfolding count_trailing_zeros
zero_empty zero = refl
zero_empty (suc k) = ap suc (zero_empty k)

-- the lowest of the numbers from i on is at or above i
lowest_from_above : (many i : ℕ) (p : ℕ → Bool) (j : ℕ) → lowest_from many i p ≡ some j → i ≤ j
lowest_from_above zero i p j e = clash (cc)
lowest_from_above (suc many) i p j e =
    by_bool (p i) (λ b. let g : some i ≡ some j = rw (b, lowest_from) at e in let q : i ≡ j = cc in omega arith)
    (λ b. omega (arith, lowest_from_above many (suc i) p j (rw (b, lowest_from) at e)))

-- a number's place among those from i on, k for none
abbrev place_from : ℕ → ℕ → Option ℕ → ℕ
place_from k i none = k
place_from k i (some j) = j - i

-- one place more, where the first does not pass
place_more : (k i : ℕ) (o : Option ℕ) → ((j : ℕ) → o ≡ some j → suc i ≤ j) → suc (place_from k (suc i) o) ≡ place_from (suc k) i o
place_more k i none above = refl
place_more k i (some j) above = omega (arith, above j refl)

-- the lowest bit of the mask is the lowest that passes
lowest_bit : (k many i : ℕ) (p : ℕ → Bool) → many ≤ k → count_trailing_zeros k (mask_from many i p) ≡ place_from k i (lowest_from many i p)
unfolding count_trailing_zeros mask_from
lowest_bit k zero i p h = zero_empty k
lowest_bit zero (suc many) i p h = absurd (omega arith)
lowest_bit (suc k) (suc many) i p h =
    let rest = lowest_bit k many (suc i) p (omega arith) in
    by_bool (p i) (λ b. rw (bit_parity, bit_half, b, lowest_from) (omega arith))
    (λ b. rw (bit_parity, bit_half, b, lowest_from)
    (ap suc rest ∙ place_more k i (lowest_from many (suc i) p) (lowest_from_above many (suc i) p)))

-- so it is that task's number
pub mask_lowest : (many : ℕ) (p : ℕ → Bool) → many ≤ 16 → count_trailing_zeros 16 (mask_of many p) ≡ task_number (lowest many p)
mask_lowest many p h = lowest_bit 16 many 0 p h ∙ as_number (lowest many p)
  where
    -- a place from 0 on is the number
    as_number : (o : Option ℕ) → place_from 16 0 o ≡ task_number o
    as_number none = refl
    as_number (some j) = omega arith

-- a mask of so many bits
mask_below : (many i : ℕ) (p : ℕ → Bool) → mask_from many i p < 2 ^ many
unfolding mask_from
mask_below zero i p = omega arith
mask_below (suc many) i p =
    by_bool (p i) (λ b. rw b (omega (arith, mask_below many (suc i) p, pow-suc 2 many)))
    (λ b. rw b (omega (arith, mask_below many (suc i) p, pow-suc 2 many)))

-- and of more bits
pub mask_small : (many i : ℕ) (p : ℕ → Bool) (k : ℕ) → many ≤ k → mask_from many i p < 2 ^ k
mask_small many i p k h = omega (arith, mask_below many i p, pow_mono {i = many} {j = k} h)

-- from one number further down on, the mask is doubled and has that number's bit
mask_down : (n i : ℕ) (p : ℕ → Bool) → i < n → mask_from (n - i) i p ≡ mask_from (n - suc i) (suc i) p * 2 + bit (p i)
unfolding mask_from
mask_down n i p h = let one_more : n - i ≡ suc (n - suc i) = omega arith in rw one_more

-- the lowest bit of a doubled mask is free to be set
doubled_set : (m : ℕ) → set_bit (m * 2) 0 ≡ m * 2 + 1
doubled_set m = or_shifted m 1 1 (omega arith)

-- where that number passes, its bit is set
pub mask_set : (n i : ℕ) (p : ℕ → Bool) → i < n → p i ≡ true → set_bit (mask_from (n - suc i) (suc i) p * 2) 0 ≡ mask_from (n - i) i p
mask_set n i p h e = doubled_set (mask_from (n - suc i) (suc i) p) ∙ sym (mask_down n i p h ∙ rw e)

-- where it does not, doubling is all
pub mask_kept : (n i : ℕ) (p : ℕ → Bool) → i < n → p i ≡ false → mask_from (n - suc i) (suc i) p * 2 ≡ mask_from (n - i) i p
mask_kept n i p h e = sym (mask_down n i p h ∙ rw e (add-zero (mask_from (n - suc i) (suc i) p * 2)))

-- where none passes, the mask is 0
mask_none : (many i : ℕ) (p : ℕ → Bool) → lowest_from many i p ≡ none → mask_from many i p ≡ 0
unfolding mask_from
mask_none zero i p e = refl
mask_none (suc many) i p e =
    by_bool (p i) (λ b. let g : some i ≡ none = rw (b, lowest_from) at e in clash (cc))
    (λ b. rw (b, mask_none many (suc i) p (rw (b, lowest_from) at e)))

-- tests that agree on the numbers in question have the same mask
mask_same : (many i : ℕ) (p q : ℕ → Bool) → ((j : ℕ) → i ≤ j → p j ≡ q j) → mask_from many i p ≡ mask_from many i q
unfolding mask_from
mask_same zero i p q h = refl
mask_same (suc many) i p q h = rw (h i (omega arith), mask_same many (suc i) p q (λ j l. h j (omega arith)))

-- a test that one number no longer passes
abbrev pub other_than : ℕ → (ℕ → Bool) → ℕ → Bool
other_than i p j = pick (eqb j i) false (p j)

-- it does not
pub same_fails : (i : ℕ) (p : ℕ → Bool) → other_than i p i ≡ false
same_fails i p = rw (eq-eqb i i refl)

-- the others stay
pub other_kept : (i : ℕ) (p : ℕ → Bool) (j : ℕ) → (j ≡ i → ⊥) → other_than i p j ≡ p j
other_kept i p j n = rw (ne_eqb j i n)

-- clearing a bit of k takes its number out
mask_without : (k many i j : ℕ) (p : ℕ → Bool) → many ≤ k → j < k →
    bit_and (mask_from many i p) (2 ^ k - 1 - 2 ^ j) ≡ mask_from many i (other_than (i + j) p)
unfolding mask_from
mask_without k zero i j p h l = and_zero_l (2 ^ k - 1 - 2 ^ j)
mask_without zero (suc many) i j p h l = absurd (omega arith)
mask_without (suc k) (suc many) i zero p h l =
    let cut : 2 ^ suc k - 1 - 2 ^ 0 ≡ (2 ^ k - 1) * 2 + 0 = omega (arith, pow-suc 2 k, pow_pos k) in
    let rest : ℕ = mask_from many (suc i) p in
    let few : rest < 2 ^ k = omega (arith, mask_below many (suc i) p, pow_mono {i = many} {j = k} (omega arith)) in
    let small : rest % 2 ^ k ≡ rest = mod-eq_of_lt few in
    let kept : rest ≡ mask_from many (suc i) (other_than i p) =
    mask_same many (suc i) p (other_than i p) (λ j a. sym (other_kept i p j (λ e. omega arith))) in
    rw (cut, add-zero i, same_fails i p)
    (and_block 1 rest (2 ^ k - 1) (bit (p i)) 0 (bit_below (p i)) (bit_below false)
    ∙ rw (and_zero_r, and_mask, small) (ap (λ (m : ℕ). m * 2 + 0) kept))
mask_without (suc k) (suc many) i (suc j) p h l =
    let below : 2 ^ j < 2 ^ k = pow-lt {i = j} {j = k} (omega arith) in
    let cut : 2 ^ suc k - 1 - 2 ^ suc j ≡ (2 ^ k - 1 - 2 ^ j) * 2 + 1 = omega (arith, pow-suc 2 k, pow-suc 2 j) in
    let rest = mask_without k many (suc i) j p (omega arith) (omega arith) in
    rw (cut, add-suc i j, other_kept (suc (i + j)) p i (λ e. omega arith))
    (and_block 1 (mask_from many (suc i) p) (2 ^ k - 1 - 2 ^ j) (bit (p i)) 1 (bit_below (p i)) (bit_below true) ∙ rw (bit_and_one, rest, suc-add))

-- so it does of a mask of 16
pub mask_clear : (many i : ℕ) (p : ℕ → Bool) → many ≤ 16 → i < 16 → clear_bit (mask_of many p) i ≡ mask_of many (other_than i p)
mask_clear many i p h l = rw (zero-add i) at (mask_without 16 many 0 i p h l)

-- the lowest of the others, by a mask whose bit is cleared
pub lowest_other : (many i : ℕ) (p : ℕ → Bool) → many ≤ 16 → i < 16 →
    count_trailing_zeros 16 (clear_bit (mask_of many p) i) ≡ task_number (lowest many (other_than i p))
lowest_other many i p h l = ap (count_trailing_zeros 16) (mask_clear many i p h l) ∙ mask_lowest many (other_than i p) h

-- the lowest of the others is above the lowest
other_above : (many : ℕ) (p : ℕ → Bool) (i j : ℕ) → lowest many p ≡ some i → lowest many (other_than i p) ≡ some j → i < j
other_above many p i j e g =
    let passes : other_than i p j ≡ true = lowest_from_some many 0 (other_than i p) j g in
    by_eq j i (λ q. differ (sym (rw q at passes) ∙ same_fails i p))
    (λ q. by_le j i
    (λ below. differ (sym passes ∙ other_kept i p j q ∙ below_lowest many 0 p i e j (omega arith) (omega arith)))
    (λ above. above))

-- a mask, by its bits
module _ (many : ℕ) (p : ℕ → Bool) (few : many ≤ 16) {mask : ℕ} (is_mask : mask ≡ mask_of many p) where
  -- its lowest bit, as a number
  pub lowest_number : count_trailing_zeros 16 mask ≡ task_number (lowest many p)
  lowest_number = ap (count_trailing_zeros 16) is_mask ∙ mask_lowest many p few

  -- where it is 0, none passes
  pub mask_empty : mask ≡ 0 → lowest many p ≡ none
  mask_empty e =
      by_option (lowest many p) (λ g. g)
      (λ j g.
      let at-16 : 16 ≡ j = sym (zero_empty 16) ∙ ap (count_trailing_zeros 16) (sym e) ∙ lowest_number ∙ ap task_number g in
      absurd (omega (arith, lowest_from_below many 0 p j g)))

  -- where it is not, its lowest bit is the lowest that passes
  pub mask_some : (mask ≡ 0 → ⊥) → {i : ℕ} → i ≡ count_trailing_zeros 16 mask → lowest many p ≡ some i
  mask_some full {i} is_lowest =
      by_option (lowest many p) (λ g. absurd (full (is_mask ∙ mask_none many 0 p g)))
      (λ j g. let same : j ≡ i = sym (is_lowest ∙ lowest_number ∙ ap task_number g) in g ∙ ap some same)

  -- with that bit cleared, the lowest bit is a higher one
  pub cleared_above : {i : ℕ} → lowest many p ≡ some i → i < count_trailing_zeros 16 (clear_bit mask i)
  cleared_above {i} e =
      let below = lowest_from_below many 0 p i e in
      let now : count_trailing_zeros 16 (clear_bit mask i) ≡ task_number (lowest many (other_than i p)) =
      ap (λ (m : ℕ). count_trailing_zeros 16 (clear_bit m i)) is_mask ∙ lowest_other many i p few (omega arith) in
      by_option (lowest many (other_than i p)) (λ g. let at : count_trailing_zeros 16 (clear_bit mask i) ≡ 16 = now ∙ ap task_number g in omega arith)
      (λ j g. let at : count_trailing_zeros 16 (clear_bit mask i) ≡ j = now ∙ ap task_number g in omega (arith, other_above many p i j e g))

-- a bit shifted to a place below 16
pub shifted_bit : (i : ℕ) → i < 16 → 1 * 2 ^ i % 65536 ≡ 2 ^ i
shifted_bit i h = rw one-mul (mod-eq_of_lt (pow-lt h))

-- the lowest bit of a number of k bits is one of them
lowest_inside : (k m : ℕ) → 1 ≤ m → m < 2 ^ k → count_trailing_zeros k m < k
unfolding count_trailing_zeros
lowest_inside zero m h l = absurd (omega arith)
lowest_inside (suc k) m h l =
    by_eq (m % 2) 0
    (λ even. let rest = lowest_inside k (m / 2) (omega arith) (omega (arith, pow-suc 2 k)) in rw even (omega arith))
    (λ odd. let one : m % 2 ≡ 1 = omega arith in rw one (omega arith))

-- a number and the one before it have all bits but the lowest in common
before_common : (k m : ℕ) → 1 ≤ m → m < 2 ^ k → bit_and m (m - 1) ≡ bit_and m (2 ^ k - 1 - 2 ^ count_trailing_zeros k m)
unfolding count_trailing_zeros
before_common zero m h l = absurd (omega arith)
before_common (suc k) m h l =
    let r : ℕ = m / 2 in
    let few : r < 2 ^ k = omega (arith, pow-suc 2 k) in
    by_eq (m % 2) 0
    (λ even.
    let full : 1 ≤ r = omega arith in
    let j : ℕ = count_trailing_zeros k r in
    let below : 2 ^ j < 2 ^ k = pow-lt {i = j} {j = k} (lowest_inside k r full few) in
    let whole : m ≡ r * 2 + 0 = omega arith in
    let before : m - 1 ≡ (r - 1) * 2 + 1 = omega arith in
    let cut : 2 ^ suc k - 1 - 2 ^ suc j ≡ (2 ^ k - 1 - 2 ^ j) * 2 + 1 = omega (arith, pow-suc 2 k, pow-suc 2 j) in
    let rest = before_common k r full few in
    let later : count_trailing_zeros (suc k) m ≡ suc j = rw even in
    ap₂ bit_and whole before ∙ and_block 1 r (r - 1) 0 1 (bit_below false) (bit_below true)
    ∙ ap (λ (x : ℕ). x * 2 + bit_and 0 1) rest
    ∙ sym (ap₂ bit_and whole (ap (λ (x : ℕ). 2 ^ suc k - 1 - 2 ^ x) later ∙ cut)
    ∙ and_block 1 r (2 ^ k - 1 - 2 ^ j) 0 1 (bit_below false) (bit_below true)))
    (λ odd.
    let is_one : m % 2 ≡ 1 = omega arith in
    let whole : m ≡ r * 2 + 1 = omega arith in
    let before : m - 1 ≡ r * 2 + 0 = omega arith in
    let cut : 2 ^ suc k - 1 - 2 ^ 0 ≡ (2 ^ k - 1) * 2 + 0 = omega (arith, pow-suc 2 k, pow_pos k) in
    let first : count_trailing_zeros (suc k) m ≡ 0 = rw is_one in
    ap₂ bit_and whole before ∙ and_block 1 r r 1 0 (bit_below true) (bit_below false)
    ∙ ap (λ (x : ℕ). x * 2 + bit_and 1 0) (and_self r ∙ sym (and_mask r k ∙ mod-eq_of_lt few))
    ∙ sym (ap₂ bit_and whole (ap (λ (x : ℕ). 2 ^ suc k - 1 - 2 ^ x) first ∙ cut)
    ∙ and_block 1 r (2 ^ k - 1) 1 0 (bit_below true) (bit_below false)))

-- so that clears the lowest bit of a mask of 16
pub lowest_cleared : (mask : ℕ) → 1 ≤ mask → mask < 65536 → bit_and mask (mask - 1) ≡ clear_bit mask (count_trailing_zeros 16 mask)
lowest_cleared mask h l = before_common 16 mask h l
