-- Big-endian numbers and lists of bytes: each law is proved once over the width. Assumes nothing.
use mathlib.Core.Path.{◌≡◌, refl, sym, ◌∙◌, ap, ap₂}
use mathlib.Core.List.{List, [], ◌∷◌, ◌++◌}
use Prim.Native.Nat.{ℕ, zero, suc, ◌+◌, ◌*◌, ◌/◌, ◌%◌, ◌^◌, ◌<◌}
use native.Mathlib.Omega.{arith}
use native.Mathlib.Nat.{mod-eq_of_lt, mod-lt, mod-one, mul_assoc, mul-add-div_right, mul-add-mod_self_right, one-le-pow, pow-succ'}
use lib.Arith.{digits_lt, digits_div, mod-mul}
use lib.ListN.{length, get_or, take, drop}
use Rattle.fields.specs.Number.{Bytes, number, big_endian}

-- a width has room for one number at least
power_positive : (w : ℕ) → 0 < 256 ^ w
power_positive w = one-le-pow w 256 (omega arith)

-- a number's bytes fill the width
pub big_endian_length : (w x : ℕ) → length (big_endian w x) ≡ w
big_endian_length zero x = refl
big_endian_length (suc w) x = ap suc (big_endian_length w x)

-- what is written are bytes
pub big_endian_bytes : (w x : ℕ) → Bytes (big_endian w x)
big_endian_bytes zero x = tt
big_endian_bytes (suc w) x = (mod-lt (x / 256 ^ w) (omega arith), big_endian_bytes w x)

-- what is above the width is not written
pub big_endian_above : (w a x : ℕ) → big_endian w (a * 256 ^ w + x) ≡ big_endian w x
big_endian_above zero a x = refl
big_endian_above (suc w) a x =
    rw (pow-succ' 256 w, ← mul_assoc a 256 (256 ^ w))
    (ap₂ ◌∷◌
    (ap (λ (y : ℕ). y % 256) (mul-add-div_right (power_positive w) (a * 256) x) ∙ mul-add-mod_self_right a 256 (x / 256 ^ w))
    (big_endian_above w (a * 256) x))

-- bytes stand for a number below the power of their length
pub number_below : (bs : List ℕ) → Bytes bs → number bs < 256 ^ length bs
number_below [] h = omega arith
number_below (b ∷ bs) h = rw (pow-succ' 256 (length bs)) (digits_lt h.0 (number_below bs h.1))

-- a written number is read back without what is above the width
pub read_written_mod : (w x : ℕ) → number (big_endian w x) ≡ x % 256 ^ w
read_written_mod zero x = sym (mod-one x)
read_written_mod (suc w) x =
    rw (big_endian_length w x, read_written_mod w x, pow-succ' 256 w) (sym (mod-mul x (omega arith) (power_positive w)))

-- a number that its width has room for is read as it was written
pub read_written : (w x : ℕ) → x < 256 ^ w → number (big_endian w x) ≡ x
read_written w x h = read_written_mod w x ∙ mod-eq_of_lt h

-- bytes are written as they were read, in their own length
written_whole : (bs : List ℕ) → Bytes bs → big_endian (length bs) (number bs) ≡ bs
written_whole [] h = refl
written_whole (b ∷ bs) h =
    ap₂ ◌∷◌
    (ap (λ (y : ℕ). y % 256) (digits_div b (number_below bs h.1)) ∙ mod-eq_of_lt h.0)
    (big_endian_above (length bs) b (number bs) ∙ written_whole bs h.1)

-- bytes are written as they were read
pub written_read : (w : ℕ) (bs : List ℕ) → Bytes bs → length bs ≡ w → big_endian w (number bs) ≡ bs
written_read w bs h e = rw (← e) (written_whole bs h)

-- bytes after bytes are bytes
pub bytes_append : (xs ys : List ℕ) → Bytes xs → Bytes ys → Bytes (xs ++ ys)
bytes_append [] ys h k = k
bytes_append (x ∷ xs) ys h k = (h.0, bytes_append xs ys h.1 k)

-- the first of bytes are bytes
pub bytes_take : (n : ℕ) (xs : List ℕ) → Bytes xs → Bytes (take n xs)
bytes_take zero xs h = tt
bytes_take (suc n) [] h = tt
bytes_take (suc n) (x ∷ xs) h = (h.0, bytes_take n xs h.1)

-- the rest of bytes are bytes
pub bytes_drop : (n : ℕ) (xs : List ℕ) → Bytes xs → Bytes (drop n xs)
bytes_drop zero xs h = h
bytes_drop (suc n) [] h = tt
bytes_drop (suc n) (x ∷ xs) h = bytes_drop n xs h.1

-- a list with a byte at each index is one of bytes
pub bytes_by_index : (xs : List ℕ) → ((i : ℕ) → get_or xs i 0 < 256) → Bytes xs
bytes_by_index [] h = tt
bytes_by_index (x ∷ xs) h = (h 0, bytes_by_index xs (λ i. h (suc i)))
