-- Big-endian numbers of any width, and where they stand in bytes. Assumes nothing.
use Rattle.std.specs.Prelude.{Bool, true, false, List, [], ◌∷◌, ◌++◌, ℕ, zero, suc, ◌+◌, ◌*◌, ◌/◌, ◌%◌, ◌^◌, ◌<◌, leb, length, take, drop}

-- each number is a byte
abbrev pub Bytes : List ℕ → Type 0
Bytes [] = Unit {0}
Bytes (b ∷ bs) = (b < 256) × Bytes bs

-- the number that bytes stand for, the highest byte first
abbrev pub number : List ℕ → ℕ
number [] = 0
number (b ∷ bs) = b * 256 ^ length bs + number bs

-- the bytes that a number has in a width, the highest first; what is above the width is left out
abbrev pub big_endian : ℕ → ℕ → List ℕ
big_endian zero x = []
big_endian (suc width) x = x / 256 ^ width % 256 ∷ big_endian width x

-- does a field of a width stand whole at a place
abbrev pub whole : ℕ → List ℕ → ℕ → Bool
whole width bytes at = leb (at + width) (length bytes)

abbrev pub field_if : Bool → ℕ → List ℕ → ℕ → ℕ
field_if true width bytes at = number (take width (drop at bytes))
field_if false width bytes at = 0

-- the field of a width at a place; 0 where it does not stand there whole
unfoldable pub field_at : ℕ → List ℕ → ℕ → ℕ
field_at width bytes at = field_if (whole width bytes at) width bytes at

abbrev pub stored_if : Bool → ℕ → List ℕ → ℕ → ℕ → List ℕ
stored_if true width old at x = take at old ++ (big_endian width x ++ drop (at + width) old)
stored_if false width old at x = old

-- bytes after a number was stored at a place in a width: all others as they were, and all of them where it does not fit
unfoldable pub stored_at : ℕ → List ℕ → ℕ → ℕ → List ℕ
stored_at width old at x = stored_if (whole width old at) width old at x
