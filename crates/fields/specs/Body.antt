-- A record's body: fields of stated widths, one after the other. Assumes nothing.
use Rattle.std.specs.Prelude.{List, [], ◌∷◌, ◌++◌, ℕ, ◌+◌, ◌^◌, ◌<◌, take, drop}
use Rattle.fields.specs.Number.{number, big_endian}

-- the bytes of a body
abbrev pub total : List ℕ → ℕ
total [] = 0
total (width ∷ widths) = width + total widths

-- the first value, 0 where there is none, and the others
abbrev pub head₀ : List ℕ → ℕ
head₀ [] = 0
head₀ (v ∷ values) = v

abbrev pub tail₀ : List ℕ → List ℕ
tail₀ [] = []
tail₀ (v ∷ values) = values

-- the body that holds values in fields of these widths
abbrev pub body : List ℕ → List ℕ → List ℕ
body [] values = []
body (width ∷ widths) values = big_endian width (head₀ values) ++ body widths (tail₀ values)

-- the values that a body's fields hold
abbrev pub values_in : List ℕ → List ℕ → List ℕ
values_in [] bytes = []
values_in (width ∷ widths) bytes = number (take width bytes) ∷ values_in widths (drop width bytes)

-- as many values as fields, each in its field's range
abbrev pub Fit : List ℕ → List ℕ → Type 0
Fit [] [] = Unit {0}
Fit [] (v ∷ values) = ⊥
Fit (width ∷ widths) [] = ⊥
Fit (width ∷ widths) (v ∷ values) = (v < 256 ^ width) × Fit widths values
