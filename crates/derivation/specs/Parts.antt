-- Parts of an output that are written each at a place of its own: the ID records, and behind them the PV records of each task. Assumes nothing.
use Rattle.std.specs.Prelude.{◌≡◌, List, [], ◌∷◌, ◌++◌, map, ℕ, zero, suc, ◌+◌, ◌≤◌, ◌<◌, length, get_or}
use Rattle.rules.specs.declared.Idle.{Idle}
use Rattle.rules.specs.declared.Inversion.{Inversion}
use Rattle.rules.specs.Marks.{ID, PV}
use Rattle.rules.specs.Image.{image, records, of_idle, of_inversion}
use Rattle.writing.specs.Writing.{put_at}

-- so many parts one after the other, from part i on
abbrev pub joined : {A : Type 0} → ℕ → ℕ → (ℕ → List A) → List A
joined zero i part = []
joined (suc many) i part = part i ++ joined many (suc i) part

-- so many parts put at their places, from part i on
abbrev pub puts : ℕ → ℕ → (ℕ → ℕ) → (ℕ → List ℕ) → List ℕ → List ℕ
puts zero i places parts out = out
puts (suc many) i places parts out = puts many (suc i) places parts (put_at out (places i) (parts i))

-- parts that stand apart, in order, inside an output of so many bytes
pub record Apart (many : ℕ) (places : ℕ → ℕ) (parts : ℕ → List ℕ) (room : ℕ) : Type 0 where
  pub in_order : (j k : ℕ) → j < k → k < many → places j + length (parts j) ≤ places k
  pub inside : (k : ℕ) → k < many → places k + length (parts k) ≤ room

-- parts that are left to put into an output, and what it comes to with them
pub record LeftToPut (many : ℕ) (whole : List ℕ) (places : ℕ → ℕ) (parts : ℕ → List ℕ) (out : List ℕ) : Type 0 where
  pub comes_to : puts many 0 places parts out ≡ whole
  pub apart : Apart many places parts (length out)

-- the bytes of ID records
abbrev pub idles_bytes : List Idle → List ℕ
idles_bytes idles = image (records ID (map of_idle idles))

-- and of PV records
abbrev pub inversions_bytes : List Inversion → List ℕ
inversions_bytes p = image (records PV (map of_inversion p))

-- part 0 holds forced idles, part i + 1 the inversions of task i
abbrev pub parts_of : List Idle → (ℕ → List Inversion) → ℕ → List ℕ
parts_of idles inversions zero = idles_bytes idles
parts_of idles inversions (suc i) = inversions_bytes (inversions i)

-- the places of the parts: of the idles, and of each task's inversions
abbrev pub places_of : ℕ → List ℕ → ℕ → ℕ
places_of idle_at offsets k = get_or (idle_at ∷ offsets) k 0

-- the sum of the first k of some counts
abbrev pub sum_first : ℕ → List ℕ → ℕ
sum_first zero counts = 0
sum_first (suc k) counts = sum_first k counts + get_or counts k 0

-- the bytes of tables
abbrev pub tables_bytes : List Idle → List Inversion → List ℕ
tables_bytes idles p = image (records ID (map of_idle idles) ++ records PV (map of_inversion p))
