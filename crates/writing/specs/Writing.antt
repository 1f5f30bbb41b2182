-- What the writers leave in a lent output: a record at a place, and all other bytes as they were. Assumes nothing.
use Rattle.std.specs.Prelude.{List, ◌++◌, ℕ, ◌+◌, leb, length, take, drop}
use Rattle.rules.specs.Timetable.{pick}
use Rattle.rules.specs.Image.{Record, written}

-- bytes at a place, where they fit
unfoldable pub put_at : List ℕ → ℕ → List ℕ → List ℕ
put_at old at bytes = pick (leb (at + length bytes) (length old)) (take at old ++ (bytes ++ drop (at + length bytes) old)) old

-- a record at a place, where it fits
abbrev pub record_put : List ℕ → ℕ → Record → List ℕ
record_put old at r = put_at old at (written r)
