-- Where a refusal stands in an image: document 02, R-2. The byte at which a record begins, and the numbers whose place is a record. Assumes nothing.
use Rattle.std.specs.Prelude.{◌≡◌, Bool, true, false, List, [], ◌∷◌, ℕ, zero, suc, ◌+◌, ◌*◌, ◌≤◌, ◌<◌, eqb, length, take, drop}
use Rattle.std.proofs.Math.Option.{Option, none, some}
use Rattle.rules.specs.declared.Refusal.{Refusal}
use Rattle.rules.specs.declared.Located.{Located}
use Rattle.rules.specs.Refusals.{Judged, refuses, refusal}
use Rattle.rules.specs.Timetable.{pick}
use Rattle.rules.specs.Marks.{Mark, size, front_mark}
use Rattle.rules.specs.Image.{Record, image}

-- the bytes of a record with a mark, none where there is no mark
abbrev pub size_in : Option Mark → ℕ
size_in none = 0
size_in (some m) = size m

-- the byte behind the record that begins at a byte, which is as long as its mark says
abbrev pub behind_record : List ℕ → ℕ → ℕ
behind_record bytes at = at + size_in (front_mark (drop at bytes))

-- the byte at which record j begins: behind the records before it
abbrev pub offset_of : ℕ → List ℕ → ℕ
offset_of zero bytes = 0
offset_of (suc j) bytes = behind_record bytes (offset_of j bytes)

-- the numbers whose place is the index of a record; 16's is a task, 18's an index among starts, and the others have none
abbrev pub of_a_record : List ℕ
of_a_record = 1 ∷ 2 ∷ 3 ∷ 4 ∷ 5 ∷ 6 ∷ 7 ∷ 10 ∷ 11 ∷ 12 ∷ 13 ∷ 14 ∷ 15 ∷ 17 ∷ 19 ∷ []

abbrev pub one_of : List ℕ → ℕ → Bool
one_of [] n = false
one_of (m ∷ ms) n = pick (eqb n m) true (one_of ms n)

abbrev pub names_record : ℕ → Bool
names_record = one_of of_a_record

-- the byte offset that a refusal has in an image: that of the record that its place names, else 0
abbrev pub refusal_offset : List ℕ → Refusal → ℕ
refusal_offset bytes r = pick (names_record r.number) (offset_of r.place bytes) 0

-- a refusal located in an image, and without its offset
abbrev pub located : List ℕ → Refusal → Located
located bytes r = record { number = r.number; place = r.place; offset = refusal_offset bytes r }

abbrev pub bare : Located → Refusal
bare r = refusal r.number r.place

-- number 0 stands for no refusal
abbrev pub no_refusal : Located
no_refusal = record { number = 0; place = 0; offset = 0 }

-- judging bytes came to a refusal, which is told located in them
pub record RefusedAt {A : Type 0} (bytes : List ℕ) (z : Judged A) (r : Located) : Type 0 where
  pub judged : z ≡ refuses (bare r)
  pub there : r ≡ located bytes (bare r)

-- so many whole records, each with a mark, stand one behind the other at the front of bytes, and have so many bytes
pub data Begins (bytes : List ℕ) : ℕ → ℕ → Type 0 where
  at_the_front : Begins bytes 0 0
  behind_a_record : {j at : ℕ} (m : Mark) → Begins bytes j at → front_mark (drop at bytes) ≡ some m → at + size m ≤ length bytes →
      Begins bytes (suc j) (at + size m)

-- so many records with one mark begin one behind the other, from an index and a byte on, and behind them the next record
abbrev pub RunBegins : List ℕ → ℕ → ℕ → Mark → ℕ → Type 0
RunBegins bytes index at m many = (j : ℕ) → j ≤ many → offset_of (index + j) bytes ≡ at + j * size m

-- record j of written records begins at a byte: those before it have so many bytes, and from there on stand its own and those of the records behind it
pub record BeginsIn (rs : List Record) (bytes : List ℕ) (j at : ℕ) : Type 0 where
  pub a_record : j < length rs
  pub before : at ≡ length (image (take j rs))
  pub from_there : drop at bytes ≡ image (drop j rs)
