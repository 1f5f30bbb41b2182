-- The one table of marks: document 01, "Image records". Assumes nothing.
use Rattle.std.specs.Prelude.{Bool, true, false, List, [], ◌∷◌, ℕ, suc, ◌+◌, ◌*◌, eqb, length, get_or, drop}
use Rattle.std.proofs.Math.Option.{Option, none, some}
use Rattle.fields.specs.Body.{total, values_in}
use Rattle.rules.specs.Tasks.{both}

pub data Mark : Type 0 where
  TS : Mark
  TK : Mark
  SL : Mark
  ID : Mark
  PV : Mark
  EN : Mark

-- what a record is to framing: TS, a task, a record of the head behind the tasks that may be missing, a record listed first behind the head (an entry or a
-- forced idle), an inversion, EN
pub data Class : Type 0 where
  head_class : Class
  task_class : Class
  option_class : Class
  listed_class : Class
  inversion_class : Class
  end_class : Class

-- a mark's two bytes in ASCII, the widths of its body's fields, the kinds of image that have it, its rank, which never falls in an image, its class, and
-- whether its record stands at most once
pub record Row : Type 0 where
  pub byte₁ : ℕ
  pub byte₂ : ℕ
  pub widths : List ℕ
  pub in_kind₁ : Bool
  pub in_kind₂ : Bool
  pub rank : ℕ
  pub class : Class
  pub once : Bool

abbrev row_of : ℕ → ℕ → List ℕ → Bool → Bool → ℕ → Class → Bool → Row
row_of a b widths kind₁ kind₂ rank class once =
    record { byte₁ = a; byte₂ = b; widths = widths; in_kind₁ = kind₁; in_kind₂ = kind₂; rank = rank; class = class; once = once }

-- the table; no mark has the class option yet, for which ranks 2 to 5 are free
abbrev pub row : Mark → Row
row TS = row_of 0x54 0x53 (1 ∷ 1 ∷ 1 ∷ []) true true 0 head_class true
row TK = row_of 0x54 0x4B (4 ∷ 4 ∷ 4 ∷ 4 ∷ []) true true 1 task_class false
row SL = row_of 0x53 0x4C (1 ∷ 4 ∷ []) true false 6 listed_class false
row ID = row_of 0x49 0x44 (4 ∷ 2 ∷ []) false true 6 listed_class false
row PV = row_of 0x50 0x56 (1 ∷ 2 ∷ 4 ∷ []) false true 7 inversion_class false
row EN = row_of 0x45 0x4E (4 ∷ []) true true 8 end_class true

abbrev pub marks : List Mark
marks = TS ∷ TK ∷ SL ∷ ID ∷ PV ∷ EN ∷ []

abbrev pub mark_count : ℕ
mark_count = length marks

-- the bytes of a record's body, and of the whole record
abbrev pub body_length : Mark → ℕ
body_length m = total (row m).widths

abbrev pub size : Mark → ℕ
size m = suc (suc (body_length m))

-- the records of the head of an image of n tasks, TS and n TK, and their bytes
abbrev pub head_count_of : ℕ → ℕ
head_count_of n = suc n

abbrev pub head_length_of : ℕ → ℕ
head_length_of n = size TS + n * size TK

-- the mark that two bytes are
abbrev pub mark_in : List Mark → ℕ → ℕ → Option Mark
mark_in [] a b = none
mark_in (m ∷ ms) a b = elim (both (eqb a (row m).byte₁) (eqb b (row m).byte₂)) [ true ↦ some m | false ↦ mark_in ms a b ]

-- the mark at the front of bytes, if one stands there
abbrev pub front_mark : List ℕ → Option Mark
front_mark bytes = mark_in marks (get_or bytes 0 0) (get_or bytes 1 0)

-- the values of the record at the front of bytes, read from the part that begins after the mark
abbrev pub values : Mark → List ℕ → List ℕ
values m bytes = values_in (row m).widths (drop 2 bytes)
