-- Text in ASCII: numbers in decimal, and the line of a refusal, as document 01 has it and document 02's R-2. Assumes nothing.
use Rattle.std.specs.Prelude.{List, [], ◌∷◌, ◌++◌, ℕ, zero, suc, ◌+◌, ◌/◌, ◌%◌, ltb, ℤ, pos, negsuc}
use Rattle.rules.specs.declared.Located.{Located}
use Rattle.rules.specs.Refusals.{refusal, of_no_image}
use Rattle.rules.specs.Timetable.{pick}

-- the character between numbers, in ASCII, and the one at the end of a line
abbrev pub space : ℕ
space = 32

abbrev pub line_end : ℕ
line_end = 10

-- a digit in ASCII
abbrev pub digit : ℕ → ℕ
digit d = 48 + d

-- a number in decimal: a number below ten is its digit, any other has the digit of its ones behind its tens; in enough turns
abbrev pub decimal_in : ℕ → ℕ → List ℕ
decimal_in zero n = []
decimal_in (suc turns) n = pick (ltb n 10) (digit n ∷ []) (decimal_in turns (n / 10) ++ (digit (n % 10) ∷ []))

-- a number in decimal, with no zero in front
unfoldable pub decimal : ℕ → List ℕ
decimal n = decimal_in (suc n) n

-- a number and the character behind it
abbrev pub number_then : ℕ → ℕ → List ℕ
number_then n behind = decimal n ++ (behind ∷ [])

-- the sign of a number below zero
abbrev pub minus_sign : ℕ
minus_sign = 45

-- a signed number and the character behind it: below zero the sign, then the magnitude; zero has no sign
abbrev pub signed_then : ℤ → ℕ → List ℕ
signed_then (pos n) behind = number_then n behind
signed_then (negsuc n) behind = minus_sign ∷ number_then (suc n) behind

-- the word before a refusal's numbers, with a space behind it: "refused "
abbrev pub refused_word : List ℕ
refused_word = 0x72 ∷ 0x65 ∷ 0x66 ∷ 0x75 ∷ 0x73 ∷ 0x65 ∷ 0x64 ∷ space ∷ []

-- a refusal is one line: "refused ", its number, its place and its byte offset
unfoldable pub refused_text : Located → List ℕ
refused_text r = refused_word ++ (number_then r.number space ++ (number_then r.place space ++ number_then r.offset line_end))

-- the most bytes of an input, or of an image among others, that are judged
abbrev pub longest_input : ℕ
longest_input = 65536

-- one that is longer is refused with 20
abbrev pub too_long : Located
too_long = of_no_image (refusal 20 0)
