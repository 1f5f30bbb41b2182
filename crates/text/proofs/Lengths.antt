-- How long texts are: a number, a signed number of 64 bits, whose line has at most 21 characters, and a refusal, at most 61. Assumes nothing.
use mathlib.Core.Path.{◌≡◌}
use mathlib.Core.List.{[], ◌∷◌, ◌++◌}
use Prim.Native.Nat.{ℕ, suc, ◌+◌, ◌^◌, ◌≤◌, ◌<◌}
use native.Mathlib.Omega.{arith}
use lib.IntN.{ℤ, pos, negsuc}
use lib.ListN.{length, length-append}
use mir.Syntax.{w64}
use mir.Val.{SFits}
use Rattle.rules.specs.declared.Located.{Located}
use Rattle.text.specs.Text.{space, line_end, decimal, number_then, signed_then, refused_text}
use Rattle.text.proofs.Decimal.{decimal_few}

-- a number below a power of ten, with the character behind it
pub number_short : (k n behind : ℕ) → n < 10 ^ suc k → length (number_then n behind) ≤ suc (suc k)
number_short k n behind h = omega (arith, length-append (decimal n) (behind ∷ []), decimal_few k n h)

-- a signed number of 64 bits, with the character behind it
pub signed_short : (z : ℤ) (behind : ℕ) → SFits w64 z → length (signed_then z behind) ≤ 21
signed_short (pos n) behind f = omega (arith, number_short 18 n behind (omega (arith, f.sfits)))
signed_short (negsuc n) behind f = omega (arith, number_short 18 (suc n) behind (omega (arith, f.sfits)))

-- a refusal's line, by its parts
pub refused_parts : (r : Located) → length (refused_text r)
    ≡ 8 + length (number_then r.number space) + length (number_then r.place space) + length (number_then r.offset line_end)
unfolding refused_text
refused_parts r =
    omega (
      arith,
      length-append (number_then r.number space) (number_then r.place space ++ number_then r.offset line_end),
      length-append (number_then r.place space) (number_then r.offset line_end),
    )

-- whatever its numbers are in memory
pub refused_short : (r : Located) → r.number < 10 ^ 10 → r.place < 10 ^ 20 → r.offset < 10 ^ 20 → length (refused_text r) ≤ 61
refused_short r a b c =
    omega (arith, refused_parts r, number_short 9 r.number space a, number_short 19 r.place space b, number_short 19 r.offset line_end c)
