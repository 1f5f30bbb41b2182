-- Scans of slots, a number in each. Assumes nothing.
use Rattle.std.specs.Prelude.{List, ℕ, zero, suc, min}
use Rattle.fields.specs.Body.{head₀, tail₀}

-- the least of the numbers in the first n slots and a bound
abbrev pub least_of : ℕ → ℕ → List ℕ → ℕ
least_of zero bound numbers = bound
least_of (suc n) bound numbers = min (head₀ numbers) (least_of n bound (tail₀ numbers))
