-- Instants fit in 64 bits: sums and products of 32-bit numbers do not wrap. Assumes nothing.
use Prim.Native.Nat.{ℕ, ◌*◌, ◌≤◌, ◌<◌}
use native.Mathlib.Omega.{arith}
use native.Mathlib.Nat.{mul-le-mul}

-- a 32-bit number of 32-bit steps, with room for two more such numbers
pub steps_fit : (k step : ℕ) → k < 4294967296 → step < 4294967296 → k * step ≤ 18446744065119617025
steps_fit k step h l = mul-le-mul {n₁ = k} {m₁ = step} {n₂ = 4294967295} {m₂ = 4294967295} (omega arith) (omega arith)
