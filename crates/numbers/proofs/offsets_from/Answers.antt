-- `numbers::offsets_from` meets its contract. Assumes nothing.
use mathlib.Core.Path.{ap}
use mathlib.Core.List.{List}
use Prim.Native.Nat.{ℕ}
use Rattle.numbers.specs.Numbers.{number_at}
use Rattle.numbers.proofs.offsets_from.Goals as goal

pub returns : goal.returns
returns c =
    ap (λ (x : List ℕ). record { idle = number_at c.args.numbers.now c.args.at; inversions = x }) c.numbers_from-inversions.ensures
