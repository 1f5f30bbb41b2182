-- What the writers promise: their contracts leave no choice. Assumes nothing.
use mathlib.Core.Path.{◌≡◌, sym, ◌∙◌}
use mathlib.Core.List.{List}
use Prim.Native.Nat.{ℕ}
use Rattle.rules.specs.Image.{Record}
use Rattle.writing.specs.Writing.{record_put}

-- two outputs that a writer's contract allows are equal
pub one_output : (old : List ℕ) (at : ℕ) (r : Record) (first second : List ℕ) → first ≡ record_put old at r → second ≡ record_put old at r → first ≡ second
one_output old at r first second e f = e ∙ sym f
