-- `numbers::put_task` meets its contract: four stores, place behind place. Assumes nothing.
use mathlib.Core.Path.{◌≡◌}
use Prim.Native.Nat.{suc, ◌+◌}
use native.Mathlib.Omega.{arith}
use lib.ListN.{length-set}
use Rattle.numbers.proofs.put_task.Goals as goal

pub bounds-numbers-at-2 : goal.bounds-numbers-at-2
bounds-numbers-at-2 c = simp length-set (omega arith)

pub bounds-numbers-at-3 : goal.bounds-numbers-at-3
bounds-numbers-at-3 c = simp length-set (omega arith)

pub bounds-numbers-at-4 : goal.bounds-numbers-at-4
bounds-numbers-at-4 c = simp length-set (omega arith)

pub returns : goal.returns
returns c =
    let at = c.args.at in
    let one : at + 1 ≡ suc at = omega arith in
    let two : at + 2 ≡ suc (suc at) = omega arith in
    let three : at + 3 ≡ suc (suc (suc at)) = omega arith in
    rw (one, two, three)
