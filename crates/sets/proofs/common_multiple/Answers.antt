-- `sets::common_multiple` meets its contract: the least common multiple by the greatest common divisor, told up to the limit. Assumes nothing.
use Prim.Native.Nat.{◌*◌, ◌/◌}
use native.Mathlib.Omega.{arith}
use native.Mathlib.Nat.{dvd_of_mod-eq-zero, le_of_dvd, pos_of_dvd_of_pos}
use Rattle.rules.specs.Tasks.{IsLeastMultiple}
use Rattle.rules.proofs.Hyperperiod.{have_multiple, multiple_positive}
use Rattle.sets.proofs.Multiples.{capped_within, capped_above, multiple_told, product_fits, by_remainder, by_divisor}
use Rattle.sets.proofs.common_multiple.Goals as goal
use Rattle.sets.proofs.common_multiple.Goals.{After-common_divisor}

pub returns-then-t-gt65535 : goal.returns-then-t-gt65535
returns-then-t-gt65535 c =
    let a = c.args in
    let m = have_multiple a.t a.h (omega arith) (omega arith) in
    let long = le_of_dvd (multiple_positive {a = a.t} {b = a.h} (omega arith) (omega arith) m.1) m.1.left in
    record { multiple = m.0; is = m.1; told = capped_above m.0 (omega arith) }

pub returns-then-r-eq0 : goal.returns-then-r-eq0
returns-then-r-eq0 c = multiple_told (dvd_of_mod-eq-zero c.args.t c.if-r-eq0.true) (omega arith)

pub nonzero_div-m : goal.nonzero_div-m
nonzero_div-m c = pos_of_dvd_of_pos c.common_divisor.ensures.left (omega arith)

pub overflow_mul-m : goal.overflow_mul-m
overflow_mul-m c = record { fits = product_fits c.args.t c.common_divisor.result c.args.h (omega arith) (omega arith) }

-- the product is the least common multiple
multiple : (c : After-common_divisor) → IsLeastMultiple c.args.t c.args.h (c.args.t / c.common_divisor.result * c.args.h)
multiple c = by_divisor c.args.t c.args.h c.common_divisor.result (omega arith) (omega arith) (by_remainder c.common_divisor.ensures)

pub returns-then-m-gt65535 : goal.returns-then-m-gt65535
returns-then-m-gt65535 c = record { multiple = _; is = multiple (goal.at.returns-then-m-gt65535 c).After-common_divisor; told = capped_above _ c.if-m-gt65535.true }

pub returns : goal.returns
returns c = record { multiple = _; is = multiple (goal.at.returns c).After-common_divisor; told = capped_within _ c.if-m-gt65535.false }
