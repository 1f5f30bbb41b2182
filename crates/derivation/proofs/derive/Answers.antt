-- `derivation::derive` meets its contract. Assumes nothing.
use Rattle.std.proofs.Common.{arith}
use Rattle.std.proofs.lemmas.Result.{err_from_is_err_and}
use Rattle.derivation.proofs.Deriving.{refused_so, can_put, few_counted, too_short, answered, put_out}
use Rattle.derivation.proofs.derive.Goals as goal

pub returns-in_err-t : goal.returns-in_err-t
returns-in_err-t c =
    let p = err_from_is_err_and c.from_residual.result c.from_residual.ensures.1 in rw (p.1, p.2) (refused_so _ c.in_err-t.ensures)

pub overflow_mul-end : goal.overflow_mul-end
overflow_mul-end c = let few = few_counted c.in_ok-t.ensures in omega arith

pub overflow_add-end : goal.overflow_add-end
overflow_add-end c = let few = few_counted c.in_ok-t.ensures in omega arith

pub overflow_mul-end-2 : goal.overflow_mul-end-2
overflow_mul-end-2 c = let few = few_counted c.in_ok-t.ensures in omega arith

pub overflow_add-end-2 : goal.overflow_add-end-2
overflow_add-end-2 c = let few = few_counted c.in_ok-t.ensures in omega arith

pub overflow_add-length : goal.overflow_add-length
overflow_add-length c = let few = few_counted c.in_ok-t.ensures in omega arith

pub returns-then-out-length : goal.returns-then-out-length
returns-then-out-length c = too_short c.in_ok-t.ensures _ _ (omega arith) c.if-out-length.true

pub put_irregularities-requires : goal.put_irregularities-requires
put_irregularities-requires c = (_, can_put c.in_ok-t.ensures (omega arith))

pub overflow_cast-before : goal.overflow_cast-before
overflow_cast-before c = let few = few_counted c.in_ok-t.ensures in omega arith

pub returns : goal.returns
returns c =
    let g = c.in_ok-t.ensures in
    record {
      answer = answered g _ _ (omega arith) c.if-out-length.false;
      output = put_out g _ _ (omega arith) c.if-out-length.false _ _ _ _ _ (rw c.number.ensures at c.put_set.ensures)
          (c.put_irregularities.ensures _ (can_put g (omega arith))) c.put.ensures (omega arith) (omega arith);
    }
