-- `dispatcher::absolute` meets its contract. Assumes nothing.
use Rattle.std.proofs.Common.{arith}
use Rattle.sets.proofs.Instants.{steps_fit}
use Rattle.dispatcher.proofs.absolute.Goals as goal

pub overflow_mul-result : goal.overflow_mul-result
overflow_mul-result c = grind (arith, steps_fit c.args.cycle c.args.h)

pub overflow_add-result : goal.overflow_add-result
overflow_add-result c = grind (arith, steps_fit c.args.cycle c.args.h)
