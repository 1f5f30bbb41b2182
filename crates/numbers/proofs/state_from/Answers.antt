-- `numbers::state_from` meets its contract, part by part. Assumes nothing.
use Rattle.rules.specs.Dispatcher.{cycle_position, task_position, job_position, start_position}
use Rattle.numbers.specs.Numbers.{number_at}
use Rattle.numbers.proofs.state_from.Goals as goal

pub returns : goal.returns
returns c =
    let lent = c.args.numbers.now in
    λ i. record {
      set = c.set_from-set.ensures i;
      next = c.numbers_from-next.ensures i;
      cycle = number_at lent cycle_position;
      running = record { task = number_at lent task_position; job = number_at lent job_position; start = number_at lent start_position };
      now = c.offsets_from-now.ensures i;
      first = c.offsets_from-first.ensures i;
    }
