-- `dispatcher::stop` meets its contract: all numbers 0 are those of the stopped state. Assumes nothing.
use mathlib.Core.Path.{refl}
use Rattle.rules.specs.Dispatcher.{stopped}
use Rattle.numbers.proofs.StateNumbers.{state_of_numbers}
use Rattle.dispatcher.proofs.stop.Goals as goal

pub returns : goal.returns
returns c = record {
  its_answer = refl;
  its_numbers = refl;
  its_state = state_of_numbers stopped (record { tasks = refl; next = refl; now = refl; first = refl });
}
