-- `numbers::numbers_of` meets its contract: part behind part is stored, until all numbers stand there. Assumes nothing.
use Prim.Native.Nat.{ℕ}
use mathlib.Core.Path.{◌∙◌, ap}
use lib.ListN.{replicate, length-replicate}
use borrow.Author.Rules.{rules}
use Rattle.rules.specs.Dispatcher.{Shaped, number_count}
use Rattle.rules.proofs.Arrays.{slots_counted}
use Rattle.numbers.specs.Numbers.{state_from}
use Rattle.numbers.proofs.StateNumbers.{state_of_numbers}
use Rattle.numbers.proofs.StoredNumbers.{all_stored}
use Rattle.numbers.proofs.numbers_of.Goals as goal

pub returns : goal.returns
returns c =
    -- the state has sixteen slots in each of its lists
    let shaped : Shaped c.args.d = record { tasks = search (rules, slots_counted); next = search rules; now = search rules; first = search rules } in
    let is = all_stored c.args.d shaped (replicate number_count 0) _ _ _ _ (length-replicate {A = ℕ} number_count 0)
    c.put_tasks.ensures c.put_numbers.ensures c.put_numbers-2.ensures c.put_numbers-3.ensures in
    record { numbers = is; state = ap state_from is ∙ state_of_numbers c.args.d shaped }
