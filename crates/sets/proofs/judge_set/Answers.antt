-- `sets::judge_set` meets its contract: its stored tasks are judged, and the set that they are is the set. Assumes nothing.
use mathlib.Core.Path.{◌≡◌, ◌∙◌, ap}
use mathlib.Core.List.{List}
use Prim.Native.Nat.{ℕ}
use lib.ListN.{length, replicate, length-replicate}
use Rattle.rules.proofs.Arrays.{slots_counted}
use Rattle.numbers.specs.Numbers.{set_from}
use Rattle.numbers.proofs.SetNumbers.{set_of_stored}
use borrow.Author.Rules.{rules}
use Rattle.sets.proofs.judge_set.Goals as goal

pub judge_kept-requires : goal.judge_kept-requires
judge_kept-requires c = search rules

pub returns : goal.returns
returns c =
    let s = c.args.s in
    let slots : length s.tasks ≡ 16 = search (rules, slots_counted) in
    let stored-set = ap (λ (lent : List ℕ). set_from s.n lent 0) c.put_tasks.ensures in
    rw (stored-set ∙ set_of_stored s (replicate 64 0) slots (length-replicate {A = ℕ} 64 0)) at c.judge_kept.ensures
