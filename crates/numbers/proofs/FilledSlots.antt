-- Sixteen slots, each with its value: a set's tasks, or sixteen numbers. Assumes nothing.
use mathlib.Core.Path.{◌≡◌}
use mathlib.Core.List.{List}
use Prim.Native.Nat.{ℕ, ◌<◌}
use native.Mathlib.Omega.{arith}
use lib.ListN.{length, get_or}
use Rattle.std.proofs.lemmas.List.FromFn.{length-map-range_with_len, get_or-map-range_with_len, fill_by_all}
use Rattle.rules.specs.Tasks.{limits}
use Rattle.numbers.specs.Numbers.{slots}

module _ {A : Type 0} (value : ℕ → A) where
  -- sixteen slots are sixteen
  pub sixteen : length (slots value) ≡ limits.tasks
  unfolding slots
  sixteen = length-map-range_with_len value 0 limits.tasks

  -- what stands in one of sixteen
  pub in_slot : (empty : A) (i : ℕ) → i < limits.tasks → get_or (slots value) i empty ≡ value i
  unfolding slots
  in_slot empty i l = get_or-map-range_with_len value 0 limits.tasks i i empty l (omega arith)

  -- sixteen that hold their values are those slots
  pub all_slots : (xs : List A) (empty : A) → length xs ≡ 16 → ((i : ℕ) → i < 16 → get_or xs i empty ≡ value i) → xs ≡ slots value
  unfolding slots
  all_slots xs empty long each = fill_by_all value xs limits.tasks empty long each
