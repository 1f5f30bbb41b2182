-- Slots in turn: the mask of the tasks whose release has come, with one slot more. Assumes nothing.
use mathlib.Core.Path.{◌≡◌}
use mathlib.Core.List.{List}
use Prim.Native.Nat.{ℕ, suc, ◌*◌, ◌-◌, ◌≤◌, ◌<◌}
use native.Mathlib.Omega.{arith}
use lib.ListN.{get_or}
use borrow.Author.Tests.{le-leb, lt-leb}
use Rattle.rules.specs.Priority.{slot}
use Rattle.rules.proofs.Arrays.{slot_element}
use Rattle.decision.specs.Waiting.{mask_from, come_by, set_bit}
use Rattle.decision.proofs.Masks.{mask_set, mask_kept}

-- the mask of the tasks from i on whose release has come, by that of the tasks from k on, the ones behind task i
module _ (n t : ℕ) (releases : List ℕ) (k i mask : ℕ) (next : k ≡ suc i) (l : i < n) (before : mask ≡ mask_from (n - k) k (come_by releases t)) where
  -- its release has come
  pub come_more : get_or releases i 0 ≤ t → set_bit (mask * 2) 0 ≡ mask_from (n - i) i (come_by releases t)
  come_more come =
      rw (before, next) (mask_set n i (come_by releases t) l (le-leb (slot releases i) t (omega (arith, slot_element releases i))))

  -- it has not
  pub not_come : t < get_or releases i 0 → mask * 2 ≡ mask_from (n - i) i (come_by releases t)
  not_come later =
      rw (before, next) (mask_kept n i (come_by releases t) l (lt-leb (slot releases i) t (omega (arith, slot_element releases i))))
