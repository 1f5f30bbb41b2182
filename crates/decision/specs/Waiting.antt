-- Tasks by slots and by bits: the mask of the tasks that pass a test, and the lowest of them as a number. Assumes nothing.
use Rattle.std.specs.Prelude.{Bool, true, false, List, ℕ, zero, suc, ◌+◌, ◌*◌, ◌-◌, ◌^◌, leb}
use Rattle.std.proofs.Math.Option.{Option, none, some}
use Rattle.std.specs.Int.Bits.{bit_or, bit_and}
use Rattle.rules.specs.Tasks.{limits}
use Rattle.rules.specs.Priority.{slot}

-- a test as a bit
abbrev pub bit : Bool → ℕ
bit true = 1
bit false = 0

-- one bit for each of so many numbers from i on, set where the number passes
unfoldable pub mask_from : ℕ → ℕ → (ℕ → Bool) → ℕ
mask_from zero i passes = 0
mask_from (suc many) i passes = mask_from many (suc i) passes * 2 + bit (passes i)

-- and of the numbers from 0 on
abbrev pub mask_of : ℕ → (ℕ → Bool) → ℕ
mask_of many passes = mask_from many 0 passes

-- a mask with a bit set
abbrev pub set_bit : ℕ → ℕ → ℕ
set_bit mask i = bit_or mask (2 ^ i)

-- a mask of 16 with a bit cleared
abbrev pub clear_bit : ℕ → ℕ → ℕ
clear_bit mask i = bit_and mask (65535 - 2 ^ i)

-- has the release in a slot come by an instant
abbrev pub come_by : List ℕ → ℕ → ℕ → Bool
come_by releases t i = leb (slot releases i) t

-- a task by its number, 16 for none
abbrev pub task_number : Option ℕ → ℕ
task_number none = limits.tasks
task_number (some i) = i
