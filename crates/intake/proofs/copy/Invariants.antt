-- The bytes before i are copied, and those from i on are as they were.
use Rattle.std.proofs.Common.{◌≡◌, ◌≤◌, ◌++◌, length, take, drop}
use Rattle.intake.proofs.copy.Given as goal

abbrev pub invariant-loop-i : goal.invariant-loop-i
invariant-loop-i l = record { passed : l.i ≤ length l.from; copied : l.to ≡ take l.i l.from ++ drop l.i l.fn.to }
