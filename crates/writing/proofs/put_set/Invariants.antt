-- `writing::put_set` meets its contract. The loop's invariant: TS and the tasks passed are put. Assumes nothing.
use mathlib.Core.Path.{◌≡◌}
use lib.ListN.{take}
use Rattle.rules.specs.Marks.{TS, size, head_length_of}
use Rattle.writing.specs.Writing.{put_at}
use Rattle.writing.proofs.ImagePut.{tasks_bytes}
use Rattle.writing.proofs.put_set.Given as goal

abbrev pub invariant-loop-task : goal.invariant-loop-task
invariant-loop-task l =
    (l.at ≡ head_length_of l.task-index) × (l.out ≡ put_at l.initial.out (size TS) (tasks_bytes (take l.task-index l.task-items)))
