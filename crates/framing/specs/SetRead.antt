-- The set of an image whose tasks are framed: its TK records stand one after the other behind TS; and where its refusals stand. Assumes nothing.
use Rattle.std.specs.Prelude.{List, [], ◌∷◌, ◌++◌, ℕ, zero, suc, ◌+◌, ◌*◌, ◌-◌, replicate}
use Rattle.rules.specs.declared.Task.{Task}
use Rattle.rules.specs.declared.TaskSet.{TaskSet}
use Rattle.rules.specs.declared.Refusal.{Refusal}
use Rattle.rules.specs.declared.Located.{Located}
use Rattle.rules.specs.Tasks.{limits}
use Rattle.rules.specs.Marks.{TS, TK, size, body_length}
use Rattle.rules.specs.Dispatcher.{zero_task}
use Rattle.images.specs.Bodies.{part_of, task_of}

-- so many tasks read from TK records that stand one after the other
unfoldable pub tasks_at : List ℕ → ℕ → ℕ → List Task
tasks_at bytes at zero = []
tasks_at bytes at (suc many) = task_of (part_of bytes (at + 2) (body_length TK)) ∷ tasks_at bytes (at + size TK) many

-- a set read behind TS: the slots behind its tasks are zero
unfoldable pub set_read : ℕ → List ℕ → TaskSet
set_read n bytes = record { n = n; tasks = tasks_at bytes (size TS) n ++ replicate (limits.tasks - n) zero_task }

-- the byte at which TS or a task's TK begins, by its index
abbrev pub head_offset : ℕ → ℕ
head_offset zero = 0
head_offset (suc i) = size TS + i * size TK

-- a set's refusal, at the record that its place is in an image
abbrev pub set_located : Refusal → Located
set_located r = record { number = r.number; place = r.place; offset = head_offset r.place }
