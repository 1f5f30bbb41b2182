-- What a walk through a timetable's entries keeps in its array, a slot for each task with the release of its next job, and the rules of an entry by it.
-- Assumes nothing.
use Rattle.std.specs.Prelude.{ℕ, ◌+◌, List, [], ◌∷◌, Option, None, Some, nat_le, nat_lt, slice_index}
use Rattle.fields.specs.Body.{head₀, tail₀}
use Rattle.rules.specs.declared.Task.{Task}
use Rattle.rules.specs.declared.Entry.{Entry}
use Rattle.rules.specs.Tasks.{release}
use Rattle.rules.specs.Timetable.{pick}
use Rattle.sets.specs.declared.Kept.{Kept}
use Rattle.sets.specs.Kept.{tasks_in, hyperperiod_in, slack_in}

-- the releases of the next jobs of all tasks, by their next job numbers; a task with no job left has its release behind the cycle
abbrev pub next_releases : List Task → List ℕ → List ℕ
next_releases [] x = []
next_releases (t ∷ ts) x = release t (head₀ x) ∷ next_releases ts (tail₀ x)

-- the first rule that a start breaks, 12 to 15 in that order: the end of the cycle, D − C, the next job's release, the instant from which the processor is
-- free
abbrev pub start_breaks : ℕ → ℕ → ℕ → ℕ → ℕ → Option ℕ
start_breaks h slack released free start =
    pick (nat_lt released h)
    (pick (nat_le released start) (pick (nat_le free start) (pick (nat_le start (released + slack)) None (Some 15)) (Some 14)) (Some 13))
    (Some 12)

-- the first rule that an entry breaks, 11 to 15 in that order: what is kept of the set, the releases of the next jobs, the instant from which the processor
-- is free
abbrev pub entry_breaks : Kept → List ℕ → ℕ → Entry → Option ℕ
entry_breaks kept releases free e =
    pick (nat_lt e.task (tasks_in kept))
    (start_breaks (hyperperiod_in kept) (slice_index (slack_in kept) e.task) (slice_index releases e.task) free e.start)
    (Some 11)
