-- The tests of a state's jobs as the code makes them. Assumes nothing.
use Rattle.std.specs.Prelude.{◌≡◌, Bool, List, ℕ, suc, ◌+◌, leb, eqb, Option}
use Rattle.std.specs.Bool.{then_some}
use Rattle.rules.specs.declared.Task.{Task}
use Rattle.rules.specs.declared.Running.{Running}
use Rattle.rules.specs.declared.Dispatcher.{Dispatcher as State}
use Rattle.rules.specs.Tasks.{Set, both, task, release, due}
use Rattle.rules.specs.Priority.{all_started}
use Rattle.rules.specs.Dispatcher.{set_of, running_possible}
use Rattle.decision.specs.declared.Standing.{Standing}
use Rattle.sets.specs.declared.Kept.{Kept}
use Rattle.sets.specs.Kept.{hyperperiod_in}
use Rattle.decision.specs.Fits.{next_in, releases_in, Fits}

-- is a job of a task the last one started, with the task's next job number; released when it started, and in time
abbrev pub last_and_in_time : Task → ℕ → Running → Bool
last_and_in_time t next r =
    both (eqb next (suc r.job)) (both (leb (release t r.job) r.start) (leb (r.start + t.time) (due t r.job)))

-- the running job's task, where the job is possible
abbrev pub running_task : State → Option Task
running_task d = then_some (running_possible (set_of d) d) (task (set_of d) d.running.task)

-- a test whether all jobs of the cycle have started, of every set and next job numbers that the rows fit
abbrev pub AllStarted : Kept → List ℕ → Bool → Type 0
AllStarted kept releases test =
    (ts : Set) (at : Standing) → Fits ts kept at → releases_in at ≡ releases → test ≡ all_started (hyperperiod_in kept) ts.tasks (next_in at)
