-- The row of first releases that is kept of a set, as a walk through its timetable begins with it. Assumes nothing.
use Rattle.std.proofs.Common.{◌≡◌, ◌<◌, [], take, sym, ◌∙◌, arith, length-take-le, get_or-take, ext_get_or}
use Rattle.rules.specs.Tasks.{Set, no_task}
use Rattle.sets.specs.declared.Kept.{Kept}
use Rattle.sets.specs.Kept.{tasks_in, first_in, Keeps}
use Rattle.sets.proofs.SetKept.{first_kept}
use Rattle.timetables.specs.Walks.{next_releases}
use Rattle.timetables.proofs.Releases.{releases_length, first_in_slot}

-- before the first start it holds the releases of the next jobs
pub first_releases : {ts : Set} {kept : Kept} (keeps : Keeps ts kept) → take (tasks_in kept) (first_in kept) ≡ next_releases ts.tasks []
first_releases {ts} {kept} keeps =
    let long = length-take-le (tasks_in kept) (first_in kept) (omega (arith, keeps.few, keeps.first_slots)) in
    ext_get_or 0 _ _ (long ∙ keeps.n_tasks ∙ sym (releases_length ts.tasks []))
    (λ i l.
    let a_task : i < tasks_in kept = omega arith in
    get_or-take (tasks_in kept) (first_in kept) i 0 a_task
    ∙ first_kept keeps i a_task
    ∙ sym (first_in_slot ts.tasks i no_task (omega (arith, keeps.n_tasks))))
