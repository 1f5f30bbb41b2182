-- `figures::put_figures` meets its contract: the entries are rebuilt in the scratch and walked through, the first figures are put, and the capacities behind
-- them. Assumes nothing.
use mathlib.Core.Path.{◌≡◌}
use mathlib.Core.List.{List}
use Prim.Native.Nat.{ℕ}
use native.Mathlib.Omega.{arith}
use lib.ListN.{length, replicate, length-replicate}
use Rattle.rules.specs.declared.Entry.{Entry}
use Rattle.rules.specs.Tasks.{Set}
use Rattle.rules.specs.declared.Offsets.{Offsets}
use Rattle.sets.specs.declared.Kept.{Kept}
use Rattle.sets.specs.Kept.{tasks_in, all_jobs_in, Keeps}
use Rattle.timetables.specs.Judged.{entries_behind, EntriesValid}
use Rattle.rebuilding.specs.Rebuilt.{TimetableBehind, longest_image, entries_put}
use Rattle.figures.specs.declared.Times.{Times}
use Rattle.figures.specs.Times.{TimesTold}
use Rattle.figures.proofs.Rebuilt.{valid, room, all_read, entries_stand}
use Rattle.figures.proofs.Measuring.{can_put_times, filled, same_many}
use Rattle.figures.proofs.put_figures.Goals as goal

-- the scratch is as long as the longest image
long : length (replicate {A = ℕ} 28971 0) ≡ longest_image
long = length-replicate {A = ℕ} 28971 0

-- what the walk tells of the timetable behind the image, whose entries were put in the scratch
told : {bytes : List ℕ} {ts : Set} {kept : Kept} {first : Offsets} {τ : List Entry} {out : List ℕ} {t : Times} →
    TimetableBehind bytes ts first τ → Keeps ts kept → out ≡ entries_put (replicate 28971 0) (tasks_in kept) τ →
    ((us : Set) → EntriesValid us out kept (all_jobs_in kept) → TimesTold us (entries_behind out us (all_jobs_in kept)) t) → TimesTold ts τ t
told b keeps put walked = rw (all_read b keeps _ long put) at (walked _ (entries_stand b keeps _ long put))

pub put_entries-requires : goal.put_entries-requires
put_entries-requires c = let can = c.requires.1 in (_, room can.behind can.keeps _ long)

pub walk-requires : goal.walk-requires
walk-requires c = let can = c.requires.1 in (_, entries_stand can.behind can.keeps _ long (c.put_entries.ensures _ _ can.keeps can.behind))

pub put_times-requires : goal.put_times-requires
put_times-requires c =
    let can = c.requires.1 in
    let times = told can.behind can.keeps (c.put_entries.ensures _ _ can.keeps can.behind) c.walk.ensures in
    can_put_times can.keeps (valid can.behind can.keeps) times (omega arith)

pub returns : goal.returns
returns c =
    let can = c.requires.1 in
    λ ts τ keeps b.
    let times = told b keeps (c.put_entries.ensures ts τ keeps b) c.walk.ensures in
    rw c.put_times.ensures
    (filled keeps (valid b keeps) times (same_many keeps can.keeps can.are) _ can.room (rw c.put_times.ensures at (c.fill.ensures ts keeps)))
