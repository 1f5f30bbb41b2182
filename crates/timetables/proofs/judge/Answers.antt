-- `timetables::judge` meets its contract: by framing, by the set or by the entries. Assumes nothing.
use Rattle.std.proofs.Common.{rules, refl, arith}
use Rattle.fields.proofs.Laws.{bytes_by_index}
use Rattle.rules.specs.Tasks.{memory_set}
use Rattle.timetables.specs.Judged.{Walked}
use Rattle.timetables.proofs.ImagesJudged.{SetBehind, set_stands, set_fault_place, judged_by_set, few_entries, walk_reached, judged_told}
use Rattle.timetables.proofs.judge.Goals as goal
use Rattle.timetables.proofs.judge.Goals.{After-read_set-set, After-walk_entries-w}

-- the set is that behind whose tasks framing has come to a place
set_behind : (c : After-read_set-set) → SetBehind c.args.image.now c.in_ok-p.p c.read_set-set.result
set_behind c =
    let p = rw c.number-kind.ensures at c.in_ok-p.ensures in
    record { fits = bytes_by_index c.args.image.now (λ i. (c.type_inv.image i).fits); re = p.0; behind = p.1; is = c.read_set-set.ensures }

-- what the walk over the entries of a good set tells
walked : (c : After-walk_entries-w) → SetBehind c.args.image.now c.in_ok-p.p c.read_set-set.result →
    Walked (memory_set c.read_set-set.result) c.args.image.now c.args.count c.walk_entries-w.result
walked c s = c.walk_entries-w.ensures _ (set_stands s (c.in_default.ensures.keeps _ refl))

pub set_refused-requires : goal.set_refused-requires
set_refused-requires c = set_fault_place (set_behind (goal.at.set_refused-requires c).After-read_set-set) c.in-Err.ensures.answer

pub returns-in-Err : goal.returns-in-Err
returns-in-Err c =
    let s = set_behind (goal.at.returns-in-Err c).After-read_set-set in
    judged_by_set s c.in-Err.ensures.answer (rw c.number-kind.ensures at c.in_ok-frame_from.ensures) (rw c.set_refused.ensures refl)

pub walk_entries-w-requires : goal.walk_entries-w-requires
walk_entries-w-requires c =
    (_, set_stands (set_behind (goal.at.walk_entries-w-requires c).After-read_set-set) (c.in_default.ensures.keeps _ refl))

pub past-behind-requires : goal.past-behind-requires
past-behind-requires c =
    let a = goal.at.past-behind-requires c in
    let s = set_behind a.After-read_set-set in
    let few = few_entries s (walked a.After-walk_entries-w s) in
    record { index = omega arith; offset = omega arith }

pub frame_from-requires-2 : goal.frame_from-requires-2
frame_from-requires-2 c =
    let a = goal.at.frame_from-requires-2 c in
    let s = set_behind a.After-read_set-set in
    rw (c.past-behind.ensures, c.number-kind.ensures) (walk_reached s (walked a.After-walk_entries-w s))

pub returns-in_err-frame_from-2 : goal.returns-in_err-frame_from-2
returns-in_err-frame_from-2 c = let refused = rw c.number-kind.ensures at c.in_err-frame_from-2.ensures in search rules

pub told-requires : goal.told-requires
told-requires c =
    let a = goal.at.told-requires c in
    let s = set_behind a.After-read_set-set in
    omega (arith, few_entries s (walked a.After-walk_entries-w s))

pub returns : goal.returns
returns c =
    let a = goal.at.returns c in
    let s = set_behind a.After-read_set-set in
    judged_told s (walked a.After-walk_entries-w s) (c.in_default.ensures.keeps _ refl) (rw c.number-kind.ensures at c.in_ok-frame_from-2.ensures)
    c.told.ensures
