-- Room for the tasks: a framed image has at most 16 TK records, and they stand whole behind TS, so the set that is read of it is the one that the rule
-- book reads. Assumes nothing.
use mathlib.Core.Path.{◌≡◌, refl, ◌∙◌, ap}
use mathlib.Core.Bool.{true}
use mathlib.Core.List.{List, ◌++◌}
use Prim.Native.Nat.{ℕ, suc, ◌+◌, ◌*◌, ◌-◌, ◌≤◌}
use native.Mathlib.Omega.{arith}
use lib.ListN.{length, replicate, length-drop}
use Rattle.rules.specs.declared.Place.{Place}
use Rattle.rules.specs.declared.Layout.{Layout}
use Rattle.rules.specs.Refusals.{Judged, gives}
use Rattle.rules.specs.Priority.{slot}
use Rattle.rules.specs.Marks.{Mark, TS, TK, EN, row, size, head_length_of, values}
use Rattle.rules.specs.Framing.{start_place, may_follow, tasks_due, goes_on, ends, frame, set_in}
use Rattle.rules.specs.Dispatcher.{zero_task}
use Rattle.rules.specs.Tasks.{set_with, memory_set}
use Rattle.rules.proofs.Marked.{due_turn, later_turn, found_allowed}
use Rattle.rules.proofs.FramingTurns as turns
use Rattle.framing.specs.SetRead.{set_read}
use Rattle.framing.proofs.SetLaws.{set_read_is, set_tasks_many, set_tasks_are}
use Rattle.framing.proofs.PlaceLaws.{rank_due_is}
use Rattle.framing.proofs.TaskLaws.{counts_tasks}
use Rattle.framing.proofs.FromPlace.{frame_given}

-- the TK records of a place, with those still due, stand whole behind TS, and none is due behind them
record HasRoom (s : Place) : Type 0 where
  room : 1 ≤ s.rank → (s.tasks ≤ 16) × (head_length_of s.tasks ≤ s.offset + s.due * size TK)
  none_due : 2 ≤ s.rank → s.due ≡ 0

-- where so many TK records are due
room_due : (index offset due n : ℕ) → n ≤ 16 → head_length_of n ≤ offset + due * size TK → HasRoom (tasks_due index offset due n)
room_due index offset due n few h = record { room = λ r. (few, h); none_due = λ r. omega (arith, rank_due_is due) }

-- behind the TK records
room_behind : (s t : Place) → HasRoom s → 2 ≤ s.rank → s.offset ≤ t.offset → t.due ≡ s.due → t.tasks ≡ s.tasks → HasRoom t
room_behind s t h late further same-due same_tasks =
    let r = h.room (omega arith) in
    let none_left = h.none_due late in
    record { room = λ _. omega arith; none_due = λ _. omega arith }

-- a record that framing goes on behind keeps the room
room_after : {kind : ℕ} {s : Place} {m : Mark} {v : List ℕ} {t : Place} → HasRoom s → may_follow s.rank (row m).rank ≡ true →
    turns.After kind s m v (goes_on t) → HasRoom t
room_after {kind} {s = s} h turn (turns.past_head {v = v} e) =
    room_due (suc s.index) (s.offset + size TS) (slot v 2) (slot v 2) (counts_tasks kind s.index v e).1 (omega arith)
room_after {s = s} h turn turns.past_task =
    let r = h.room (omega (arith, due_turn s.rank (row TK).rank (omega arith) turn)) in
    room_due (suc s.index) (s.offset + size TK) (s.due - 1) s.tasks r.0 (omega arith)
room_after {s = s} {m = m} {t = t} h turn (turns.past_later l e c) =
    room_behind s t h (later_turn s.rank (row m).rank l turn).0 (omega arith) refl refl

-- where EN ends framing, there is room for all TK records of the layout
room_end : {kind : ℕ} {s : Place} {m : Mark} {v : List ℕ} {l : Layout} → HasRoom s → may_follow s.rank (row m).rank ≡ true →
    turns.After kind s m v (ends (gives l)) → (l.tasks ≤ 16) × (head_length_of l.tasks ≤ s.offset)
room_end {s = s} h turn (turns.past_end e) =
    let late = (later_turn s.rank (row EN).rank (omega arith) turn).0 in
    omega (arith, h.room (omega arith), h.none_due late)

room_framed : {kind : ℕ} {s : Place} {bytes : List ℕ} {z : Judged Layout} → turns.Frames kind s bytes z → (l : Layout) → z ≡ gives l → HasRoom s →
    (l.tasks ≤ 16) × (head_length_of l.tasks ≤ s.offset + length bytes)
room_framed (turns.too_short c) l e h = cc
room_framed (turns.unmarked c d) l e h = cc
room_framed (turns.cut_off c d f) l e h = cc
room_framed {kind} (turns.stops {s = s} {bytes = bytes} {m = m} w a) l e h =
    let r = room_end h (found_allowed kind s bytes m w.marked).its_turn (turns.by_after kind s m (values m bytes) (a ∙ ap ends e)) in
    omega arith
room_framed {kind} (turns.goes {s = s} {t = t} {bytes = bytes} {m = m} w a f) l e h =
    let behind = turns.by_after kind s m (values m bytes) a in
    let r = room_framed f l e (room_after h (found_allowed kind s bytes m w.marked).its_turn behind) in
    omega (arith, (turns.moves behind).1, w.not_cut, length-drop (size m) bytes)

-- a framed image has at most 16 tasks, and room for them
pub framed_room : (kind : ℕ) (bytes : List ℕ) (l : Layout) → frame kind bytes ≡ gives l → (l.tasks ≤ 16) × (head_length_of l.tasks ≤ length bytes)
framed_room kind bytes l e =
    let start : HasRoom start_place = record { room = λ r. absurd (omega arith); none_due = λ r. absurd (omega arith) } in
    omega (arith, room_framed (turns.frames kind start_place bytes) l (frame_given kind bytes l e) start)

-- so the set that is read of it is the one that the rule book reads
pub framed_set : (kind : ℕ) (bytes : List ℕ) (l : Layout) → frame kind bytes ≡ gives l →
    set_read l.tasks bytes ≡ record { n = l.tasks; tasks = (set_in l bytes).tasks ++ replicate (16 - l.tasks) zero_task }
framed_set kind bytes l e = let r = framed_room kind bytes l e in set_read_is bytes l r.1

-- and its first slots hold the tasks
pub tasks_framed : (kind : ℕ) (bytes : List ℕ) (l : Layout) → frame kind bytes ≡ gives l → memory_set (set_read l.tasks bytes) ≡ set_in l bytes
unfolding memory_set
tasks_framed kind bytes l e = ap set_with (rw (set_tasks_many bytes l.tasks) (set_tasks_are bytes l.tasks (framed_room kind bytes l e).1))
