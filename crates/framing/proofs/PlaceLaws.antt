-- Places in an image: the first one, and the one behind a record that framing goes on behind. Assumes nothing.
use mathlib.Core.Path.{◌≡◌, refl}
use mathlib.Core.Logic.{◌⊎◌, inl, inr}
use mathlib.Core.Bool.{true}
use mathlib.Core.List.{List}
use mathlib.Core.Option.{some}
use Prim.Native.Nat.{ℕ, zero, suc, ◌+◌, ◌-◌, ◌≤◌}
use native.Mathlib.Omega.{arith}
use lib.Dec.{eqb}
use lib.ListN.{length, drop}
use Rattle.rules.specs.declared.Place.{Place}
use Rattle.rules.specs.declared.Layout.{Layout}
use Rattle.rules.specs.declared.Refusal.{Refusal}
use Rattle.rules.specs.Refusals.{gives, refuses}
use Rattle.rules.specs.Tasks.{few_enough}
use Rattle.rules.specs.Priority.{slot}
use Rattle.rules.specs.Marks.{Mark, TS, TK, EN, row, size, head_count_of, front_mark}
use Rattle.rules.specs.Framing.{may_follow, rank_due, tasks_due, goes_on, ends, index_of_end, start_place}
use Rattle.rules.specs.Located.{Begins, at_the_front, behind_a_record}
use Rattle.rules.proofs.Cases.{by_bool}
use Rattle.rules.proofs.Marked.{not_lower, due_turn, later_turn}
use Rattle.rules.proofs.FramingTurns as turns
use Rattle.framing.specs.Frames.{Placed}

-- a place is told by its numbers
pub place_path : (p q : Place) → p.index ≡ q.index → p.offset ≡ q.offset → p.rank ≡ q.rank → p.due ≡ q.due → p.tasks ≡ q.tasks →
    p.listed ≡ q.listed → p.inversions ≡ q.inversions → p ≡ q
place_path p q a b c d e f g = λ i. record { index = a i; offset = b i; rank = c i; due = d i; tasks = e i; listed = f i; inversions = g i }

-- where a task is due, the rank is that of TK, and behind the last task it is 2
pub rank_due_is : (due : ℕ) → ((due ≡ 0) × (rank_due due ≡ 2)) ⊎ ((1 ≤ due) × (rank_due due ≡ 1))
rank_due_is zero = inl (refl, refl)
rank_due_is (suc due) = inr (omega arith, refl)

-- before the first record
pub placed_at_start : (bytes : List ℕ) → Placed bytes start_place
placed_at_start bytes = record {
  begins = at_the_front;
  inside = omega arith;
  few = omega arith;
  few_listed = omega arith;
  before_head = λ r. refl;
  tasks_due = λ r. omega arith;
  behind_tasks = λ r. omega arith;
}

-- behind the TK records
placed_behind : (bytes : List ℕ) (t : Place) → Begins bytes t.index t.offset → t.offset ≤ length bytes → t.index ≤ t.offset → 2 ≤ t.rank →
    t.index ≡ head_count_of t.tasks + (t.listed + t.inversions) → Placed bytes t
placed_behind bytes t begins inside few rank counted = record {
  begins = begins;
  inside = inside;
  few = few;
  few_listed = omega arith;
  before_head = λ r. omega arith;
  tasks_due = λ r. omega arith;
  behind_tasks = λ r. counted;
}

-- where so many TK records are due
placed_due : (bytes : List ℕ) (index offset due n : ℕ) → Begins bytes index offset → offset ≤ length bytes → index ≤ offset → index + due ≡ suc n →
    Placed bytes (tasks_due index offset due n)
placed_due bytes index offset due n begins inside few counted =
    let rank = rank_due_is due in
    record {
      begins = begins;
      inside = inside;
      few = few;
      few_listed = omega arith;
      before_head = λ r. omega (arith, rank);
      tasks_due = λ r. omega (arith, rank);
      behind_tasks = λ r. omega (arith, rank);
    }

-- a mark that comes behind the TK records finds them counted
counted_behind : {s : Place} (bytes : List ℕ) (m : Mark) → 2 ≤ (row m).rank → Placed bytes s → may_follow s.rank (row m).rank ≡ true →
    s.index ≡ head_count_of s.tasks + (s.listed + s.inversions)
counted_behind {s = s} bytes m h p turn = p.behind_tasks (later_turn s.rank (row m).rank h turn).0

-- a record that framing goes on behind leads to a place in the image
pub placed_after : {kind : ℕ} {s : Place} {m : Mark} {v : List ℕ} {t : Place} (bytes : List ℕ) → Placed bytes s →
    front_mark (drop s.offset bytes) ≡ some m → s.offset + size m ≤ length bytes → may_follow s.rank (row m).rank ≡ true →
    turns.After kind s m v (goes_on t) → Placed bytes t
placed_after {s = s} bytes p front whole turn (turns.past_head {v = v} e) =
    let first : s.rank ≡ 0 = due_turn s.rank (row TS).rank (omega arith) turn in
    let none_before = p.before_head first in
    placed_due bytes (suc s.index) (s.offset + size TS) (slot v 2) (slot v 2) (behind_a_record TS p.begins front whole) whole (omega arith) (omega arith)
placed_after {s = s} bytes p front whole turn turns.past_task =
    let counted = p.tasks_due (due_turn s.rank (row TK).rank (omega arith) turn) in
    placed_due bytes (suc s.index) (s.offset + size TK) (s.due - 1) s.tasks (behind_a_record TK p.begins front whole) whole (omega arith) (omega arith)
placed_after {m = m} {t = t} bytes p front whole turn (turns.past_later l e c) =
    let before = counted_behind bytes m l p turn in
    placed_behind bytes t (behind_a_record m p.begins front whole) whole (omega arith) (omega (arith, not_lower (row m))) (omega (arith, turns.counted c))

-- where EN ends framing, its index follows from the layout, and the tasks stand before it
pub end_index : {kind : ℕ} {s : Place} {m : Mark} {v : List ℕ} {l : Layout} (bytes : List ℕ) → Placed bytes s → may_follow s.rank (row m).rank ≡ true →
    turns.After kind s m v (ends (gives l)) → (index_of_end l ≡ s.index) × (2 ≤ s.rank)
end_index {s = s} bytes p turn (turns.past_end e) =
    (omega (arith, counted_behind bytes EN (omega arith) p turn), (later_turn s.rank (row EN).rank (omega arith) turn).0)

-- a record that is refused is the one at fault
pub refused_place : {kind : ℕ} {s : Place} {m : Mark} {v : List ℕ} {r : Refusal} → turns.After kind s m v (ends (refuses r)) → r.place ≡ s.index
refused_place {kind} (turns.bad_head {v = v} e) =
    by_bool (eqb (slot v 0) 1)
    (λ a. by_bool (eqb (slot v 1) kind)
    (λ b. by_bool (few_enough (slot v 2)) (λ d. let f = rw (a, b, d) at e in cc) (λ d. let f = rw (a, b, d) at e in cc))
    (λ b. let f = rw (a, b) at e in cc))
    (λ a. let f = rw a at e in cc)
refused_place (turns.bad_end n) = refl
