-- Framing of TS and the tasks: what is known at each place up to the one behind the last task. Assumes nothing.
use mathlib.Core.Path.{◌≡◌, refl, ◌∙◌, ap}
use mathlib.Core.Bool.{true}
use mathlib.Core.List.{List, [], ◌∷◌}
use mathlib.Core.Option.{none}
use Prim.Native.Nat.{ℕ, suc, ◌+◌, ◌-◌, ◌*◌, ◌≤◌, ◌<◌}
use native.Mathlib.Omega.{arith}
use borrow.Author.Tests.{leb-true}
use lib.Dec.{leb, eqb}
use lib.ListN.{length, get_or, drop}
use Rattle.std.specs.Prelude.{Ok, Err}
use Rattle.rules.specs.declared.Place.{Place}
use Rattle.rules.specs.declared.Located.{Located}
use Rattle.rules.specs.Refusals.{unless}
use Rattle.rules.specs.Tasks.{few_enough}
use Rattle.rules.specs.Priority.{slot}
use Rattle.rules.specs.Marks.{Mark, TS, TK, row, size, head_length_of, values}
use Rattle.rules.specs.Framing.{may_follow, head_fault, tasks_due, goes_on, start_place}
use Rattle.rules.proofs.Cases.{by_nat, both_true, first_none, unless_none}
use Rattle.rules.proofs.Marked.{due_turn, later_turn}
use Rattle.rules.proofs.FramingTurns as turns
use Rattle.framing.specs.declared.Step.TheVariants as step_case
use Rattle.framing.specs.Frames.{Placed, Steps, Reached, TowardsTasks, TasksFramed}
use Rattle.framing.proofs.PlaceLaws.{rank_due_is}
use Rattle.framing.proofs.StepLaws.{refused_frame}

-- a TS that passes its tests counts 1 to 16 tasks
pub counts_tasks : (kind index : ℕ) (v : List ℕ) → head_fault kind index v ≡ none → (1 ≤ slot v 2) × (slot v 2 ≤ 16)
counts_tasks kind index v e =
    let a = first_none (unless (eqb (slot v 0) 1) 3 index) _ e in
    let b = first_none (unless (eqb (slot v 1) kind) 4 index) _ a.1 in
    let c = both_true (leb 1 (slot v 2)) (leb (slot v 2) 16) (unless_none (few_enough (slot v 2)) 5 index b.1) in
    (leb-true 1 (slot v 2) c.0, leb-true (slot v 2) 16 c.1)

-- their number is the image's fifth byte
number_of_tasks : (bytes : List ℕ) → size TS ≤ length bytes → slot (values TS bytes) 2 ≡ get_or bytes 4 0
number_of_tasks [] h = absurd (omega arith)
number_of_tasks (a ∷ []) h = absurd (omega arith)
number_of_tasks (a ∷ b ∷ []) h = absurd (omega arith)
number_of_tasks (a ∷ b ∷ c ∷ []) h = absurd (omega arith)
number_of_tasks (a ∷ b ∷ c ∷ d ∷ []) h = absurd (omega arith)
number_of_tasks (a ∷ b ∷ c ∷ d ∷ n ∷ bytes) h = omega arith

-- before the first record
pub towards_at_start : (bytes : List ℕ) → TowardsTasks bytes start_place
towards_at_start bytes = record {
  first = λ r. (refl, refl);
  low = omega arith;
  none_due = λ r. refl;
  nothing_listed = (refl, refl);
  announced = λ r. omega arith;
  counted = λ r. omega arith;
}

-- where so many TK records are due
pub towards_due : (bytes : List ℕ) (index offset due n : ℕ) → n ≡ get_or bytes 4 0 → 1 ≤ n → n ≤ 16 → index + due ≡ suc n →
    offset + due * size TK ≡ head_length_of n → TowardsTasks bytes (tasks_due index offset due n)
towards_due bytes index offset due n e some few counted ends =
    let rank = rank_due_is due in
    record {
      first = λ r. omega (arith, rank);
      low = omega (arith, rank);
      none_due = λ r. omega (arith, rank);
      nothing_listed = (refl, refl);
      announced = λ r. (e, some, few);
      counted = λ r. (counted, ends);
    }

-- a record that framing goes on behind, where a task or TS is due, leads on
towards_after : {kind : ℕ} {s : Place} {m : Mark} {v : List ℕ} {t : Place} (bytes : List ℕ) → Placed bytes s → TowardsTasks bytes s → s.rank < 2 →
    t.offset ≤ length bytes → v ≡ values m (drop s.offset bytes) → may_follow s.rank (row m).rank ≡ true → turns.After kind s m v (goes_on t) →
    TowardsTasks bytes t
towards_after {kind} {s = s} bytes p w low inside read turn (turns.past_head {v = v} e) =
    let is-first : s.rank ≡ 0 = due_turn s.rank (row TS).rank (omega arith) turn in
    let at_start : s.offset ≡ 0 = (w.first is-first).0 in
    let n = counts_tasks kind s.index v e in
    let all : v ≡ values TS bytes = rw at_start at read in
    let is : slot v 2 ≡ get_or bytes 4 0 = ap (λ (u : List ℕ). slot u 2) all ∙ number_of_tasks bytes (omega arith) in
    towards_due bytes (suc s.index) (s.offset + size TS) (slot v 2) (slot v 2) is n.0 n.1 (omega (arith, p.before_head is-first)) (omega arith)
towards_after {s = s} bytes p w low inside read turn turns.past_task =
    let is_due : s.rank ≡ 1 = due_turn s.rank (row TK).rank (omega arith) turn in
    let a = w.announced (omega arith) in
    let c = w.counted (omega arith) in
    let some-due = p.tasks_due is_due in
    towards_due bytes (suc s.index) (s.offset + size TK) (s.due - 1) s.tasks a.0 a.1 a.2 (omega arith) (omega arith)
towards_after {s = s} {m = m} bytes p w low inside read turn (turns.past_later l e c) =
    absurd (omega (arith, (later_turn s.rank (row m).rank l turn).0))

-- a turn of framing TS and the tasks, with what one record comes to
module _ {kind : ℕ} {bytes : List ℕ} {s : Place} (re : Reached kind bytes s) (w : TowardsTasks bytes s) where
  -- behind the last task
  pub behind_last : 2 ≤ s.rank → TasksFramed kind bytes (Ok s)
  behind_last h =
      let a = w.announced (omega arith) in
      let c = w.counted (omega arith) in
      let no_more = w.none_due h in (
        re,
        record {
          rank = omega (arith, w.low);
          due = no_more;
          listed = w.nothing_listed.0;
          inversions = w.nothing_listed.1;
          tasks = a.0;
          some = a.1;
          few = a.2;
          index = omega arith;
          offset = omega arith;
        },
      )

  module _ (low : s.rank < 2) where
    -- the next place on the way
    pub leads_on : {t : Place} → Steps kind bytes s (Ok (step_case.GoesOn t)) → TowardsTasks bytes t
    leads_on f = let g = f.3 in towards_after bytes re.placed w low f.0.inside refl g.its_turn (turns.by_after kind s g.mark _ g.goes)

    -- a refusal of the record is the image's, at TS or a task
    pub refused_tasks : {q : Located} → Steps kind bytes s (Err q) → TasksFramed kind bytes (Err q)
    refused_tasks f = (
      refused_frame re f,
      by_nat s.rank (λ z. omega (arith, re.placed.before_head z)) (λ m z. omega (arith, w.announced (omega arith), re.placed.tasks_due (omega arith))),
    )
