-- What framing promises: its contract leaves one answer, and an answer tells what the rule book's framing comes to. Assumes nothing.
use mathlib.Core.Path.{◌≡◌, sym, ◌∙◌, ap}
use mathlib.Core.Bool.{Bool}
use mathlib.Core.List.{List}
use Prim.Native.Nat.{ℕ, suc, ◌≤◌}
use native.Mathlib.Omega.{arith}
use lib.ListN.{get_or, drop}
use Rattle.std.specs.Prelude.{Result, Ok, Err}
use Rattle.rules.specs.declared.Place.{Place}
use Rattle.rules.specs.declared.Layout.{Layout}
use Rattle.rules.specs.declared.Located.{Located}
use Rattle.rules.specs.Refusals.{Judged, gives}
use Rattle.rules.specs.Marks.{head_count_of, head_length_of}
use Rattle.rules.specs.Located.{bare, RefusedAt}
use Rattle.rules.proofs.Locations.{one_refused, answer_refuses, answered_gives}
use Rattle.rules.proofs.FramingTurns as turns
use Rattle.framing.specs.Frames.{BehindTasks, TasksFramed, frame_as, frame_answer}
use Rattle.framing.proofs.PlaceLaws.{place_path}
use Rattle.framing.proofs.FromPlace.{refused_from}

-- two results that meet the contract of `frame` are equal
pub one_answer : (whole : Bool) (kind : ℕ) (bytes : List ℕ) (r q : Result Layout Located) → r ≡ frame_answer bytes (frame_as whole kind bytes) →
    q ≡ frame_answer bytes (frame_as whole kind bytes) → r ≡ q
one_answer whole kind bytes r q e f = e ∙ sym f

-- what is framed has that layout, and what is refused that refusal
pub framed_is : (bytes : List ℕ) (z : Judged Layout) (l : Layout) → Ok l ≡ frame_answer bytes z → z ≡ gives l
framed_is bytes z l e = let a = answered_gives (λ (k : Layout). k) bytes z l (sym e) in a.1 ∙ ap gives a.2

pub refused_is : (bytes : List ℕ) (z : Judged Layout) (r : Located) → Err r ≡ frame_answer bytes z → RefusedAt bytes z r
refused_is bytes z r e = answer_refuses (λ (k : Layout). k) bytes z r (sym e)

-- the place behind n tasks
abbrev behind : ℕ → Place
behind n = record { index = head_count_of n; offset = head_length_of n; rank = 2; due = 0; tasks = n; listed = 0; inversions = 0 }

-- the place behind the tasks is told by the image
place_told : (bytes : List ℕ) (s : Place) → BehindTasks bytes s → s ≡ behind (get_or bytes 4 0)
place_told bytes s b =
    place_path s (behind (get_or bytes 4 0)) (omega (arith, b.index, b.tasks)) (omega (arith, b.offset, b.tasks)) b.rank b.due b.tasks b.listed b.inversions

-- framing from there on refuses no task
not_both : (kind : ℕ) (bytes : List ℕ) (s : Place) (r : Located) → TasksFramed kind bytes (Ok s) →
    TasksFramed kind bytes (Err r) → ⊥
not_both kind bytes s r a b =
    let late : suc (get_or bytes 4 0) ≤ s.index = omega (arith, a.1.index, a.1.tasks) in
    let f = turns.frames kind s (drop s.offset bytes) in
    omega (arith, b.1, late, refused_from f (bare r) (sym a.0.same ∙ b.0.judged))

-- two results that meet the contract of `frame_tasks` are equal
pub one_tasks_answer : (kind : ℕ) (bytes : List ℕ) (r q : Result Place Located) → TasksFramed kind bytes r → TasksFramed kind bytes q → r ≡ q
one_tasks_answer kind bytes (Ok s) (Ok t) a b = ap Ok (place_told bytes s a.1 ∙ sym (place_told bytes t b.1))
one_tasks_answer kind bytes (Ok s) (Err r) a b = absurd (not_both kind bytes s r a b)
one_tasks_answer kind bytes (Err r) (Ok s) a b = absurd (not_both kind bytes s r b a)
one_tasks_answer kind bytes (Err r) (Err q) a b =
    ap Err (one_refused a.0 b.0)
