-- The next start of a state, as the code makes it out of what it was answered. Assumes nothing.
use mathlib.Core.Path.{◌≡◌, sym, ◌∙◌, ap, subst}
use mathlib.Core.List.{List}
use Prim.Native.Nat.{ℕ, ◌+◌, ◌*◌, ◌<◌}
use native.Mathlib.Omega.{arith}
use native.Mathlib.Nat.{div-le_self, zero-add}
use Rattle.rules.specs.declared.Dispatcher.{Dispatcher as State}
use Rattle.rules.specs.declared.Turn.{Turn}
use Rattle.std.specs.Prelude.{Result, Ok, Err, length}
use Rattle.rules.specs.Refusals.{refusal}
use Rattle.rules.specs.Tasks.{task, hyperperiod}
use Rattle.rules.specs.Priority.{slot, setting}
use Rattle.rules.specs.Located.{located}
use Rattle.rules.specs.Offsets.{Standing, lent as lent_by, past_own, standing, NextStart, next_is, next_start}
use Rattle.rules.specs.Dispatcher.{stopped, set_of, refused, started}
use Rattle.rules.proofs.Cases.{clash}
use Rattle.rules.proofs.GoodSets.{set_good}
use Rattle.rules.proofs.NextTurns.{next_keeps_rules}
use Rattle.rules.proofs.StuckStarts.{by_next}
use Rattle.numbers.specs.Numbers.{number_at, numbers_from, state_from}
use Rattle.numbers.proofs.FilledSlots.{all_slots}
use Rattle.sets.specs.declared.Kept.{Kept}
use Rattle.sets.specs.Kept.{tasks_in, hyperperiod_in}
use Rattle.decision.specs.declared.Found.{Found}
use Rattle.decision.specs.declared.Stuck.{Stuck}
use Rattle.decision.specs.Fits.{Stands}
use Rattle.decision.specs.Next.{inverts, stuck_number, numbered, next_case, FindsNext}
use Rattle.dispatcher.specs.Stored.{with_start, start_from}
use Rattle.dispatcher.specs.States.{front_at, CanStart}

-- the turn that starts a task's next job, at an absolute time
abbrev pub turn_with : State → Found → ℕ → Turn
turn_with d f time = record {
  answer = Ok (record { task = f.task; job = slot d.next f.task; cycle = d.cycle; time = time });
  state = with_start d f;
}

-- releases may be copied
pub copied_starts : {lent releases copy : List ℕ} {kept : Kept} {free : ℕ} → CanStart lent kept releases free → copy ≡ numbers_from releases 0 → length releases ≡ 16 →
    CanStart lent kept copy free
copied_starts {lent} {releases} {copy} {kept} {free} can e sixteen =
    subst (λ (x : List ℕ). CanStart lent kept x free) (all_slots (λ (i : ℕ). number_at releases (0 + i)) releases 0 sixteen (λ i l. rw (zero-add i)) ∙ sym e) can

-- a state, with slots made of its next job numbers and offsets
module _ (bytes : List ℕ) {lent : List ℕ} {kept : Kept} {releases next offsets : List ℕ} {free : ℕ} (c : CanStart lent kept releases free)
    (n : next ≡ (state_from lent).next) (o : offsets ≡ (state_from lent).now.inversions) where
  abbrev d : State
  d = state_from lent

  -- they stand where the state does
  pub stands_made : Stands (set_of d) kept (record { next = next; release = releases; offsets = offsets }) (front_at d free)
  stands_made = rw (n, o) c.stands

  -- where the next start is looked for
  abbrev from : Standing (List ℕ)
  from = standing d.next free d.now.inversions d.now.idle

  -- the rule book's next start
  abbrev in_book : NextStart
  in_book = next_start (setting (set_of d)) (lent_by bytes (set_of d)) from

  -- a start with what it used
  abbrev told : ℕ → ℕ → ℕ → Found
  told i t w = record {
    task = i;
    start = t;
    idle = w;
    inversion = past_own ((lent_by bytes (set_of d)).inversion_shown (slot d.now.inversions i)) i (slot d.next i) (slot d.now.inversions i);
    inverts = inverts (set_of d) d.next t i;
  }

  -- what was answered is what the rule book has
  answered : (answer : Result Found Stuck) {s : NextStart} → FindsNext bytes kept (record { next = next; release = releases; offsets = offsets }) (front_at d free) answer → in_book ≡ s →
      numbered answer ≡ next_case (set_of d) bytes d.next d.now.inversions s
  answered answer is e = rw (n, o) at (is (set_of d) stands_made) ∙ ap (next_case (set_of d) bytes d.next d.now.inversions) e

  -- none is found: 25
  pub stuck_next : (stuck : Stuck) → FindsNext bytes kept (record { next = next; release = releases; offsets = offsets }) (front_at d free) (Err stuck) →
      refused (located bytes (refusal 25 0)) stopped ≡ start_from bytes d free
  stuck_next stuck is =
      by_next in_book (λ i t w g. let s : Err (stuck_number stuck) ≡ Ok (told i t w) = answered (Err stuck) is g in clash (cc))
      (λ m g. sym (ap (started bytes d d.cycle from) g))

  -- a start is found
  module _ {found : Found} (is : FindsNext bytes kept (record { next = next; release = releases; offsets = offsets }) (front_at d free) (Ok found)) where
    by_found : {A : Type 0} → ((i t w : ℕ) → in_book ≡ next_is i t w → told i t w ≡ found → A) → A
    by_found go =
        by_next in_book (λ i t w g. let s : Ok found ≡ Ok (told i t w) = answered (Ok found) is g in go i t w g (cc))
        (λ m g. let s : Ok found ≡ Err m = answered (Ok found) is g in clash (cc))

    -- the hyperperiod is kept
    cycle_is : hyperperiod_in kept ≡ hyperperiod (set_of d)
    cycle_is = (set_good (set_of d) (hyperperiod_in kept) c.stands.fits.set.good).1

    -- it is of a task of the set, and one more of its jobs can be counted
    pub found_task : (found.task < tasks_in kept) × (slot d.next found.task < hyperperiod_in kept)
    found_task =
        by_found
        (λ i t w g same.
        let rules = next_keeps_rules bytes (set_of d) from i t w g in
        let at_most = div-le_self (hyperperiod (set_of d)) (task (set_of d) i).period in
        rw (← same) (omega (arith, rules.a_task, c.stands.fits.set.n_tasks), omega (arith, rules.left, cycle_is, at_most)))

    -- the turn that makes the start
    pub found_turn : turn_with d found (d.cycle * hyperperiod_in kept + found.start) ≡ start_from bytes d free
    found_turn = by_found (λ i t w g same. rw (← same, cycle_is) (sym (ap (started bytes d d.cycle from) g)))
