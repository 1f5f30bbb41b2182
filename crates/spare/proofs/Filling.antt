-- Capacities stored by the walk backwards: an output that holds those of the intervals passed. Assumes nothing.
use mathlib.Core.Path.{◌≡◌, sym, ◌∙◌, ap}
use mathlib.Core.List.{List, [], ◌∷◌, ◌++◌, append_assoc}
use Prim.Native.Nat.{ℕ, suc, ◌+◌, ◌-◌, ◌*◌, ◌≤◌, ◌<◌}
use native.Mathlib.Omega.{arith}
use lib.IntN.{ℤ, pos}
use lib.ListN.{length, get_or, set, take, drop, length-take, length-append, length-drop, take-append-drop}
use lib.Seq.{take_all, take-take, take_at, drop_at, drop-length, take-suc, set_at, append_snoc, length-take-le}
use lib.Signed.{mag}
use Rattle.rules.specs.Tasks.{Set, limits}
use Rattle.rules.specs.Intervals.{Interval, capacity, capacities, spare}
use Rattle.rules.proofs.FewIntervals.{capacities_length, spare_length}
use Rattle.sets.specs.declared.Kept.{Kept}
use Rattle.sets.specs.Kept.{tasks_in, hyperperiod_in, Keeps}
use Rattle.sets.proofs.SetKept.{one_set}
use Rattle.spare.specs.declared.Walk.{Walk}
use Rattle.spare.specs.declared.Step.{Step}
use Rattle.spare.specs.Walking.{LastDeadlines, Walks, to_come, SteppedBack, CanFill}
use Rattle.spare.proofs.Backwards.{at_end, walk_begun, all_to_come}
use Rattle.spare.proofs.Counting.{none_to_come, one_fewer}
use Rattle.spare.proofs.Capacities.{capacities_last, capacity_small}

-- they fit of every set that the rows are kept of
pub can_fill : {ts us : Set} {kept : Kept} {many : ℕ} {out : List ℤ} → CanFill ts kept many out → Keeps us kept → CanFill us kept many out
can_fill {kept = kept} can keeps = record {
  keeps = keeps;
  are = can.are ∙ ap (λ (s : Set). length (spare s (hyperperiod_in kept))) (one_set can.keeps keeps);
  room = can.room;
}

-- by how much a capacity can differ from the next one, for each tick of its interval
abbrev most : ℕ
most = limits.tasks * limits.ticks + 2

-- the walk before the interval with a capacity, with so many intervals still to come and the capacities of the others stored behind theirs
pub record Filling (ts : Set) (kept : Kept) (many : ℕ) (old : List ℤ) (dues : List ℕ) (w : Walk) (next : ℤ) (at : ℕ) (out : List ℤ) : Type 0 where
  pub walks : Walks ts kept dues w
  pub small : mag next + w.behind * most ≤ hyperperiod_in kept * most
  pub left : at ≡ length (to_come ts (hyperperiod_in kept) w)
  pub inside : at ≤ many
  pub to_do : take at (spare ts (hyperperiod_in kept)) ≡ capacities (to_come ts (hyperperiod_in kept) w) next
  pub filled : out ≡ take at old ++ (drop at (spare ts (hyperperiod_in kept)) ++ drop many old)

module _ {ts : Set} {kept : Kept} {many : ℕ} {old : List ℤ} (can : CanFill ts kept many old) where
  abbrev h : ℕ
  h = hyperperiod_in kept

  abbrev all : List ℤ
  all = spare ts h

  -- at first nothing is stored
  pub filling_none : {dues : List ℕ} → LastDeadlines kept (tasks_in kept) dues → Filling ts kept many old dues (at_end can.keeps dues) (pos 0) many old
  unfolding spare
  filling_none {dues} f =
      let none : drop many all ≡ [] = rw can.are (drop-length all) in
      record {
        walks = walk_begun can.keeps f;
        small = omega arith;
        left = omega (arith, can.are, spare_length ts h, ap length (all_to_come can.keeps f));
        inside = omega arith;
        to_do = take_all many all (omega (arith, can.are)) ∙ rw (all_to_come can.keeps f);
        filled = rw none (sym (take-append-drop many old));
      }

  module _ {dues : List ℕ} {w : Walk} {next : ℤ} {at : ℕ} {out : List ℤ} (F : Filling ts kept many old dues w next at out) where
    -- the output is as long as it was
    pub filling_length : length out ≡ length old
    filling_length =
        ap length F.filled
        ∙ simp (length-append, length-take, length-drop) (omega (arith, F.inside, can.are, can.room))

    -- at last everything is
    pub filling_all : w.behind ≤ 0 → out ≡ all ++ drop many old
    filling_all z = let e : at ≡ 0 = F.left ∙ ap length (none_to_come F.walks z) in F.filled ∙ rw e

    module _ {s : Step} {after : List ℕ} (b : SteppedBack ts kept w s after) where
      -- the interval of a step, those before it, and its capacity
      abbrev x : Interval
      x = record { begin = s.walk.behind; end = w.behind; work = s.work }

      abbrev others : List Interval
      others = to_come ts h s.walk

      abbrev z : ℤ
      z = capacity x next

      -- there is a place for it
      pub some_left : 0 < at
      some_left = omega (arith, F.left, one_fewer b)

      pub a_place : at - 1 < length old
      a_place = omega (arith, some_left, F.inside, can.room)

      -- it is no large number, and neither is the next one
      pub next_small : mag next ≤ h * most
      next_small = omega (arith, F.small)

      still_small : mag z + s.walk.behind * most ≤ h * most
      still_small = omega (arith, F.small, capacity_small x next, b.small, b.sooner)

      others_many : length (capacities others z) ≡ at - 1
      others_many = omega (arith, capacities_length others z, F.left, one_fewer b)

      -- the capacities up to it
      up_to_it : take at all ≡ capacities others z ++ (z ∷ [])
      up_to_it = F.to_do ∙ rw b.one (capacities_last others x next)

      before_it : take (at - 1) all ≡ capacities others z
      before_it = sym (take-take (at - 1) at all (omega arith)) ∙ rw up_to_it (take_at (capacities others z) (z ∷ []) (at - 1) others_many)

      from_it : drop (at - 1) all ≡ z ∷ drop at all
      from_it =
          ap (drop (at - 1)) (sym (take-append-drop at all) ∙ rw (up_to_it, append_assoc))
          ∙ drop_at (capacities others z) (z ∷ drop at all) (at - 1) others_many

      -- the output with its place apart
      place_apart : out ≡ take (at - 1) old ++ (get_or old (at - 1) (pos 0) ∷ (drop at all ++ drop many old))
      place_apart =
          let now : at ≡ suc (at - 1) = omega (arith, some_left) in
          let one_more : take at old ≡ take (at - 1) old ++ (get_or old (at - 1) (pos 0) ∷ []) =
          ap (λ (k : ℕ). take k old) now ∙ take-suc old (at - 1) (pos 0) a_place in
          F.filled ∙ rw one_more (append_snoc (take (at - 1) old) (get_or old (at - 1) (pos 0)) (drop at all ++ drop many old))

      -- one more is stored
      pub filling_more : {v : ℤ} → v ≡ z → Filling ts kept many old after s.walk v (at - 1) (set out (at - 1) v)
      filling_more e =
          let front : length (take (at - 1) old) ≡ at - 1 = length-take-le (at - 1) old (omega (arith, a_place)) in
          rw e
          (record {
            walks = b.walks;
            small = still_small;
            left = omega (arith, F.left, one_fewer b);
            inside = omega (arith, F.inside);
            to_do = before_it;
            filled =
                ap (λ (o : List ℤ). set o (at - 1) z) place_apart
                ∙ set_at (take (at - 1) old) (get_or old (at - 1) (pos 0)) (drop at all ++ drop many old) z (at - 1) front
                ∙ rw from_it;
          })
