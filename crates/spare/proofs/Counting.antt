-- Intervals counted by the walk backwards: what is counted and what is still to come are all of them. Assumes nothing.
use mathlib.Core.Path.{◌≡◌, ◌∙◌, ap}
use mathlib.Core.List.{List, []}
use Prim.Native.Nat.{ℕ, ◌+◌, ◌≤◌}
use native.Mathlib.Omega.{arith}
use lib.ListN.{length, length-append}
use Rattle.rules.specs.Tasks.{Set}
use Rattle.rules.specs.Intervals.{up_to, spare}
use Rattle.rules.proofs.FewIntervals.{spare_length}
use Rattle.sets.specs.declared.Kept.{Kept}
use Rattle.sets.specs.Kept.{tasks_in, hyperperiod_in, Keeps}
use Rattle.spare.specs.declared.Walk.{Walk}
use Rattle.spare.specs.declared.Step.{Step}
use Rattle.spare.specs.Walking.{LastDeadlines, Walks, to_come, SteppedBack}
use Rattle.spare.proofs.Backwards.{at_end, walk_begun, all_to_come}

module _ {ts : Set} {kept : Kept} where
  -- at the begin of the cycle nothing is still to come
  pub none_to_come : {dues : List ℕ} {w : Walk} → Walks ts kept dues w → w.behind ≤ 0 → to_come ts (hyperperiod_in kept) w ≡ []
  unfolding up_to
  none_to_come {w = w} W z =
      let behind : w.behind ≡ 0 = omega arith in
      let end : w.end ≡ 0 = omega (arith, W.near) in
      rw (behind, end)

  -- a step takes one
  pub one_fewer : {w : Walk} {s : Step} {dues : List ℕ} → SteppedBack ts kept w s dues →
      length (to_come ts (hyperperiod_in kept) w) ≡ length (to_come ts (hyperperiod_in kept) s.walk) + 1
  one_fewer {w} {s} b = ap length b.one ∙ length-append (to_come ts (hyperperiod_in kept) s.walk) _

-- so many are counted
pub record Counting (ts : Set) (kept : Kept) (dues : List ℕ) (w : Walk) (many : ℕ) : Type 0 where
  pub walks : Walks ts kept dues w
  pub rest : many + length (to_come ts (hyperperiod_in kept) w) ≡ length (spare ts (hyperperiod_in kept))
  pub few : many + w.behind ≤ hyperperiod_in kept

module _ {ts : Set} {kept : Kept} where
  pub counting_none : {dues : List ℕ} (keeps : Keeps ts kept) → LastDeadlines kept (tasks_in kept) dues → Counting ts kept dues (at_end keeps dues) 0
  counting_none keeps f = record {
    walks = walk_begun keeps f;
    rest = omega (arith, ap length (all_to_come keeps f), spare_length ts (hyperperiod_in kept));
    few = omega arith;
  }

  pub counting_more : {dues after : List ℕ} {w : Walk} {s : Step} {many : ℕ} → Counting ts kept dues w many → SteppedBack ts kept w s after →
      Counting ts kept after s.walk (many + 1)
  counting_more k b = record { walks = b.walks; rest = omega (arith, k.rest, one_fewer b); few = omega (arith, k.few, b.sooner) }

  pub counting_all : {dues : List ℕ} {w : Walk} {many : ℕ} → Counting ts kept dues w many → w.behind ≤ 0 → many ≡ length (spare ts (hyperperiod_in kept))
  counting_all k z = omega (arith, k.rest, ap length (none_to_come k.walks z))
