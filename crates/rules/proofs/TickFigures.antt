-- The ticks of a valid timetable of a good set: each is what document 02 calls it, and the counts are had entry by entry. Assumes nothing.
use mathlib.Core.Path.{◌≡◌}
use mathlib.Core.List.{List, []}
use Prim.Native.Nat.{ℕ, ◌+◌, ◌-◌, ◌≤◌, ◌<◌}
use native.Mathlib.Omega.{arith}
use Rattle.rules.specs.declared.Entry.{Entry}
use Rattle.rules.specs.Tasks.{Set, GoodSet, hyperperiod}
use Rattle.rules.specs.Timetable.{ValidTimetable}
use Rattle.rules.specs.Priority.{setting_of, setting}
use Rattle.rules.specs.Ticks.{is_busy, is_forced, is_other, IsKind, kind, ticks_that, busy_ticks, forced_ticks, other_ticks}
use Rattle.rules.proofs.GoodSets.{good_rules}
use Rattle.rules.proofs.ValidTimetables.{valid_timetable}
use Rattle.rules.proofs.TickCounts.{ticks_counted, ticks_add_up}
use Rattle.rules.proofs.TickKinds.{valid_runs, kind_is}

pub record TickFigures (ts : Set) (h : ℕ) (τ : List Entry) : Type 0 where
  -- every tick is what document 02 calls it
  pub kinds : (tick : ℕ) → tick < h → IsKind ts h τ tick (kind (setting_of ts h) [] τ tick)
  -- the counts tick by tick are those entry by entry
  pub busy : ticks_that (setting_of ts h) is_busy [] τ ≡ busy_ticks (setting_of ts h) τ
  pub forced : ticks_that (setting_of ts h) is_forced [] τ ≡ forced_ticks (setting_of ts h) [] 0 τ
  pub other : ticks_that (setting_of ts h) is_other [] τ ≡ other_ticks (setting_of ts h) [] 0 τ
  -- they add up to the cycle
  pub whole : ticks_that (setting_of ts h) is_busy [] τ + (ticks_that (setting_of ts h) is_forced [] τ + ticks_that (setting_of ts h) is_other [] τ) ≡ h

pub tick_figures : {ts : Set} {h : ℕ} {τ : List Entry} → GoodSet ts h → ValidTimetable ts h τ → TickFigures ts h τ
tick_figures {ts} {h} {τ} g v =
    let valid = (valid_timetable ts h τ).1 v in
    let r = valid_runs ts h (good_rules g) valid (omega arith) in
    let b : ticks_that (setting_of ts h) is_busy [] τ ≡ busy_ticks (setting_of ts h) τ = omega (arith, ticks_counted (setting_of ts h) r is_busy) in
    let f : ticks_that (setting_of ts h) is_forced [] τ ≡ forced_ticks (setting_of ts h) [] 0 τ = omega (arith, ticks_counted (setting_of ts h) r is_forced) in
    let o : ticks_that (setting_of ts h) is_other [] τ ≡ other_ticks (setting_of ts h) [] 0 τ = omega (arith, ticks_counted (setting_of ts h) r is_other) in
    record { kinds = kind_is ts h (good_rules g) τ valid; busy = b; forced = f; other = o; whole = omega (arith, ticks_add_up (setting_of ts h) r) }

-- what a walk over the entries works out: busy and forced idle, and other idle as what they leave of the cycle
pub record TicksEntrywise (ts : Set) (τ : List Entry) : Type 0 where
  pub busy : ticks_that (setting ts) is_busy [] τ ≡ busy_ticks (setting ts) τ
  pub forced : ticks_that (setting ts) is_forced [] τ ≡ forced_ticks (setting ts) [] 0 τ
  pub inside : busy_ticks (setting ts) τ + forced_ticks (setting ts) [] 0 τ ≤ hyperperiod ts
  pub other : ticks_that (setting ts) is_other [] τ ≡ hyperperiod ts - (busy_ticks (setting ts) τ + forced_ticks (setting ts) [] 0 τ)

pub ticks_entrywise : {ts : Set} {τ : List Entry} → GoodSet ts (hyperperiod ts) → ValidTimetable ts (hyperperiod ts) τ → TicksEntrywise ts τ
ticks_entrywise g v =
    let f = tick_figures g v in
    record { busy = f.busy; forced = f.forced; inside = omega (arith, f.whole); other = omega (arith, f.whole) }
