-- The first capacity of a cycle that has a valid timetable is not negative. Assumes nothing.
use mathlib.Core.Path.{◌≡◌}
use mathlib.Core.List.{List, [], ◌∷◌}
use Prim.Native.Nat.{ℕ, suc, ◌+◌, ◌-◌, ◌<◌}
use native.Mathlib.Omega.{arith}
use lib.ListN.{length}
use lib.IntN.{pos}
use lib.Signed.{◌<ℤ◌}
use Rattle.rules.specs.declared.Entry.{Entry}
use Rattle.rules.specs.Tasks.{Set, GoodSet}
use Rattle.rules.specs.Timetable.{ValidTimetable}
use Rattle.rules.specs.Intervals.{Interval, intervals, spare}
use Rattle.rules.specs.IntervalRules.{Fill, IsInterval, interval_at, capacity_at}
use Rattle.rules.proofs.ValidTimetables.{valid_timetable}
use Rattle.rules.proofs.CycleIntervals.{intervals_are}
use Rattle.rules.proofs.Capacities.{Fits, not_owing}
use Rattle.rules.proofs.WorkDue.{work_by, work_within, work_over}

module _ {ts : Set} {h : ℕ} {τ : List Entry} (g : GoodSet ts h) (v : ValidTimetable ts h τ) where
  -- at each interval the time so far holds the work so far
  time_holds : (p to-spare : ℕ) (xs : List Interval) (q : ℕ) → Fill p xs q → ((j : ℕ) → j < length xs → IsInterval ts h (interval_at xs j)) →
      to-spare + work_by ts h p ≡ p → Fits to-spare xs
  time_holds p to-spare [] q f each e = tt
  time_holds p to-spare (x ∷ xs) q f each e =
      let begins : x.begin ≡ p = f.0 in
      let over : work_by ts h x.end ≡ work_by ts h p + x.work = rw begins at (work_over ts h g.own_rules (each 0 (omega arith)) f.1) in
      let within = work_within ts h ((valid_timetable ts h τ).1 v) x.end in (
        omega (arith, f.1),
        time_holds x.end (to-spare + (x.end - x.begin) - x.work) xs q f.2 (λ j l. each (suc j) (omega arith)) (omega (arith, f.1)),
      )

  pub first_capacity : capacity_at (spare ts h) 0 <ℤ pos 0 → ⊥
  unfolding spare
  first_capacity =
      let are = intervals_are g in
      not_owing (intervals ts h)
      (time_holds 0 0 (intervals ts h) h are.fill are.each (omega (arith, work_within ts h ((valid_timetable ts h τ).1 v) 0)))
