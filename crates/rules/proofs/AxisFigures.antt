-- The promises on an axis: its figures are those that document 02 tells of and no others, and an image is measured exactly where it is accepted.
-- Assumes nothing.
use mathlib.Core.Path.{◌≡◌, refl, sym, ◌∙◌, ap, ap₂}
use mathlib.Core.Logic.{◌↔◌}
use mathlib.Core.Bool.{Bool}
use mathlib.Core.List.{List, [], ◌∷◌, ◌++◌}
use Prim.Native.Nat.{ℕ, ◌<◌}
use native.Mathlib.Omega.{arith}
use lib.ListN.{length}
use lib.Seq.{ext_get_or}
use lib.IntN.{ℤ, pos}
use Rattle.fields.specs.Number.{Bytes}
use Rattle.fields.proofs.Laws.{bytes_take}
use Rattle.rules.specs.declared.Layout.{Layout}
use Rattle.rules.specs.declared.Entry.{Entry}
use Rattle.rules.specs.Refusals.{Judged, gives, refuses}
use Rattle.rules.specs.Tasks.{Set, GoodSet}
use Rattle.rules.specs.Timetable.{ValidTimetable}
use Rattle.rules.specs.Priority.{setting_of}
use Rattle.rules.specs.Framing.{start_place, frame_records}
use Rattle.rules.specs.Operations.{Timed, rebuilt}
use Rattle.rules.specs.Several.{list_below}
use Rattle.rules.specs.Ticks.{Kind, busy, forced, other, IsKind, is_busy, is_forced, is_other, ticks, kind, ticks_that}
use Rattle.rules.specs.Lateness.{worst_lateness}
use Rattle.rules.specs.Intervals.{intervals, spare}
use Rattle.rules.specs.IntervalRules.{MeetsRule}
use Rattle.rules.specs.Axis.{figures_of, front_by, front, figures_in, measured}
use Rattle.rules.specs.AxisRules.{TicksAre, lateness_in, LatenessesAre, CapacitiesAre, AxisFigures, FiguresOfImage}
use Rattle.rules.proofs.Cases.{then_gives, gives_in}
use Rattle.rules.proofs.GoodSets.{set_good}
use Rattle.rules.proofs.Demand2 as demand2
use Rattle.rules.proofs.Several.{list_length, list_at}
use Rattle.rules.proofs.TickCounts.{ticks_inside}
use Rattle.rules.proofs.TickFigures.{tick_figures}
use Rattle.rules.proofs.WorstLateness.{worst_is, one_worst, lateness_range}
use Rattle.rules.proofs.CycleIntervals.{intervals_are}
use Rattle.rules.proofs.OneIntervals.{one_intervals}
use Rattle.rules.proofs.Capacities.{spare_meets, one_capacities}
use Rattle.rules.proofs.FirstCapacity.{first_capacity}

module _ {ts : Set} {h : ℕ} {τ : List Entry} (g : GoodSet ts h) (v : ValidTimetable ts h τ) where
  -- the ticks, the latenesses and the capacities that are worked out
  ticks_counted : TicksAre ts h τ (ticks_that (setting_of ts h) is_busy [] τ) (ticks_that (setting_of ts h) is_forced [] τ)
      (ticks_that (setting_of ts h) is_other [] τ)
  unfolding ticks_that
  ticks_counted =
      let f = tick_figures g v in
      record { kind_of = kind (setting_of ts h) [] τ; are_kinds = f.kinds; busy_are = refl; forced_are = refl; other_are = refl; whole = f.whole }

  latenesses_found : LatenessesAre ts τ (list_below (length ts.tasks) (worst_lateness ts τ))
  latenesses_found =
      let n : ℕ = length ts.tasks in
      let f : ℕ → ℤ = worst_lateness ts τ in
      let at : (i : ℕ) → i < n → lateness_in (list_below n f) i ≡ f i = λ i l. list_at n f i (pos 0) l in
      record {
        one_each = list_length n f;
        worst = λ i l. rw (at i l) (worst_is g v i l);
        in_time = λ i l u. (lateness_range g v (worst_is g v i l)).0 (rw (at i l) at u);
        in_range = λ i l u. (lateness_range g v (worst_is g v i l)).1 (rw (at i l) at u);
      }

  capacities_found : CapacitiesAre ts h (spare ts h)
  capacities_found = record { xs = intervals ts h; are_intervals = intervals_are g; meet_rule = spare_meets ts h; first = first_capacity g v }

  -- the figures of a good set and a valid timetable are document 02's
  pub axis_figures : AxisFigures ts h τ (figures_of ts τ)
  unfolding figures_of
  axis_figures = record {
    busy = ticks_that (setting_of ts h) is_busy [] τ;
    forced = ticks_that (setting_of ts h) is_forced [] τ;
    other = ticks_that (setting_of ts h) is_other [] τ;
    latenesses = list_below (length ts.tasks) (worst_lateness ts τ);
    capacities = spare ts h;
    in_order = rw (set_good ts h g).1;
    ticks_are = ticks_counted;
    latenesses_are = latenesses_found;
    capacities_are = capacities_found;
  }

module _ (ts : Set) (h : ℕ) (τ : List Entry) where
  -- a tick is of one kind
  one_kind : (tick : ℕ) (k l : Kind) → IsKind ts h τ tick k → IsKind ts h τ tick l → k ≡ l
  one_kind tick busy busy a b = refl
  one_kind tick busy forced a b = absurd (b.0 a)
  one_kind tick busy other a b = absurd (b.0 a)
  one_kind tick forced busy a b = absurd (a.0 b)
  one_kind tick forced forced a b = refl
  one_kind tick forced other a b = absurd (b.1 a.1)
  one_kind tick other busy a b = absurd (a.0 b)
  one_kind tick other forced a b = absurd (a.1 b.1)
  one_kind tick other other a b = refl

  -- so a cycle has one count of each kind, one list of latenesses and one of capacities
  one_count : {a b c d e f : ℕ} (x : TicksAre ts h τ a b c) (y : TicksAre ts h τ d e f) (is : Kind → Bool) →
      ticks h 0 (λ tick. is (x.kind_of tick)) ≡ ticks h 0 (λ tick. is (y.kind_of tick))
  one_count x y is =
      ticks_inside h 0 _ _
      (λ tick l m. let inside : tick < h = omega arith in
      ap is (one_kind tick (x.kind_of tick) (y.kind_of tick) (x.are_kinds tick inside) (y.are_kinds tick inside)))

  one_latenesses : {y z : List ℤ} → LatenessesAre ts τ y → LatenessesAre ts τ z → y ≡ z
  one_latenesses {y} {z} a b =
      ext_get_or (pos 0) y z (omega (arith, a.one_each, b.one_each))
      (λ i l. one_worst (a.worst i (omega (arith, a.one_each))) (b.worst i (omega (arith, a.one_each))))

  same_capacities : {c d : List ℤ} → CapacitiesAre ts h c → CapacitiesAre ts h d → c ≡ d
  same_capacities {c} {d} a b =
      let same : MeetsRule a.xs d = rw (one_intervals b.are_intervals a.are_intervals) at b.meet_rule in
      one_capacities a.xs c a.meet_rule ∙ sym (one_capacities a.xs d same)

-- no other figures are
pub one_axis : {ts : Set} {h : ℕ} {τ : List Entry} {x y : List ℤ} → AxisFigures ts h τ x → AxisFigures ts h τ y → x ≡ y
one_axis {ts} {h} {τ} a b =
    let t = a.ticks_are in
    let u = b.ticks_are in
    let busy-same : a.busy ≡ b.busy = t.busy_are ∙ one_count ts h τ t u is_busy ∙ sym u.busy_are in
    let forced-same : a.forced ≡ b.forced = t.forced_are ∙ one_count ts h τ t u is_forced ∙ sym u.forced_are in
    let other-same : a.other ≡ b.other = t.other_are ∙ one_count ts h τ t u is_other ∙ sym u.other_are in
    let rest = ap₂ ◌++◌ (one_latenesses ts h τ a.latenesses_are b.latenesses_are) (same_capacities ts h τ a.capacities_are b.capacities_are) in
    a.in_order ∙ ap₂ ◌∷◌ (ap pos busy-same) (ap₂ ◌∷◌ (ap pos forced-same) (ap₂ ◌∷◌ (ap pos other-same) rest)) ∙ sym b.in_order

-- the image at the front of bytes is of bytes
front_bytes : (bytes : List ℕ) → Bytes bytes → Bytes (front bytes)
unfolding front
front_bytes bytes b = by_layout (frame_records 2 start_place bytes)
  where
    by_layout : (z : Judged Layout) → Bytes (front_by z bytes)
    by_layout (gives l) = bytes_take l.ended bytes b
    by_layout (refuses r) = b

-- an image is measured exactly where some valid timetable has its tables, and its figures are that timetable's
pub measured_images : (bytes : List ℕ) → Bytes bytes → (figures : List ℤ) → (measured bytes ≡ gives figures) ↔ FiguresOfImage bytes figures
measured_images bytes b figures = (
  λ e. then_gives (rebuilt (front bytes)) (λ (i : Timed). gives (figures_in i)) figures e
      (λ i r q. let w = demand2.rebuilt_of (front bytes) (front_bytes bytes b) i r in
      let same : i ≡ record { set = w.0; entries = w.1 } = gives_in i _ (sym r ∙ demand2.rebuilds w.2) in
      let its : figures ≡ figures_of w.0 w.1 = sym (gives_in (figures_in i) figures q) ∙ ap figures_in same in
      record { set = w.0; entries = w.1; image = w.2; are_figures = rw its (axis_figures w.2.good w.2.valid) }),
  λ f. rw (demand2.rebuilds f.image) (ap gives (one_axis (axis_figures f.image.good f.image.valid) f.are_figures)),
)
