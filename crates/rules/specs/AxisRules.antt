-- The figures of an axis by what they are: document 02's words, R-4, as relations, with no word of how they are found. Assumes nothing.
use Rattle.std.specs.Prelude.{◌≡◌, List, ◌∷◌, ◌++◌, ℕ, ◌+◌, ◌<◌, length, get_or, ℤ, pos, negsuc, ◌<ℤ◌}
use Rattle.rules.specs.declared.Entry.{Entry}
use Rattle.rules.specs.Tasks.{Set}
use Rattle.rules.specs.Ticks.{Kind, IsKind, is_busy, is_forced, is_other, ticks}
use Rattle.rules.specs.Lateness.{IsWorst}
use Rattle.rules.specs.Intervals.{Interval}
use Rattle.rules.specs.IntervalRules.{AreIntervals, MeetsRule, capacity_at}
use Rattle.rules.specs.Promised.{TableImage}
use Rattle.rules.specs.Axis.{front}

-- how many ticks of the cycle are busy, forced idle and other idle
pub record TicksAre (ts : Set) (h : ℕ) (τ : List Entry) (busy forced other : ℕ) : Type 0 where
  pub kind_of : ℕ → Kind
  pub are_kinds : (tick : ℕ) → tick < h → IsKind ts h τ tick (kind_of tick)
  pub busy_are : busy ≡ ticks h 0 (λ tick. is_busy (kind_of tick))
  pub forced_are : forced ≡ ticks h 0 (λ tick. is_forced (kind_of tick))
  pub other_are : other ≡ ticks h 0 (λ tick. is_other (kind_of tick))
  -- they add up to the cycle
  pub whole : busy + (forced + other) ≡ h

-- lateness i of a list
abbrev pub lateness_in : List ℤ → ℕ → ℤ
lateness_in zs i = get_or zs i (pos 0)

-- the lateness of each task's worst job, from −65,534 to 0
pub record LatenessesAre (ts : Set) (τ : List Entry) (zs : List ℤ) : Type 0 where
  pub one_each : length zs ≡ length ts.tasks
  pub worst : (i : ℕ) → i < length ts.tasks → IsWorst ts τ i (lateness_in zs i)
  pub in_time : (i : ℕ) → i < length ts.tasks → pos 0 <ℤ lateness_in zs i → ⊥
  pub in_range : (i : ℕ) → i < length ts.tasks → lateness_in zs i <ℤ negsuc 65533 → ⊥

-- the spare capacity of each interval; the first has nothing to borrow from, and never has to
pub record CapacitiesAre (ts : Set) (h : ℕ) (cs : List ℤ) : Type 0 where
  pub xs : List Interval
  pub are_intervals : AreIntervals ts h xs
  pub meet_rule : MeetsRule xs cs
  pub first : capacity_at cs 0 <ℤ pos 0 → ⊥

-- the figures of a set's timetable, in document 02's order
pub record AxisFigures (ts : Set) (h : ℕ) (τ : List Entry) (figures : List ℤ) : Type 0 where
  pub busy : ℕ
  pub forced : ℕ
  pub other : ℕ
  pub latenesses : List ℤ
  pub capacities : List ℤ
  pub in_order : figures ≡ pos busy ∷ pos forced ∷ pos other ∷ (latenesses ++ capacities)
  pub ticks_are : TicksAre ts h τ busy forced other
  pub latenesses_are : LatenessesAre ts τ latenesses
  pub capacities_are : CapacitiesAre ts h capacities

-- the figures of the image at the front of bytes: of the timetable that has its tables
pub record FiguresOfImage (bytes : List ℕ) (figures : List ℤ) : Type 0 where
  pub set : Set
  pub entries : List Entry
  pub image : TableImage (front bytes) set entries
  pub are_figures : AxisFigures set image.h entries figures
