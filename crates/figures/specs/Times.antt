-- What a walk through a timetable's entries comes to, and what is put of it. Assumes nothing.
use Rattle.std.specs.Prelude.{◌≡◌, Bool, List, [], ◌∷◌, ◌++◌, ℕ, ◌+◌, ◌-◌, ◌≤◌, ◌<◌, length, get_or, set, take, drop, ℤ, pos}
use Rattle.std.specs.Int.Signed.{lt_z}
use Rattle.rules.specs.declared.Entry.{Entry}
use Rattle.rules.specs.Tasks.{Set, limits}
use Rattle.rules.specs.Timetable.{pick}
use Rattle.rules.specs.Priority.{setting}
use Rattle.rules.specs.Ticks.{busy_ticks, forced_ticks}
use Rattle.rules.specs.Lateness.{worst_lateness}
use Rattle.sets.specs.declared.Kept.{Kept}
use Rattle.sets.specs.Kept.{tasks_in, hyperperiod_in}
use Rattle.figures.specs.declared.Times.{Times}

-- the larger of a worst so far and one more, which it is for a first job
abbrev pub larger_of : Bool → ℤ → ℤ → ℤ
larger_of first worst late = pick first late (pick (lt_z worst late) late worst)

-- the worst of each task, after a job of task i with a lateness
abbrev pub worsened : List ℤ → ℕ → Bool → ℤ → List ℤ
worsened worst i first late = set worst i (larger_of first (get_or worst i (pos 0)) late)

-- the busy ticks and the forced idle of a set's timetable, and the lateness of each task's worst job in its slot
pub record TimesTold (ts : Set) (τ : List Entry) (t : Times) : Type 0 where
  pub busy : t.busy ≡ busy_ticks (setting ts) τ
  pub forced : t.forced ≡ forced_ticks (setting ts) [] 0 τ
  pub slots : length t.worst ≡ limits.tasks
  pub worst : (i : ℕ) → i < length ts.tasks → get_or t.worst i (pos 0) ≡ worst_lateness ts τ i

-- the first figures of a set with these rows: busy ticks, forced idle, other idle, and the lateness of each task
abbrev pub first_figures : Kept → Times → List ℤ
first_figures kept t = pos t.busy ∷ (pos t.forced ∷ (pos (hyperperiod_in kept - (t.busy + t.forced)) ∷ take (tasks_in kept) t.worst))

abbrev pub times_put : Kept → Times → List ℤ → List ℤ
times_put kept t old = first_figures kept t ++ drop (tasks_in kept + 3) old

pub record CanPutTimes (kept : Kept) (t : Times) (out : List ℤ) : Type 0 where
  pub few : tasks_in kept ≤ limits.tasks
  pub short : hyperperiod_in kept ≤ limits.ticks
  pub inside : t.busy + t.forced ≤ hyperperiod_in kept
  pub slots : length t.worst ≡ limits.tasks
  pub room : tasks_in kept + 3 ≤ length out
