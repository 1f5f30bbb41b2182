-- The figures of an accepted image: the first ones and the capacities behind them are document 02's. Assumes nothing.
use mathlib.Core.Path.{◌≡◌, sym, ◌∙◌, ap}
use mathlib.Core.List.{List, [], ◌++◌, append_assoc, append-nil}
use Prim.Native.Nat.{ℕ, ◌+◌, ◌-◌, ◌≤◌, ◌<◌}
use native.Mathlib.Omega.{arith}
use lib.ListN.{length, take, drop, length-append, length-drop, drop_of_length-le}
use lib.IntN.{ℤ, pos}
use lib.Seq.{ext_get_or, get_or-take, take_all, take_at, drop_at, drop-drop, length-take-le}
use borrow.Rule.Slice.PartMut.{mid_of, post_of, put_mid}
use Rattle.rules.specs.declared.Entry.{Entry}
use Rattle.rules.specs.Tasks.{Set, hyperperiod}
use Rattle.rules.specs.Timetable.{ValidTimetable}
use Rattle.rules.specs.Several.{list_below}
use Rattle.rules.specs.Lateness.{worst_lateness}
use Rattle.rules.specs.Intervals.{spare}
use Rattle.rules.specs.Axis.{figures_of}
use Rattle.rules.proofs.Several.{list_length, list_at}
use Rattle.rules.proofs.TickFigures.{ticks_entrywise}
use Rattle.sets.specs.declared.Kept.{Kept}
use Rattle.sets.specs.Kept.{tasks_in, hyperperiod_in, Keeps}
use Rattle.sets.proofs.SetKept.{kept_cycle, kept_good, one_set}
use Rattle.figures.specs.declared.Times.{Times}
use Rattle.figures.specs.Times.{TimesTold, first_figures, times_put, CanPutTimes}
use Rattle.figures.specs.Figures.{figures_put}

module _ {ts : Set} {kept : Kept} {τ : List Entry} {t : Times} (keeps : Keeps ts kept) (valid : ValidTimetable ts (hyperperiod ts) τ) (told : TimesTold ts τ t) where
  -- each task's lateness, in order
  latenesses : take (tasks_in kept) t.worst ≡ list_below (length ts.tasks) (worst_lateness ts τ)
  latenesses =
      let many = length-take-le (tasks_in kept) t.worst (omega (arith, told.slots, keeps.few)) in
      ext_get_or (pos 0) _ _ (many ∙ keeps.n_tasks ∙ sym (list_length (length ts.tasks) (worst_lateness ts τ)))
      (λ i l.
      let below : i < tasks_in kept = omega (arith, many) in
      let a_task : i < length ts.tasks = omega (arith, keeps.n_tasks) in
      get_or-take (tasks_in kept) t.worst i (pos 0) below ∙ told.worst i a_task ∙ sym (list_at (length ts.tasks) (worst_lateness ts τ) i (pos 0) a_task))

  -- the first figures and the capacities are all
  pub all_figures : first_figures kept t ++ spare ts (hyperperiod_in kept) ≡ figures_of ts τ
  unfolding figures_of
  all_figures =
      let e = ticks_entrywise (kept_good keeps) valid in
      rw (latenesses, told.busy, told.forced, kept_cycle keeps, e.busy, e.forced, e.other)

  first_many : length (first_figures kept t) ≡ tasks_in kept + 3
  first_many = omega (arith, length-take-le (tasks_in kept) t.worst (omega (arith, told.slots, keeps.few)))

  -- they can be put
  pub can_put_times : {out : List ℤ} → tasks_in kept + 3 ≤ length out → CanPutTimes kept t out
  can_put_times room = record {
    few = keeps.few;
    short = keeps.good.short;
    inside = omega (arith, (ticks_entrywise (kept_good keeps) valid).inside, told.busy, told.forced, kept_cycle keeps);
    slots = told.slots;
    room = room;
  }

  module _ {many : ℕ} (are : many ≡ length (spare ts (hyperperiod_in kept))) (old : List ℤ) (enough : tasks_in kept + 3 + many ≤ length old) where
    abbrev from : ℕ
    from = tasks_in kept + 3

    abbrev rest : ℕ
    rest = length (times_put kept t old) - from

    pub put_many : length (times_put kept t old) ≡ length old
    put_many = length-append (first_figures kept t) (drop from old) ∙ omega (arith, first_many, length-drop from old)

    -- behind them is room for the capacities, in the part that is lent
    part_is : mid_of from rest (times_put kept t old) ≡ drop from old
    part_is =
        let behind = drop_at (first_figures kept t) (drop from old) from first_many in
        ap (take rest) behind ∙ take_all rest (drop from old) (omega (arith, put_many, length-drop from old))

    -- and with them all figures are at the front
    pub filled : {part : List ℤ} → part ≡ spare ts (hyperperiod_in kept) ++ drop many (mid_of from rest (times_put kept t old)) →
        put_mid from rest (times_put kept t old) part ≡ figures_put ts τ old
    filled {part} is =
        let front = take_at (first_figures kept t) (drop from old) from first_many in
        let behind = drop_at (first_figures kept t) (drop from old) from first_many in
        let none : post_of from rest (times_put kept t old) ≡ [] =
        ap (drop rest) behind ∙ drop_of_length-le (drop from old) {i = rest} (omega (arith, put_many, length-drop from old)) in
        let all-many : length (figures_of ts τ) ≡ from + many =
        ap length (sym all_figures) ∙ length-append (first_figures kept t) (spare ts (hyperperiod_in kept)) ∙ omega (arith, first_many, are) in
        rw (front, none, is, part_is, append-nil, drop-drop many from old, all-many, ← all_figures)
        (sym (append_assoc (first_figures kept t) (spare ts (hyperperiod_in kept)) (drop (from + many) old)))

-- as many capacities as any set has that the rows are kept of
pub same_many : {ts us : Set} {kept : Kept} {many : ℕ} → Keeps ts kept → Keeps us kept → many ≡ length (spare us (hyperperiod_in kept)) →
    many ≡ length (spare ts (hyperperiod_in kept))
same_many {kept = kept} a b e = e ∙ ap (λ (vs : Set). length (spare vs (hyperperiod_in kept))) (one_set b a)
