-- What a good set has, and what its valid timetables and their tables have, can be written in an image. Assumes nothing.
use mathlib.Core.Path.{◌≡◌, refl, ap}
use mathlib.Core.Bool.{true}
use mathlib.Core.List.{List, [], ◌∷◌, map}
use mathlib.Core.Option.{none}
use Prim.Native.Nat.{ℕ, suc, ◌+◌, ◌-◌, ◌≤◌, ◌<◌}
use native.Mathlib.Omega.{arith}
use native.Mathlib.Nat.{le_of_dvd, div-le_self}
use lib.Dec.{ltb}
use lib.ListN.{length}
use borrow.Author.Tests.{ltb-true, leb-true}
use Rattle.fields.specs.Body.{Fit}
use Rattle.rules.specs.declared.Task.{Task}
use Rattle.rules.specs.declared.Entry.{Entry}
use Rattle.rules.specs.declared.Idle.{Idle}
use Rattle.rules.specs.declared.Inversion.{Inversion}
use Rattle.rules.specs.Tasks.{task_in, Set, limits, task, jobs, hyperperiod, GoodSet, set_fault}
use Rattle.rules.specs.Setting.{Setting}
use Rattle.rules.specs.Priority.{setting}
use Rattle.rules.specs.Irregularities.{at_most, insert, runs, forced_idles, inversion_of, inversions}
use Rattle.rules.specs.Judging.{inversion_in_range, tables}
use Rattle.rules.specs.Marks.{TK, SL, ID, PV, row}
use Rattle.rules.specs.Image.{of_task, of_entry, of_idle, of_inversion, Each, WritableTimetable, WritableTables}
use Rattle.rules.proofs.Cases.{by_bool, both_true}
use Rattle.rules.proofs.Theory.{Laws, ValidFrom, finished, entry, Rising}
use Rattle.rules.proofs.Derived.{idles_rising, Every, inversions_every}
use Rattle.rules.proofs.JudgedTables.{entry_in_range, laws}
use Rattle.rules.proofs.GoodSets.{good_set, good_positive, good_rules}
use Rattle.rules.proofs.ValidTimetables.{all_left, valid_from_length}

module _ {ts : Set} {h : ℕ} (g : GoodSet ts h) where
  -- a period is at most the hyperperiod
  period_in_cycle : (i : ℕ) → i < length ts.tasks → (task ts i).period ≤ h
  period_in_cycle i l = le_of_dvd (good_positive g) (g.is_hyperperiod.common i l)

  -- a task of a good set fits its record
  task_fits : (i : ℕ) → i < length ts.tasks → Fit (row TK).widths (of_task (task ts i))
  task_fits i l =
      let k = g.own_rules i l in
      let p = period_in_cycle i l in
      let s = g.short in
      (omega (arith, k.within), (omega (arith, k.within, k.fits), (omega arith, (omega (arith, k.within), tt))))

  -- an inversion in its range fits its record
  inversion_fits : (r : Inversion) → inversion_in_range ts h r ≡ true → Fit (row PV).widths (of_inversion r)
  inversion_fits r e =
      let u = both_true (ltb r.task (length ts.tasks)) _ e in
      let v = both_true (ltb r.job (jobs h (task ts r.task))) _ u.1 in
      let i : r.task < length ts.tasks = ltb-true _ _ u.0 in
      let j : r.job < jobs h (task ts r.task) = ltb-true _ _ v.0 in
      let k : r.delay ≤ (task ts r.task).deadline - (task ts r.task).time = leb-true _ _ v.1 in
      let p = period_in_cycle r.task i in
      let n = g.few_tasks in
      let s = g.short in
      (omega arith, (omega (arith, div-le_self h (task ts r.task).period), (omega (arith, (good_rules g r.task).within), tt)))

  -- and so do all inversions in their ranges
  inversions_fit : (p : List Inversion) → Every (inversion_in_range ts h) p → Each (row PV).widths (map of_inversion p)
  inversions_fit [] e = tt
  inversions_fit (r ∷ p) e = (inversion_fits r e.0, inversions_fit p e.1)

-- tasks that each fit fit together
tasks_fit : (ts : List Task) → ((i : ℕ) → i < length ts → Fit (row TK).widths (of_task (task_in ts i))) → Each (row TK).widths (map of_task ts)
tasks_fit [] fits = tt
tasks_fit (t ∷ ts) fits = (fits 0 (omega arith), tasks_fit ts (λ i l. fits (suc i) (omega arith)))

-- the entries of a valid timetable fit their records
entries_fit : (G : Setting) → Laws G → {x : G.Started} {f : ℕ} {τ : List Entry} → ValidFrom G x f τ → G.tasks ≤ limits.tasks →
    G.cycle_end ≤ limits.ticks → Each (row SL).widths (map of_entry τ)
entries_fit G L (finished o) n b = tt
entries_fit G L (entry {x = x} {f = f} {e = e} v w) n b =
    ((omega (arith, L.a_task x f e.task e.start v), (omega (arith, L.in_cycle x f e.task e.start v), tt)), entries_fit G L w n b)

-- idle records that rise within the cycle fit their records
idles_fit : (h from : ℕ) (idles : List Idle) → Rising h from idles → h ≤ limits.ticks → Each (row ID).widths (map of_idle idles)
idles_fit h from [] z b = tt
idles_fit h from (r ∷ idles) z b = ((omega (arith, z.2), (omega (arith, z.2), tt)), idles_fit h (suc (r.start + r.length)) idles z.3 b)

-- and are no more than the cycle has ticks left
pub idles_few : (h from : ℕ) (idles : List Idle) → Rising h from idles → length idles ≤ h - from
idles_few h from [] z = omega arith
idles_few h from (r ∷ idles) z = omega (arith, idles_few h (suc (r.start + r.length)) idles z.3, z.0, z.1, z.2)

-- a record inserted makes a table one longer
pub insert_length : (e : Inversion) (p : List Inversion) → length (insert e p) ≡ suc (length p)
insert_length e [] = refl
insert_length e (r ∷ p) =
    by_bool (at_most e.task e.job r.task r.job) (λ b. rw (b, insert)) (λ b. rw (b, insert) (ap suc (insert_length e p)))

-- a timetable has no more inversions than entries
pub inversions_few : (G : Setting) (x : G.Started) (τ : List Entry) → length (inversions G x τ) ≤ length τ
inversions_few G x [] = omega arith
inversions_few G x (e ∷ τ) =
    let q : List Inversion = inversions G (G.start_job x e.task) τ in
    by_bool (runs (G.baseline x e.start) e.task) (λ b. rw b (omega (arith, inversions_few G (G.start_job x e.task) τ)))
    (λ b. rw b (omega (arith, inversions_few G (G.start_job x e.task) τ, insert_length (inversion_of G x e) q)))

module _ (ts : Set) (τ : List Entry) (good : set_fault ts ≡ none) (valid : ValidFrom (setting ts) [] 0 τ) where
  -- a valid timetable has no more entries than a cycle may have jobs
  pub entries_few : length τ ≤ limits.jobs
  entries_few = omega (arith, valid_from_length ts (hyperperiod ts) valid, all_left (hyperperiod ts) ts.tasks, (good_set ts good).few_jobs)

  -- its forced idles rise within the cycle
  pub its_idles_rise : Rising (hyperperiod ts) 0 (forced_idles (setting ts) [] 0 τ)
  its_idles_rise = idles_rising (setting ts) (laws ts good) valid

  -- a valid timetable of a good set can be written
  pub valid_writable : WritableTimetable ts τ
  valid_writable =
      let g : GoodSet ts (hyperperiod ts) = good_set ts good in
      record {
        some_tasks = g.some_tasks;
        few_tasks = g.few_tasks;
        tasks_fit = tasks_fit ts.tasks (task_fits g);
        entries_fit = entries_fit (setting ts) (laws ts good) valid g.few_tasks g.short;
        count_fits = omega (arith, entries_few, g.few_tasks);
      }

  -- and so can its tables
  pub tables_writable : WritableTables ts (tables ts τ)
  tables_writable =
      let g : GoodSet ts (hyperperiod ts) = good_set ts good in
      record {
        some_tasks = g.some_tasks;
        few_tasks = g.few_tasks;
        tasks_fit = tasks_fit ts.tasks (task_fits g);
        idles_fit = idles_fit (hyperperiod ts) 0 (forced_idles (setting ts) [] 0 τ) its_idles_rise g.short;
        inversions_fit = inversions_fit g (inversions (setting ts) [] τ)
            (inversions_every (setting ts) (inversion_in_range ts (hyperperiod ts)) (entry_in_range ts (hyperperiod ts)) valid);
        count_fits = omega (
          arith,
          entries_few,
          idles_few (hyperperiod ts) 0 (forced_idles (setting ts) [] 0 τ) its_idles_rise,
          inversions_few (setting ts) [] τ,
          g.few_tasks,
          g.short,
        );
      }
