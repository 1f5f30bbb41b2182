-- The inversions that are derived of a valid timetable are those of document 01, each once, with strictly rising pairs (task, job). Assumes nothing.
use mathlib.Core.Path.{◌≡◌, sym, ◌∙◌}
use mathlib.Core.Logic.{◌↔◌}
use mathlib.Core.Bool.{Bool, true, false}
use mathlib.Core.List.{List, [], ◌∷◌, Memᴰ}
use Prim.Native.Nat.{ℕ, suc, ◌+◌, ◌≤◌, ◌<◌}
use native.Mathlib.Omega.{arith}
use lib.Dec.{leb}
use lib.ListN.{length}
use borrow.Author.Tests.{ltb-true, leb-true, eqb-false, lt-ltb, le-leb, ne_eqb}
use Rattle.rules.specs.declared.Entry.{Entry}
use Rattle.rules.specs.declared.Inversion.{Inversion}
use Rattle.rules.specs.Tasks.{Set, task, release, jobs, KeepsItsRule}
use Rattle.rules.specs.Timetable.{entry_at}
use Rattle.rules.specs.Setting.{lowest}
use Rattle.rules.specs.Priority.{slot, start_job, is_left, waiting, by_priority, setting_of}
use Rattle.rules.specs.Irregularities.{NotStarted, IsInversion, runs, inversion_of, insert_unless, inversions}
use Rattle.rules.specs.Order.{PairRises}
use Rattle.rules.proofs.Cases.{by_bool, by_option, by_eq, by_le, differ, both_true, both_in}
use Rattle.rules.proofs.Theory.{ValidFrom, finished, entry}
use Rattle.rules.proofs.Lowest.{lowest_from_some, below_lowest, none_lowest}
use Rattle.rules.proofs.Pairs.{inversion_path}
use Rattle.rules.proofs.PriorityLaws.{StartKeepsRules, keeps_rules, setting_laws}
use Rattle.rules.proofs.Derived.{inversions_pairs}
use Rattle.rules.proofs.RisingPairs.{inserted, kept, by_insert, pairs_rise, rise_pairs, same_records}
use Rattle.rules.proofs.Positions.{Before, at_first, past_end, an_entry, is_entry, at_next}
use Rattle.rules.proofs.ForcedIdle.{releases_rise, not_below_slot, next_not_started}

module _ (ts : Set) (h : ℕ) (x : List ℕ) (s i : ℕ) where
  -- a waiting task that the baseline does not run: a lower one is waiting
  pub lower_waits : i < length ts.tasks → waiting ts h x s i ≡ true → runs (by_priority ts h x s) i ≡ false → (j : ℕ) × (j < i) × (waiting ts h x s j ≡ true)
  lower_waits a_task w e =
      by_option (lowest (length ts.tasks) (waiting ts h x s))
      (λ n. differ (sym w ∙ none_lowest (length ts.tasks) 0 (waiting ts h x s) n i (omega arith) (omega arith)))
      (λ k n. let ne : k ≡ i → ⊥ = eqb-false k i (rw n at e) in
      by_le k i (λ le. (k, omega arith, lowest_from_some (length ts.tasks) 0 (waiting ts h x s) k n))
      (λ gt. differ (sym w ∙ below_lowest (length ts.tasks) 0 (waiting ts h x s) k n i (omega arith) gt)))

  -- while a lower task is waiting the baseline does not run a task
  pub not_run : i < length ts.tasks → (j : ℕ) → j < i → waiting ts h x s j ≡ true → runs (by_priority ts h x s) i ≡ false
  not_run a_task j lt w =
      by_option (lowest (length ts.tasks) (waiting ts h x s))
      (λ n. rw n (ne_eqb (length ts.tasks) i (omega arith)))
      (λ k n. rw n (ne_eqb k i (λ q. differ (sym w ∙ below_lowest (length ts.tasks) 0 (waiting ts h x s) k n j (omega arith) (omega arith)))))

module _ (ts : Set) (h : ℕ) where
  -- a next job that is left and released is waiting
  pub next_waits : (x : List ℕ) (s i : ℕ) → slot x i < jobs h (task ts i) → release (task ts i) (slot x i) ≤ s → waiting ts h x s i ≡ true
  next_waits x s i a_job released = both_in (is_left ts h x i) (leb (release (task ts i) (slot x i)) s) (lt-ltb _ _ a_job) (le-leb _ _ released)

  module _ (τ : List Entry) {j : ℕ} {x : List ℕ} {f : ℕ} {e : Entry} {σ : List Entry} (b : Before ts h τ j x f (e ∷ σ))
      (keeps : StartKeepsRules ts h x f e.task e.start) where
    -- a start that the baseline would not make is an inversion
    start_inverts : runs (by_priority ts h x e.start) e.task ≡ false → IsInversion ts h τ (inversion_of (setting_of ts h) x e)
    start_inverts n =
        let w = next_waits x e.start e.task keeps.left keeps.released in
        let l = lower_waits ts h x e.start e.task keeps.a_task w n in
        let c = both_true (is_left ts h x l.0) _ l.2 in
        let q : entry_at τ j ≡ e = is_entry ts h τ b in
        record {
          j = j;
          an_entry = an_entry ts h τ b;
          same_task = rw q;
          same_job = rw q (sym (b.started e.task));
          start_is = rw q (omega (arith, keeps.released));
          lower = l.0;
          its_job = slot x l.0;
          is_lower = l.1;
          not_started = next_not_started ts h τ b (omega (arith, keeps.a_task, l.1)) (ltb-true _ _ c.0);
          released = rw q (leb-true _ _ c.1);
        }

    module _ {r : Inversion} (v : IsInversion ts h τ r) (here : v.j ≡ j) where
      -- the inversion's entry is this one
      entry_is : entry_at τ v.j ≡ e
      entry_is = rw here (is_entry ts h τ b)

      -- an inversion at this entry is the entry's own
      own_inversion : r ≡ inversion_of (setting_of ts h) x e
      own_inversion =
          let same_task : e.task ≡ r.task = rw entry_is at v.same_task in
          let same_job : slot x e.task ≡ r.job = b.started e.task ∙ (rw (entry_is, here) at v.same_job) in
          let start_is : e.start ≡ release (task ts e.task) (slot x e.task) + r.delay = rw (entry_is, ← same_task, ← same_job) at v.start_is in
          inversion_path r (inversion_of (setting_of ts h) x e) (sym same_task) (sym same_job) (omega arith)

      -- and the baseline would not make its start
      inverted_not_run : runs (by_priority ts h x e.start) e.task ≡ false
      inverted_not_run =
          let n : NotStarted ts h τ j v.lower v.its_job = rw here at v.not_started in
          let le : slot x v.lower ≤ v.its_job = not_below_slot ts h τ b n in
          let same_task : e.task ≡ r.task = rw entry_is at v.same_task in
          let released : release (task ts v.lower) v.its_job ≤ e.start = rw entry_is at v.released in
          let w = next_waits x e.start v.lower (omega (arith, n.a_job))
          (omega (arith, releases_rise (task ts v.lower) (slot x v.lower) v.its_job le)) in
          not_run ts h x e.start e.task keeps.a_task v.lower (omega (arith, v.is_lower)) w

  -- a table keeps its records whether a record is inserted or not
  kept_unless : {r : Inversion} (made : Bool) (e : Inversion) (p : List Inversion) → Memᴰ r p → Memᴰ r (insert_unless made e p)
  kept_unless true e p m = m
  kept_unless false e p m = kept e p m

  module _ (τ : List Entry) where
    -- from any entry on, what is derived is an inversion
    derived_from : {j : ℕ} {x : List ℕ} {f : ℕ} {σ : List Entry} → Before ts h τ j x f σ → ValidFrom (setting_of ts h) x f σ →
        (r : Inversion) → Memᴰ r (inversions (setting_of ts h) x σ) → IsInversion ts h τ r
    derived_from b (finished all) r m = absurd (mathlib.Core.List.Memᴰ.not-nil m)
    derived_from {j = j} b (entry {x = x} {e = e} {τ = σ} ok valid) r m =
        let later : Memᴰ r (inversions (setting_of ts h) (start_job x e.task) σ) → IsInversion ts h τ r =
        derived_from {j = suc j} (at_next ts h τ b) valid r in
        by_bool (runs (by_priority ts h x e.start) e.task) (λ n. later (rw n at m))
        (λ n. by_insert (inversion_of (setting_of ts h) x e) (inversions (setting_of ts h) (start_job x e.task) σ) (rw n at m)
        (λ q. rw q (start_inverts τ b (keeps_rules ts h _ _ _ _ ok) n)) later)

    -- from any entry on, an inversion is derived
    inversion_from : {j : ℕ} {x : List ℕ} {f : ℕ} {σ : List Entry} → Before ts h τ j x f σ → ValidFrom (setting_of ts h) x f σ →
        (r : Inversion) (v : IsInversion ts h τ r) → j ≤ v.j → Memᴰ r (inversions (setting_of ts h) x σ)
    inversion_from b (finished all) r v le = absurd (omega (arith, past_end ts h τ b, v.an_entry))
    inversion_from {j} b (entry {x = x} {e = e} {τ = σ} ok valid) r v le =
        let rest : List Inversion = inversions (setting_of ts h) (start_job x e.task) σ in
        let keeps = keeps_rules ts h _ _ _ _ ok in
        by_eq v.j j
        (λ here. rw (inverted_not_run τ b keeps v here) (inserted (inversion_of (setting_of ts h) x e) rest (own_inversion τ b keeps v here)))
        (λ past. kept_unless (runs (by_priority ts h x e.start) e.task) (inversion_of (setting_of ts h) x e) rest
        (inversion_from {j = suc j} (at_next ts h τ b) valid r v (omega arith)))

  -- the inversions that are derived of a valid timetable are those of the document
  pub derived_inversions : (τ : List Entry) → ValidFrom (setting_of ts h) [] 0 τ → (r : Inversion) →
      Memᴰ r (inversions (setting_of ts h) [] τ) ↔ IsInversion ts h τ r
  derived_inversions τ valid r = (derived_from τ (at_first ts h τ) valid r, λ v. inversion_from τ (at_first ts h τ) valid r v (omega arith))

  module _ (rules : (i : ℕ) → KeepsItsRule (task ts i)) (τ : List Entry) (valid : ValidFrom (setting_of ts h) [] 0 τ) where
    -- their pairs strictly rise
    pub derived_rise : (j : ℕ) → j < length (inversions (setting_of ts h) [] τ) → PairRises (inversions (setting_of ts h) [] τ) j
    derived_rise = pairs_rise 0 0 (inversions (setting_of ts h) [] τ) (inversions_pairs (setting_of ts h) (setting_laws ts h rules) valid)

    -- a table of the document's inversions, with strictly rising pairs, is the derived one
    pub inversions_are_derived : (p : List Inversion) → ((j : ℕ) → j < length p → PairRises p j) → ((r : Inversion) → Memᴰ r p ↔ IsInversion ts h τ r) →
        p ≡ inversions (setting_of ts h) [] τ
    inversions_are_derived p rises all =
        same_records 0 0 0 0 p (inversions (setting_of ts h) [] τ) (rise_pairs p rises) (inversions_pairs (setting_of ts h) (setting_laws ts h rules) valid)
        (λ r. (λ m. (derived_inversions τ valid r).1 ((all r).0 m), λ m. (all r).1 ((derived_inversions τ valid r).0 m)))
