-- The forced idles that are derived of a valid timetable are those of document 01, and no others. Assumes nothing.
use mathlib.Core.Path.{◌≡◌, refl, ap}
use mathlib.Core.List.{List, [], ◌∷◌, ◌++◌}
use Prim.Native.Nat.{ℕ, suc, min, ◌≤◌, ◌<◌}
use native.Mathlib.Omega.{arith}
use native.Mathlib.Nat.{div-mul-le_self, mul-le-mul_right}
use lib.Dec.{ltb}
use lib.ListN.{length}
use borrow.Author.Tests.{ltb-true}
use Rattle.fields.specs.Body.{head₀, tail₀}
use Rattle.rules.specs.declared.Task.{Task}
use Rattle.rules.specs.declared.Entry.{Entry}
use Rattle.rules.specs.declared.Idle.{Idle}
use Rattle.rules.specs.Tasks.{Set, task, release, jobs, KeepsItsRule, task_in}
use Rattle.rules.specs.Timetable.{entry_at}
use Rattle.rules.specs.Setting.{instant}
use Rattle.rules.specs.Priority.{slot, least_release, setting_of}
use Rattle.rules.specs.Irregularities.{NotStarted, LeastRelease, IsInstant, ForcedIdles, no_entry, at_once, forced, gap, forced_idles}
use Rattle.rules.proofs.Cases.{by_bool, by_le}
use Rattle.rules.proofs.Theory.{ValidFrom, finished, entry}
use Rattle.rules.proofs.Gaps.{no_gap, whole_gap}
use Rattle.rules.proofs.PriorityLaws.{StartKeepsRules, keeps_rules, least_below, never_waits}
use Rattle.rules.proofs.Positions.{Before, at_first, past_end, an_entry, is_entry, at_next}

-- releases of a task rise with the job
pub releases_rise : (t : Task) (k l : ℕ) → k ≤ l → release t k ≤ release t l
releases_rise t k l le = omega (arith, mul-le-mul_right t.period le)

-- a job of the cycle is released before the cycle's end
pub released_in_cycle : (h : ℕ) (t : Task) (k : ℕ) → KeepsItsRule t → k < jobs h t → release t k < h
released_in_cycle h t k rule lt = omega (arith, mul-le-mul_right t.period lt, div-mul-le_self h t.period)

-- r is the release of a task's next job
pub record NextRelease (h : ℕ) (ts : List Task) (x : List ℕ) (r : ℕ) : Type 0 where
  pub i : ℕ
  pub a_task : i < length ts
  pub a_job : slot x i < jobs h (task_in ts i)
  pub is_release : r ≡ release (task_in ts i) (slot x i)

-- of the tasks behind the first too
later_task : {h : ℕ} {t : Task} {ts : List Task} {x : List ℕ} {r : ℕ} → NextRelease h ts (tail₀ x) r → NextRelease h (t ∷ ts) x r
later_task n = record { i = suc n.i; a_task = omega arith; a_job = n.a_job; is_release = n.is_release }

-- the least release, where it lies before the cycle's end, is the release of a task's next job
pub least_found : (h : ℕ) (ts : List Task) (x : List ℕ) (r : ℕ) → least_release h ts x ≡ r → r < h → NextRelease h ts x r
least_found h [] x r e lt = absurd (omega arith)
least_found h (t ∷ ts) x r e lt =
    let later : least_release h ts (tail₀ x) ≡ r → NextRelease h (t ∷ ts) x r = λ q. later_task (least_found h ts (tail₀ x) r q lt) in
    by_bool (ltb (head₀ x) (jobs h t))
    (λ b. let m : min (release t (head₀ x)) (least_release h ts (tail₀ x)) ≡ r = rw (b, least_release) at e in
    by_le (release t (head₀ x)) (least_release h ts (tail₀ x))
    (λ le. record { i = 0; a_task = omega arith; a_job = ltb-true _ _ b; is_release = omega arith }) (λ gt. later (omega arith)))
    (λ b. later (rw (b, least_release) at e))

module _ (ts : Set) (h : ℕ) (τ : List Entry) where
  -- the least release is one number
  pub least_release_unique : {j r s : ℕ} → LeastRelease ts h τ j r → LeastRelease ts h τ j s → r ≡ s
  least_release_unique a b = omega (arith, a.least _ _ b.not_started, b.least _ _ a.not_started)

  -- and so is the instant
  pub instant_unique : {j s t : ℕ} → IsInstant ts h τ j s → IsInstant ts h τ j t → s ≡ t
  instant_unique a b = omega (arith, least_release_unique a.is_least b.is_least)

  -- a timetable has one list of forced idles
  pub forced_idles_unique : {j : ℕ} {k l : List Idle} → ForcedIdles ts h τ j k → ForcedIdles ts h τ j l → k ≡ l
  forced_idles_unique (no_entry p) (no_entry q) = refl
  forced_idles_unique (no_entry p) (at_once q i s b) = absurd (omega arith)
  forced_idles_unique (no_entry p) (forced q i s b) = absurd (omega arith)
  forced_idles_unique (at_once p i s a) (no_entry q) = absurd (omega arith)
  forced_idles_unique (at_once p i s a) (at_once q i' s' b) = forced_idles_unique a b
  forced_idles_unique (at_once p i s a) (forced q i' s' b) = absurd (omega (arith, instant_unique i i'))
  forced_idles_unique (forced p i s a) (no_entry q) = absurd (omega arith)
  forced_idles_unique (forced p i s a) (at_once q i' s' b) = absurd (omega (arith, instant_unique i i'))
  forced_idles_unique (forced p i s a) (forced q i' s' b) = rw (instant_unique i i', forced_idles_unique a b)

  module _ {j : ℕ} {x : List ℕ} {f : ℕ} {σ : List Entry} (b : Before ts h τ j x f σ) where
    -- a job not yet started is its task's next or a later one
    pub not_below_slot : {i k : ℕ} → NotStarted ts h τ j i k → slot x i ≤ k
    not_below_slot {i} {k} n = omega (arith, b.started i, n.not_before)

    -- a task's next job has not started
    pub next_not_started : {i : ℕ} → i < length ts.tasks → slot x i < jobs h (task ts i) → NotStarted ts h τ j i (slot x i)
    next_not_started {i} a_task a_job = record { a_task = a_task; a_job = a_job; not_before = omega (arith, b.started i) }

    -- where it lies before the cycle's end, the least release by slots is the document's
    pub is_least_release : least_release h ts.tasks x < h → LeastRelease ts h τ j (least_release h ts.tasks x)
    is_least_release lt =
        let n = least_found h ts.tasks x (least_release h ts.tasks x) refl lt in
        record {
          i = n.i;
          k = slot x n.i;
          not_started = next_not_started n.a_task n.a_job;
          is_release = n.is_release;
          least = λ i k m. let le = not_below_slot m in omega (
            arith,
            least_below h ts.tasks x i m.a_task (omega (arith, m.a_job)),
            releases_rise (task ts i) (slot x i) k le,
          );
        }

    -- and the instant of decision is the document's t
    pub is_instant : least_release h ts.tasks x < h → IsInstant ts h τ j (instant (setting_of ts h) x f)
    is_instant lt = record { r = least_release h ts.tasks x; is_least = is_least_release lt; is_larger = rw b.free }

module _ (ts : Set) (h : ℕ) where
  module _ (rules : (i : ℕ) → KeepsItsRule (task ts i)) (τ : List Entry) where
    -- one entry: its gap, before the forced idles of the entries after it
    gap_forced : {j : ℕ} {x : List ℕ} {f : ℕ} {e : Entry} {σ : List Entry} {idles : List Idle} → Before ts h τ j x f (e ∷ σ) →
        StartKeepsRules ts h x f e.task e.start → ForcedIdles ts h τ (suc j) idles →
        ForcedIdles ts h τ j (gap (setting_of ts h) e.start x (instant (setting_of ts h) x f) e.start ++ idles)
    gap_forced {j} {x} {f} {e} {σ} {idles} b keeps rest =
        let t : ℕ = instant (setting_of ts h) x f in
        let lt : least_release h ts.tasks x < h = omega (
          arith,
          least_below h ts.tasks x e.task keeps.a_task keeps.left,
          released_in_cycle h (task ts e.task) (slot x e.task) (rules e.task) keeps.left,
        ) in
        let is-t : IsInstant ts h τ j t = is_instant ts h τ b lt in
        let start_is : (entry_at τ j).start ≡ e.start = ap (λ (d : Entry). d.start) (is_entry ts h τ b) in
        by_le e.start t (λ le. rw (no_gap (setting_of ts h) e.start x t e.start le) (at_once (an_entry ts h τ b) is-t (omega arith) rest))
        (λ later. rw (whole_gap (setting_of ts h) (never_waits ts h) e.start x t e.start later (omega arith), ← start_is)
        (forced (an_entry ts h τ b) is-t (omega arith) rest))

    -- from any entry on, the derived forced idles are forced
    derived_from : {j : ℕ} {x : List ℕ} {f : ℕ} {σ : List Entry} → Before ts h τ j x f σ → ValidFrom (setting_of ts h) x f σ →
        ForcedIdles ts h τ j (forced_idles (setting_of ts h) x f σ)
    derived_from b (finished all) = no_entry (past_end ts h τ b)
    derived_from {j = j} b (entry ok valid) =
        gap_forced b (keeps_rules ts h _ _ _ _ ok) (derived_from {j = suc j} (at_next ts h τ b) valid)

    module _ (valid : ValidFrom (setting_of ts h) [] 0 τ) where
      -- what is derived is forced
      pub derived_are_forced : ForcedIdles ts h τ 0 (forced_idles (setting_of ts h) [] 0 τ)
      derived_are_forced = derived_from (at_first ts h τ) valid

      -- and what is forced is derived
      pub forced_are_derived : {idles : List Idle} → ForcedIdles ts h τ 0 idles → idles ≡ forced_idles (setting_of ts h) [] 0 τ
      forced_are_derived all = forced_idles_unique ts h τ all derived_are_forced
