-- What the array of next releases says of an entry that breaks no rule: the forced idle before it, and whether it is an inversion. Assumes nothing.
use Rattle.std.proofs.Common.{◌≡◌, ℕ, zero, suc, ◌+◌, ◌-◌, ◌<◌, ◌≤◌, min, max, true, false, ltb, leb, List, [], ◌∷◌, length, get_or, take, sym, refl, ap, ◌∙◌, arith, length-take, get_or-take, ltb-false, le-ltb, lt-ltb, le-leb, leb-false, leb-true}
use borrow.Author.Tests.{lt-leb}
use Rattle.fields.specs.Body.{head₀, tail₀}
use Rattle.rules.specs.declared.Task.{Task}
use Rattle.rules.specs.declared.Entry.{Entry}
use Rattle.rules.specs.Tasks.{Set, task, release, no_task, KeepsItsRule}
use Rattle.rules.specs.Setting.{instant}
use Rattle.rules.specs.Priority.{slot, start_job, least_release, waiting, setting_of}
use Rattle.rules.specs.Irregularities.{runs, forced_idles}
use Rattle.rules.proofs.Cases.{by_bool, differ}
use Rattle.rules.proofs.PriorityLaws.{StartKeepsRules, least_below, never_waits}
use Rattle.rules.proofs.Gaps.{no_gap, whole_gap}
use Rattle.rules.proofs.ForcedIdle.{released_in_cycle}
use Rattle.rules.proofs.Inversions.{lower_waits, not_run, next_waits}
use Rattle.sets.specs.Scans as scans
use Rattle.timetables.specs.Walks.{next_releases}
use Rattle.timetables.specs.Instants.{never, least_of, some_by}
use Rattle.timetables.proofs.Releases.{LeftByRelease, releases_length, release_in_slot}

-- the least of next releases, or the end of the cycle where it comes first
least_next : (h : ℕ) (ts : List Task) (x : List ℕ) → h ≤ never → LeftByRelease h ts → min h (least_of (next_releases ts x)) ≡ least_release h ts x
least_next h [] x le left = omega arith
least_next h (t ∷ ts) x le left =
    let later = least_next h ts (tail₀ x) le (λ i l k. left (suc i) (omega arith) k) in
    let same = left 0 (omega arith) (head₀ x) in
    by_bool (ltb (release t (head₀ x)) h)
    (λ b. rw (same, b, least_release) (omega arith))
    (λ b. rw (same, b, least_release) (omega (arith, ltb-false (release t (head₀ x)) h b)))

-- the least of the first n slots
pub least_first : (n : ℕ) (rs : List ℕ) → n ≤ length rs → scans.least_of n never rs ≡ least_of (take n rs)
least_first zero rs l = refl
least_first (suc n) [] l = absurd (omega arith)
least_first (suc n) (r ∷ rs) l = ap (min r) (least_first n rs (omega arith))

-- the least of instants is not above any of them
least_not_above : (rs : List ℕ) (i : ℕ) → i < length rs → least_of rs ≤ get_or rs i 0
least_not_above [] i l = absurd (omega arith)
least_not_above (r ∷ rs) zero l = omega arith
least_not_above (r ∷ rs) (suc i) l = omega (arith, least_not_above rs i (omega arith))

pub least_of_first : (rs : List ℕ) (n i : ℕ) → i < n → i < length rs → least_of (take n rs) ≤ get_or rs i 0
least_of_first rs n i a l = rw get_or-take at (least_not_above (take n rs) i (omega (arith, length-take n rs)))

-- and not below what none of them is below
least_above : (s : ℕ) (rs : List ℕ) → s ≤ never → ((k : ℕ) → k < length rs → s ≤ get_or rs k 0) → s ≤ least_of rs
least_above s [] le all = le
least_above s (r ∷ rs) le all = omega (arith, all 0 (omega arith), least_above s rs le (λ k l. all (suc k) (omega arith)))

-- whether one of them is earlier
pub one_earlier : (s : ℕ) (rs : List ℕ) (k : ℕ) → k < length rs → get_or rs k 0 < s → true ≡ ltb (least_of rs) s
one_earlier s rs k l earlier = sym (lt-ltb _ _ (omega (arith, least_not_above rs k l)))

pub none_earlier : (s : ℕ) (rs : List ℕ) → s ≤ never → ((k : ℕ) → k < length rs → s ≤ get_or rs k 0) → false ≡ ltb (least_of rs) s
none_earlier s rs le all = sym (le-ltb _ _ (least_above s rs le all))

-- whether one of them has come
pub one_come : (s : ℕ) (rs : List ℕ) (k : ℕ) → k < length rs → get_or rs k 0 ≤ s → true ≡ some_by s rs
one_come s [] k l come = absurd (omega arith)
one_come s (r ∷ rs) zero l come = rw (le-leb r s come)
one_come s (r ∷ rs) (suc k) l come = by_bool (leb r s) (λ b. rw b) (λ b. rw b (one_come s rs k (omega arith) come))

pub none_come : (s : ℕ) (rs : List ℕ) → ((k : ℕ) → k < length rs → s < get_or rs k 0) → false ≡ some_by s rs
none_come s [] none = refl
none_come s (r ∷ rs) none = rw (lt-leb r s (none 0 (omega arith))) (none_come s rs (λ k l. none (suc k) (omega arith)))

-- an instant that has come is one of those asked for
some_found : (s : ℕ) (rs : List ℕ) → some_by s rs ≡ true → (k : ℕ) × (k < length rs) × (get_or rs k 0 ≤ s)
some_found s [] e = differ (sym e)
some_found s (r ∷ rs) e =
    by_bool (leb r s) (λ b. (0, omega arith, leb-true r s b))
    (λ b. let f = some_found s rs (rw b at e) in (suc f.0, omega (arith, f.1), f.2))

-- where none has come, none of them has
none_found : (s : ℕ) (rs : List ℕ) → some_by s rs ≡ false → (k : ℕ) → k < length rs → s < get_or rs k 0
none_found s [] e k l = absurd (omega arith)
none_found s (r ∷ rs) e zero l = by_bool (leb r s) (λ b. differ (rw b at e)) (λ b. leb-false r s b)
none_found s (r ∷ rs) e (suc k) l = by_bool (leb r s) (λ b. differ (rw b at e)) (λ b. none_found s rs (rw b at e) k (omega arith))

module _ (ts : Set) (h : ℕ) (x : List ℕ) (left : LeftByRelease h ts.tasks) where
  -- a task whose next release has come in the cycle is waiting, and no other
  waits_by : (s i : ℕ) → s < h → i < length ts.tasks → waiting ts h x s i ≡ leb (get_or (next_releases ts.tasks x) i 0) s
  waits_by s i lt a_task =
      let same = left i a_task (slot x i) in
      rw (release_in_slot ts.tasks x i no_task a_task, same)
      (by_bool (ltb (release (task ts i) (slot x i)) h) (λ b. rw b)
      (λ b. rw b (sym (lt-leb (release (task ts i) (slot x i)) s (omega (arith, ltb-false (release (task ts i) (slot x i)) h b))))))

  -- the instant of decision, where a job is left
  pub instant_is : (f : ℕ) → h ≤ never → least_release h ts.tasks x < h → max f (least_of (next_releases ts.tasks x)) ≡ instant (setting_of ts h) x f
  instant_is f le lt = omega (arith, least_next h ts.tasks x le left)

  module _ (s i : ℕ) (lt : s < h) (a_task : i < length ts.tasks) where
    -- where a lower task's release has come, the baseline does not run the task
    pub lower_inverts : some_by s (take i (next_releases ts.tasks x)) ≡ true → runs ((setting_of ts h).baseline x s) i ≡ false
    lower_inverts e =
        let f = some_found s (take i (next_releases ts.tasks x)) e in
        let lo : f.0 < i = omega (arith, f.1, length-take i (next_releases ts.tasks x)) in
        let by = rw (get_or-take i (next_releases ts.tasks x) f.0 0 lo) at f.2 in
        not_run ts h x s i a_task f.0 lo (waits_by s f.0 lt (omega arith) ∙ le-leb _ s by)

    -- where none has, it runs the task if that waits
    pub none_lower_runs : waiting ts h x s i ≡ true → some_by s (take i (next_releases ts.tasks x)) ≡ false → runs ((setting_of ts h).baseline x s) i ≡ true
    none_lower_runs w e =
        by_bool (runs ((setting_of ts h).baseline x s) i) (λ b. b)
        (λ b.
        let l = lower_waits ts h x s i a_task w b in
        let by = leb-true _ s (sym (waits_by s l.0 lt (omega (arith, l.1))) ∙ l.2) in
        let past = none_found s (take i (next_releases ts.tasks x)) e l.0 (omega (arith, l.1, length-take i (next_releases ts.tasks x), releases_length ts.tasks x)) in
        absurd (omega (arith, l.1, get_or-take i (next_releases ts.tasks x) l.0 0 l.1)))

module _ (ts : Set) (h : ℕ) {x : List ℕ} {f : ℕ} (e : Entry) (σ : List Entry) (keeps : StartKeepsRules ts h x f e.task e.start) where
  -- a job is left before an entry
  pub some_left : KeepsItsRule (task ts e.task) → least_release h ts.tasks x < h
  some_left rule = omega (
    arith,
    least_below h ts.tasks x e.task keeps.a_task keeps.left,
    released_in_cycle h (task ts e.task) (slot x e.task) rule keeps.left,
  )

  -- its task is waiting at its start
  pub is_waiting : waiting ts h x e.start e.task ≡ true
  is_waiting = next_waits ts h x e.start e.task keeps.left keeps.released

  -- a start after the instant of decision has a forced idle before it
  pub idle_before : (t : ℕ) → t ≡ instant (setting_of ts h) x f → t < e.start →
      forced_idles (setting_of ts h) x f (e ∷ σ)
      ≡ record { start = t; length = e.start - t } ∷ forced_idles (setting_of ts h) (start_job x e.task) (e.start + (task ts e.task).time) σ
  idle_before t is lt = rw (is, whole_gap (setting_of ts h) (never_waits ts h) e.start x (instant (setting_of ts h) x f) e.start (omega arith) (omega arith))

  -- one at the instant has none
  pub no_idle_before : (t : ℕ) → t ≡ instant (setting_of ts h) x f → e.start ≤ t →
      forced_idles (setting_of ts h) x f (e ∷ σ) ≡ forced_idles (setting_of ts h) (start_job x e.task) (e.start + (task ts e.task).time) σ
  no_idle_before t is le = rw (no_gap (setting_of ts h) e.start x (instant (setting_of ts h) x f) e.start (omega arith))
