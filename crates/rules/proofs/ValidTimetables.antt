-- A valid timetable, by positions in the list, is one that the setting goes through from the start of a cycle, and one with no fault. It has as many
-- entries as a cycle has jobs. Assumes nothing.
use mathlib.Core.Path.{◌≡◌, refl, sym, ◌∙◌}
use mathlib.Core.Logic.{◌↔◌}
use mathlib.Core.Bool.{true}
use mathlib.Core.List.{List, [], ◌∷◌}
use mathlib.Core.Option.{none}
use Prim.Native.Nat.{ℕ, zero, suc, ◌+◌, ◌-◌, ◌<◌}
use native.Mathlib.Omega.{arith}
use lib.Dec.{ltb}
use lib.ListN.{length}
use borrow.Author.Tests.{ltb-false}
use Rattle.fields.specs.Body.{head₀, tail₀}
use Rattle.rules.specs.declared.Task.{Task}
use Rattle.rules.specs.declared.Entry.{Entry}
use Rattle.rules.specs.Refusals.{in_turn}
use Rattle.rules.specs.Tasks.{sum_of_jobs, task_in, Set, jobs, all_jobs, hyperperiod}
use Rattle.rules.specs.Timetable.{count, ValidTimetable}
use Rattle.rules.specs.Setting.{Setting}
use Rattle.rules.specs.Priority.{slot, start_job, all_started, setting_of}
use Rattle.rules.specs.Judging.{numbered, entries_fault, missing_from, timetable_fault}
use Rattle.rules.specs.Order.{Overlaps, entry_tests, missing_tests, timetable_tests}
use Rattle.rules.specs.Image.{head_count}
use Rattle.rules.proofs.Theory.{ValidFrom, finished, entry}
use Rattle.rules.proofs.Cases.{by_bool, by_le, first_none, unless_none, clash, differ}
use Rattle.rules.proofs.FirstTests.{NoneHolds, none_holds, none_refuses, none_holds_both, both_none_hold, none_holds_at, none_holds_in_turn}
use Rattle.rules.proofs.PriorityLaws.{keeps_rules}
use Rattle.rules.proofs.Appearances.{appearance}
use Rattle.rules.proofs.EntryOrder.{past_missing, judging_order}

-- a rule number with no fault is 0
numbered_none : (number place : ℕ) → numbered number place ≡ none → number ≡ 0
numbered_none zero place e = refl
numbered_none (suc number) place e = clash (cc)

module _ (G : Setting) (missing : G.Started → ℕ) where
  -- entries with no fault, from a point on, are a valid timetable from there on
  pub entries_valid : (τ : List Entry) (place : ℕ) (x : G.Started) (f : ℕ) → entries_fault G missing place x f τ ≡ none → ValidFrom G x f τ
  entries_valid [] place x f e = finished (unless_none (G.all_started x) 16 (missing x) e)
  entries_valid (e ∷ τ) place x f n =
      let a = first_none (numbered (G.breaks x f e.task e.start) place) _ n in
      entry (numbered_none (G.breaks x f e.task e.start) place a.0) (entries_valid τ (suc place) _ _ a.1)

  -- and back
  pub valid_entries : {x : G.Started} {f : ℕ} {τ : List Entry} → ValidFrom G x f τ → (place : ℕ) → entries_fault G missing place x f τ ≡ none
  valid_entries (finished a) place = rw a
  valid_entries (entry v w) place = rw v (valid_entries w (suc place))

module _ (ts : Set) (h : ℕ) (τ : List Entry) where
  -- a timetable that no test refuses is valid
  none_holds_valid : NoneHolds (timetable_tests ts h τ) → ValidTimetable ts h τ
  none_holds_valid z =
      let y = none_holds_both (in_turn (entry_tests ts h τ) 0 (length τ)) (in_turn (missing_tests ts h τ) 0 (length ts.tasks)) z in
      let at : (j : ℕ) → j < length τ → NoneHolds (entry_tests ts h τ j) =
      λ j l. none_holds_at (entry_tests ts h τ) 0 (length τ) y.0 j (omega arith) (omega arith) in
      record {
        tasks_below_n = λ j l. omega (arith, (at j l).0);
        not_too_many = λ j l. omega (arith, (at j l).1.0);
        released = λ j l. omega (arith, (at j l).1.1.0);
        no_overlap = λ j l. omega (arith, (at (suc j) l).1.1.1.0);
        in_time = λ j l. omega (arith, (at j l).1.1.1.1.0);
        every_job = λ i l k m. by_le (suc k) (count i τ) (appearance τ i k)
            (λ p. absurd ((none_holds_at (missing_tests ts h τ) 0 (length ts.tasks) y.1 i (omega arith) (omega arith)).0
            (k, m, past_missing ts h τ i k (omega arith))));
      }

  no_overlaps : ValidTimetable ts h τ → (j : ℕ) → j < length τ → Overlaps ts h τ j → ⊥
  no_overlaps v zero l c = c
  no_overlaps v (suc j) l c = omega (arith, v.no_overlap j l)

  -- and back
  valid_none_holds : ValidTimetable ts h τ → NoneHolds (timetable_tests ts h τ)
  valid_none_holds v =
      both_none_hold (in_turn (entry_tests ts h τ) 0 (length τ)) (in_turn (missing_tests ts h τ) 0 (length ts.tasks))
      (none_holds_in_turn (entry_tests ts h τ) 0 (length τ)
      (λ j lo hi. let l : j < length τ = omega arith in (
        λ c. omega (arith, v.tasks_below_n j l),
        (
          λ c. omega (arith, v.not_too_many j l),
          (λ c. omega (arith, v.released j l), (no_overlaps v j l, (λ c. omega (arith, v.in_time j l), tt))),
        ),
      )))
      (none_holds_in_turn (missing_tests ts h τ) 0 (length ts.tasks)
      (λ i lo hi. (λ c. let a = v.every_job i (omega arith) c.0 c.1 in c.2 a.0 a.1 a.2 a.3, tt)))

  -- the setting goes through a timetable from the start of a cycle exactly where the timetable is valid
  pub valid_timetable : ValidFrom (setting_of ts h) [] 0 τ ↔ ValidTimetable ts h τ
  valid_timetable = (
    λ v. none_holds_valid (none_holds (judging_order ts h τ) (valid_entries (setting_of ts h) (missing_from 0 h ts.tasks) v (head_count ts))),
    λ v. entries_valid (setting_of ts h) (missing_from 0 h ts.tasks) τ (head_count ts) [] 0
        (none_refuses (judging_order ts h τ) (valid_none_holds v)),
  )

-- a timetable has no fault exactly where it is valid
pub no_fault_valid : (ts : Set) (τ : List Entry) → (timetable_fault ts τ ≡ none) ↔ ValidTimetable ts (hyperperiod ts) τ
no_fault_valid ts τ =
    let order = judging_order ts (hyperperiod ts) τ in
    (λ e. none_holds_valid ts (hyperperiod ts) τ (none_holds order e), λ v. none_refuses order (valid_none_holds ts (hyperperiod ts) τ v))

-- the jobs not yet started
abbrev pub jobs_left : ℕ → List Task → List ℕ → ℕ
jobs_left h [] x = 0
jobs_left h (t ∷ ts) x = (jobs h t - head₀ x) + jobs_left h ts (tail₀ x)

-- at the start of a cycle all are left
pub all_left : (h : ℕ) (ts : List Task) → jobs_left h ts [] ≡ sum_of_jobs h ts
all_left h [] = refl
all_left h (t ∷ ts) = omega (arith, all_left h ts)

-- when all have started none is left
pub none_left : (h : ℕ) (ts : List Task) (x : List ℕ) → all_started h ts x ≡ true → jobs_left h ts x ≡ 0
none_left h [] x e = refl
none_left h (t ∷ ts) x e =
    by_bool (ltb (head₀ x) (jobs h t)) (λ b. differ (sym (rw (b, all_started) at e)))
    (λ b. omega (arith, ltb-false (head₀ x) (jobs h t) b, none_left h ts (tail₀ x) (rw (b, all_started) at e)))

-- a start takes one of them
pub one_left : (h : ℕ) (ts : List Task) (x : List ℕ) (i : ℕ) → i < length ts → slot x i < jobs h (task_in ts i) →
    jobs_left h ts x ≡ suc (jobs_left h ts (start_job x i))
one_left h [] x i l k = absurd (omega arith)
one_left h (t ∷ ts) x zero l k = omega arith
one_left h (t ∷ ts) x (suc i) l k = omega (arith, one_left h ts (tail₀ x) i (omega arith) k)

-- a valid timetable from a point on has as many entries as jobs are left
pub valid_from_length : (ts : Set) (h : ℕ) {x : List ℕ} {f : ℕ} {τ : List Entry} → ValidFrom (setting_of ts h) x f τ → length τ ≡ jobs_left h ts.tasks x
valid_from_length ts h (finished {x = x} a) = sym (none_left h ts.tasks x a)
valid_from_length ts h (entry {x = x} {f = f} {e = e} v w) =
    let a = keeps_rules ts h x f e.task e.start v in
    omega (arith, valid_from_length ts h w, one_left h ts.tasks x e.task a.a_task a.left)

-- a valid timetable has as many entries as a cycle has jobs
pub valid_length : {ts : Set} {h : ℕ} {τ : List Entry} → ValidTimetable ts h τ → length τ ≡ all_jobs h ts
valid_length {ts} {h} {τ} v = valid_from_length ts h ((valid_timetable ts h τ).1 v) ∙ all_left h ts.tasks
