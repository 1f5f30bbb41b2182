-- The order of refusals: document 01, "Refusal numbers". The tests of entries and of records in the document's order, each condition a predicate of
-- its own that speaks of positions in the lists, and the conditions of 18 and 19. Assumes nothing.
use Rattle.std.specs.Prelude.{◌≡◌, ◌⊎◌, List, [], ◌∷◌, ◌++◌, map, ℕ, zero, suc, ◌+◌, ◌-◌, ◌≤◌, ◌<◌, length, get_or, take}
use Rattle.std.proofs.Math.Option.{none, some}
use Rattle.rules.specs.declared.Entry.{Entry}
use Rattle.rules.specs.declared.Idle.{Idle}
use Rattle.rules.specs.declared.Inversion.{Inversion}
use Rattle.rules.specs.declared.Refusal.{Refusal}
use Rattle.rules.specs.Refusals.{refusal, Test, test, in_turn, First}
use Rattle.rules.specs.Tasks.{Set, task, release, due, jobs, hyperperiod, set_tests}
use Rattle.rules.specs.Timetable.{entry_at, job_at, end_at}
use Rattle.rules.specs.Setting.{Tables}
use Rattle.rules.specs.Decision.{idle_for, start_task}
use Rattle.rules.specs.DecisionRule.{Replaying, cycle_start, after_idling, after_starting, TooLate, DecidesNext, Replays}
use Rattle.rules.specs.Image.{head_count}
use Rattle.rules.specs.Judging.{tables}

-- entries in turn, 11 to 15 in that order, then 16
module _ (ts : Set) (h : ℕ) (τ : List Entry) where
  -- entry j starts before the previous one's start + C
  abbrev pub Overlaps : ℕ → Type 0
  Overlaps zero = ⊥
  Overlaps (suc j) = (entry_at τ (suc j)).start < end_at ts τ j

  abbrev pub entry_tests : ℕ → List Test
  entry_tests j =
      test 11 (head_count ts + j) (length ts.tasks ≤ (entry_at τ j).task)
      ∷ test 12 (head_count ts + j) (jobs h (task ts (entry_at τ j).task) ≤ job_at τ j)
      ∷ test 13 (head_count ts + j) ((entry_at τ j).start < release (task ts (entry_at τ j).task) (job_at τ j))
      ∷ test 14 (head_count ts + j) (Overlaps j)
      ∷ test 15 (head_count ts + j) (due (task ts (entry_at τ j).task) (job_at τ j) < end_at ts τ j)
      ∷ []

  -- no entry is job k of task i
  abbrev pub Missing : ℕ → ℕ → Type 0
  Missing i k = (j : ℕ) → j < length τ → (entry_at τ j).task ≡ i → job_at τ j ≡ k → ⊥

  abbrev pub missing_tests : ℕ → List Test
  missing_tests i = test 16 i ((k : ℕ) × (k < jobs h (task ts i)) × Missing i k) ∷ []

  abbrev pub timetable_tests : List Test
  timetable_tests = in_turn entry_tests 0 (length τ) ++ in_turn missing_tests 0 (length ts.tasks)

-- records in turn, 17
abbrev pub idle : List Idle → ℕ → Idle
idle idles j = get_or idles j (record { start = 0; length = 0 })

abbrev pub inversion : List Inversion → ℕ → Inversion
inversion p j = get_or p j (record { task = 0; job = 0; delay = 0 })

-- ID record j starts above the previous record's end
abbrev pub AbovePrevious : List Idle → ℕ → Type 0
AbovePrevious idles zero = Unit {0}
AbovePrevious idles (suc j) = (idle idles j).start + (idle idles j).length < (idle idles (suc j)).start

pub record IdleKeepsRule (h : ℕ) (idles : List Idle) (j : ℕ) : Type 0 where
  pub long_enough : 1 ≤ (idle idles j).length
  pub within : (idle idles j).start + (idle idles j).length < h
  pub above : AbovePrevious idles j

-- PV record j has a pair (task, job) above the previous one's
abbrev pub PairRises : List Inversion → ℕ → Type 0
PairRises p zero = Unit {0}
PairRises p (suc j) =
    ((inversion p j).task < (inversion p (suc j)).task)
    ⊎ (((inversion p j).task ≡ (inversion p (suc j)).task) × ((inversion p j).job < (inversion p (suc j)).job))

pub record InversionKeepsRule (ts : Set) (h : ℕ) (p : List Inversion) (j : ℕ) : Type 0 where
  pub a_task : (inversion p j).task < length ts.tasks
  pub a_job : (inversion p j).job < jobs h (task ts (inversion p j).task)
  pub in_time : (inversion p j).delay ≤ (task ts (inversion p j).task).deadline - (task ts (inversion p j).task).time
  pub rises : PairRises p j

abbrev pub idle_tests : ℕ → ℕ → List Idle → ℕ → List Test
idle_tests before h idles j = test 17 (before + j) (IdleKeepsRule h idles j → ⊥) ∷ []

abbrev pub inversion_tests : Set → ℕ → ℕ → List Inversion → ℕ → List Test
inversion_tests ts h before p j = test 17 (before + j) (InversionKeepsRule ts h p j → ⊥) ∷ []

abbrev pub record_tests : Set → ℕ → Tables → List Test
record_tests ts h X =
    in_turn (idle_tests (head_count ts) h X.idles) 0 (length X.idles)
    ++ in_turn (inversion_tests ts h (head_count ts + length X.idles) X.inversions) 0 (length X.inversions)

-- 18: replay comes, after so many starts, to a job that is too late
module _ (ts : Set) (h : ℕ) (p : List Inversion) where
  pub data LateAfter : Replaying → ℕ → Type 0 where
    late_now : {a : Replaying} {t i : ℕ} → DecidesNext ts h p a t (start_task i) → TooLate ts a.next i t → LateAfter a 0
    after_idle : {a : Replaying} {t m : ℕ} {r : Idle} {behind : List Idle} → a.unused ≡ r ∷ behind → DecidesNext ts h p a t (idle_for r.length) →
        LateAfter (after_idling a t r behind) m → LateAfter a m
    after_start : {a : Replaying} {t i m : ℕ} → DecidesNext ts h p a t (start_task i) → (TooLate ts a.next i t → ⊥) →
        LateAfter (after_starting ts a t i) m → LateAfter a (suc m)

-- 19: the first record at which two tables differ
pub data Item : Type 0 where
  an_idle : Idle → Item
  an_inversion : Inversion → Item

abbrev pub items : Tables → List Item
items X = map an_idle X.idles ++ map an_inversion X.inversions

pub record FirstDifference (X Y : Tables) (m : ℕ) : Type 0 where
  pub before : take m (items X) ≡ take m (items Y)
  pub there : take (suc m) (items X) ≡ take (suc m) (items Y) → ⊥

-- what refuses tables: the set, the records in turn, then a late job, then a difference
pub data RefusesTables (ts : Set) (X : Tables) : Refusal → Type 1 where
  by_a_test : {r : Refusal} → First (set_tests ts ++ record_tests ts (hyperperiod ts) X) (some r) → RefusesTables ts X r
  late_job : {m : ℕ} → First (set_tests ts ++ record_tests ts (hyperperiod ts) X) none → LateAfter ts (hyperperiod ts) X.inversions (cycle_start X) m →
      RefusesTables ts X (refusal 18 m)
  difference : {m : ℕ} {τ : List Entry} → First (set_tests ts ++ record_tests ts (hyperperiod ts) X) none → Replays ts (hyperperiod ts) X.inversions (cycle_start X) τ →
      FirstDifference X (tables ts τ) m → RefusesTables ts X (refusal 19 (head_count ts + m))
