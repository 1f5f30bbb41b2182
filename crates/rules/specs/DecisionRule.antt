-- The decision rule in document 01's words: document 01, "The decision rule". As relations between next job numbers, an instant, what is decided and what
-- replay starts, with no word of how a decision is worked out. Assumes nothing.
use Rattle.std.specs.Prelude.{◌≡◌, ℕ, ◌+◌, ◌≤◌, ◌<◌, length}
use mathlib.Core.List.{List, [], ◌∷◌, Memᴰ}
use Rattle.rules.specs.declared.Entry.{Entry}
use Rattle.rules.specs.declared.Idle.{Idle}
use Rattle.rules.specs.declared.Inversion.{Inversion}
use Rattle.rules.specs.Tasks.{Set, task, release, due, jobs}
use Rattle.rules.specs.Setting.{Tables}
use Rattle.rules.specs.Priority.{slot, start_job}
use Rattle.rules.specs.Decision.{Choice, idle_for, start_task}

-- the lowest of the numbers of which something holds
pub record Lowest (Holds : ℕ → Type 0) (i : ℕ) : Type 0 where
  pub holds : Holds i
  pub none_lower : (j : ℕ) → j < i → Holds j → ⊥

-- the first unused idle record starts at t
pub record IdleStarts (FirstUnused : Idle → Type 0) (t : ℕ) (r : Idle) : Type 0 where
  pub first_unused : FirstUnused r
  pub starts_now : r.start ≡ t

module _ (ts : Set) (h : ℕ) where
  -- a task's job is waiting when it is that task's next and is released
  pub record Waiting (x : List ℕ) (t i : ℕ) : Type 0 where
    pub a_task : i < length ts.tasks
    pub left : slot x i < jobs h (task ts i)
    pub released : release (task ts i) (slot x i) ≤ t

  -- the first instant from f on with a job waiting: with none waiting, time moves to the next release
  pub record NextInstant (x : List ℕ) (f t : ℕ) : Type 0 where
    pub not_before : f ≤ t
    pub some_job : (i : ℕ) × Waiting x t i
    pub none_before : (u : ℕ) → f ≤ u → u < t → (i : ℕ) → Waiting x u i → ⊥

  -- a task's next job has an inversion record with release + delay = t
  pub record Recorded (Has : Inversion → Type 0) (x : List ℕ) (t i : ℕ) : Type 0 where
    pub a_task : i < length ts.tasks
    pub left : slot x i < jobs h (task ts i)
    pub inversion : Inversion
    pub has : Has inversion
    pub its_task : inversion.task ≡ i
    pub its_job : inversion.job ≡ slot x i
    pub falls_now : release (task ts i) (slot x i) + inversion.delay ≡ t

  -- at instant t with a job waiting: (1) if the first unused idle record starts at t, use it and idle its length; (2) else if next jobs have an inversion
  -- record with release + delay = t, the lowest such task starts; (3) else the lowest waiting task starts
  pub data Decides (FirstUnused : Idle → Type 0) (Has : Inversion → Type 0) (x : List ℕ) (t : ℕ) : Choice → Type 0 where
    uses_idle : {r : Idle} → IdleStarts FirstUnused t r → Decides FirstUnused Has x t (idle_for r.length)
    starts_recorded : {i : ℕ} → ((r : Idle) → IdleStarts FirstUnused t r → ⊥) → Lowest (Recorded Has x t) i → Decides FirstUnused Has x t (start_task i)
    starts_waiting : {i : ℕ} → ((r : Idle) → IdleStarts FirstUnused t r → ⊥) → ((j : ℕ) → Recorded Has x t j → ⊥) → Lowest (Waiting x t) i →
        Decides FirstUnused Has x t (start_task i)

-- where replay stands: next job numbers, the instant from which the processor is free, and the unused idle records
pub record Replaying : Type 0 where
  pub next : List ℕ
  pub free : ℕ
  pub unused : List Idle

-- replay starts each cycle at 0 with nothing started
abbrev pub cycle_start : Tables → Replaying
cycle_start X = record { next = []; free = 0; unused = X.idles }

-- after the first unused idle record was used at t, before those behind it
abbrev pub after_idling : Replaying → ℕ → Idle → List Idle → Replaying
after_idling a t r behind = record { next = a.next; free = t + r.length; unused = behind }

-- after task i's next job has started at t: the processor is then taken for C
abbrev pub after_starting : Set → Replaying → ℕ → ℕ → Replaying
after_starting ts a t i = record { next = start_job a.next i; free = t + (task ts i).time; unused = a.unused }

-- a start at t of the task's next job would end after it is due
abbrev pub TooLate : Set → List ℕ → ℕ → ℕ → Type 0
TooLate ts x i t = due (task ts i) (slot x i) < t + (task ts i).time

-- the decision by the unused idle records and a table's inversion records
abbrev pub DecidesBy : Set → ℕ → List Idle → List Inversion → List ℕ → ℕ → Choice → Type 0
DecidesBy ts h unused p x t c =
    Decides ts h (λ (r : Idle). (behind : List Idle) × (unused ≡ r ∷ behind)) (λ (r : Inversion). Memᴰ r p) x t c

module _ (ts : Set) (h : ℕ) (p : List Inversion) where
  -- what replay decides next, and at which instant
  pub record DecidesNext (a : Replaying) (t : ℕ) (c : Choice) : Type 0 where
    pub at_instant : NextInstant ts h a.next a.free t
    pub decides : DecidesBy ts h a.unused p a.next t c

  -- the starts that replay makes, none of them too late: it ends when all jobs have started
  pub data Replays : Replaying → List Entry → Type 0 where
    ends : {a : Replaying} → ((i : ℕ) → i < length ts.tasks → jobs h (task ts i) ≤ slot a.next i) → Replays a []
    idles : {a : Replaying} {t : ℕ} {r : Idle} {behind : List Idle} {τ : List Entry} → a.unused ≡ r ∷ behind → DecidesNext a t (idle_for r.length) →
        Replays (after_idling a t r behind) τ → Replays a τ
    starts : {a : Replaying} {t i : ℕ} {τ : List Entry} → DecidesNext a t (start_task i) → (TooLate ts a.next i t → ⊥) →
        Replays (after_starting ts a t i) τ → Replays a (record { task = i; start = t } ∷ τ)
