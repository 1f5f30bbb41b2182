-- The next start as the code answers it: the rule book's, with what it used. Assumes nothing.
use Rattle.std.specs.Prelude.{◌≡◌, Bool, true, false, List, ℕ, ◌+◌, ◌≤◌, ◌<◌, Result, Ok, Err}
use Rattle.std.proofs.Math.Option.{Option, none, some}
use Rattle.std.specs.Int.Count.{count_trailing_zeros}
use Rattle.rules.specs.declared.Idle.{Idle}
use Rattle.rules.specs.Tasks.{Set}
use Rattle.rules.specs.Timetable.{pick}
use Rattle.rules.specs.Setting.{instant, lowest}
use Rattle.rules.specs.Priority.{slot, setting}
use Rattle.rules.specs.Decision.{recorded}
use Rattle.rules.specs.Irregularities.{runs}
use Rattle.rules.specs.Marks.{PV, size}
use Rattle.rules.specs.Offsets.{no_record, shows, Source, standing, NextStart, next_is, stuck, past_own, readable, tasks_readable, shown_delays, idle_now, lent, next_start}
use Rattle.decision.specs.declared.Found.{Found}
use Rattle.decision.specs.declared.Stuck.{Stuck}
use Rattle.decision.specs.declared.Stuck.TheVariants.{NoStart, Unreadable}
use Rattle.decision.specs.declared.Unreadable.{Unreadable as Unread}
use Rattle.decision.specs.declared.Standing.{Standing}
use Rattle.sets.specs.declared.Kept.{Kept}
use Rattle.sets.specs.Kept.{tasks_in, hyperperiod_in}
use Rattle.decision.specs.declared.Front.{Front}
use Rattle.decision.specs.Fits.{next_in, releases_in, offsets_in, Fits, Stands}
use Rattle.decision.specs.declared.Chosen.{Chosen}
use Rattle.decision.specs.declared.Idled.{Idled}
use Rattle.decision.specs.Waiting.{mask_of, come_by}

-- a test turned round
abbrev pub not : Bool → Bool
not true = false
not false = true

-- a start is an inversion where the baseline would not run the task
abbrev pub inverts : Set → List ℕ → ℕ → ℕ → Bool
inverts ts x t i = not (runs ((setting ts).baseline x t) i)

-- the next start, or the number of what stops it
abbrev pub Answer : Type 0
Answer = Result Found ℕ

-- that number
abbrev pub stuck_number : Stuck → ℕ
stuck_number NoStart = 18
stuck_number Unreadable = 25

abbrev pub numbered : Result Found Stuck → Answer
numbered (Ok f) = Ok f
numbered (Err reason) = Err (stuck_number reason)

-- a start with the ID offset and the task's own offset behind it
abbrev pub next_case : Set → List ℕ → List ℕ → List ℕ → NextStart → Answer
next_case ts bytes x offsets (next_is i t o) =
    Ok (record {
      task = i;
      start = t;
      idle = o;
      inversion = past_own ((lent bytes ts).inversion_shown (slot offsets i)) i (slot x i) (slot offsets i);
      inverts = inverts ts x t i;
    })
next_case ts bytes x offsets (stuck number) = Err number

-- the rule book's next start of a set, an image, next job numbers, the instant from which the processor is free, the tasks' offsets and the ID offset
abbrev pub next_of : Set → List ℕ → List ℕ → ℕ → List ℕ → ℕ → Answer
next_of ts bytes x f offsets o = next_case ts bytes x offsets (next_start (setting ts) (lent bytes ts) (standing x f offsets o))

-- and where replay stands, from a free instant and an ID offset on
abbrev pub next_from : Set → List ℕ → Standing → ℕ → ℕ → Answer
next_from ts bytes at f o = next_of ts bytes (next_in at) f (offsets_in at) o

-- from where replay has come to
abbrev pub next_at : Set → List ℕ → Standing → Front → Answer
next_at ts bytes at front = next_from ts bytes at front.free front.idle

-- an answer that is the rule book's next start of every set that the rows fit
abbrev pub FindsNext : List ℕ → Kept → Standing → Front → Result Found Stuck → Type 0
FindsNext bytes kept at front r = (ts : Set) → Stands ts kept at front → numbered r ≡ next_at ts bytes at front

-- from an offset on the source shows idle records, one behind the other, and then none
pub data IdlesRead (S : Source) : ℕ → Type 0 where
  none_left : {o : ℕ} → S.idle_shown o ≡ no_record → IdlesRead S o
  one_more : {o after : ℕ} {r : Idle} → S.idle_shown o ≡ shows r after → IdlesRead S after → IdlesRead S o

-- the tasks' offsets can be read
abbrev pub TasksRead : List ℕ → Set → Kept → Standing → Type 0
TasksRead bytes ts kept at = tasks_readable (lent bytes ts) (tasks_in kept) (offsets_in at) ≡ true

-- all offsets can be read, and the ID offset behind every idle record as well
pub record AllRead (bytes : List ℕ) (ts : Set) (kept : Kept) (at : Standing) (idle : ℕ) : Type 0 where
  pub tasks_read : TasksRead bytes ts kept at
  pub idles_read : IdlesRead (lent bytes ts) idle

-- an offset, or the one past the PV record there
abbrev pub past_if : Bool → ℕ → ℕ
past_if own offset = pick own (offset + size PV) offset

-- the delay that each task's offset shows for its next job
abbrev pub delays_in : Set → List ℕ → List ℕ → List ℕ → ℕ → Option ℕ
delays_in ts bytes x offsets = shown_delays (setting ts) (lent bytes ts) x offsets

-- is there a delay
abbrev pub is_delay : Option ℕ → Bool
is_delay none = false
is_delay (some delay) = true

-- rules (2) and (3): the lowest task with a record for this instant, else the lowest of the mask, 16 for none
abbrev pub task_or : ℕ → Option ℕ → ℕ
task_or other none = other
task_or other (some i) = i

abbrev pub choice_of : Set → ℕ → List ℕ → List ℕ → List ℕ → ℕ → ℕ → ℕ
choice_of ts n bytes x offsets t mask = task_or (count_trailing_zeros 16 mask) (lowest n (recorded (setting ts) (delays_in ts bytes x offsets) x t))

-- a decision before the end of the cycle, whose task is looked for: what has started, offsets that can be read, and the mask of the waiting tasks
pub record Choosing (ts : Set) (bytes : List ℕ) (kept : Kept) (at : Standing) (t mask : ℕ) : Type 0 where
  pub fits : Fits ts kept at
  pub tasks_read : TasksRead bytes ts kept at
  pub before_end : t < hyperperiod_in kept
  pub is_mask : mask ≡ mask_of (tasks_in kept) (come_by (releases_in at) t)

-- that task, and whether its offset shows its next job's record
pub record IsChosen (ts : Set) (bytes : List ℕ) (kept : Kept) (at : Standing) (t mask : ℕ) (c : Chosen) : Type 0 where
  pub is_task : c.task ≡ choice_of ts (tasks_in kept) bytes (next_in at) (offsets_in at) t mask
  pub is_own : c.task < tasks_in kept → c.own ≡ is_delay (delays_in ts bytes (next_in at) (offsets_in at) c.task)

-- a decision where idling ends, with all offsets read, that uses no idle record
pub record StartsAt (ts : Set) (bytes : List ℕ) (kept : Kept) (at : Standing) (f : ℕ) (d : Idled) : Type 0 where
  pub fits : Fits ts kept at
  pub tasks_read : TasksRead bytes ts kept at
  pub idle_read : readable ((lent bytes ts).idle_shown d.idle) ≡ true
  pub no_idle : idle_now ((lent bytes ts).idle_shown d.idle) d.start ≡ none
  pub is_instant : instant (setting ts) (next_in at) f ≡ d.start
  pub by_end : d.start ≤ hyperperiod_in kept

-- decisions on the way to a start: what has started, and offsets that can be read
pub record Idling (ts : Set) (bytes : List ℕ) (kept : Kept) (at : Standing) : Type 0 where
  pub fits : Fits ts kept at
  pub tasks_read : TasksRead bytes ts kept at

-- where idling ends: the ID offset there cannot be read, or the start is decided there and uses no idle record
abbrev pub IdledTo : Set → List ℕ → Kept → Standing → Front → Result Idled Unread → Type 0
IdledTo ts bytes kept at front (Err e) = Err 25 ≡ next_at ts bytes at front
IdledTo ts bytes kept at front (Ok d) = (f : ℕ) × StartsAt ts bytes kept at f d × (next_from ts bytes at f d.idle ≡ next_at ts bytes at front)
