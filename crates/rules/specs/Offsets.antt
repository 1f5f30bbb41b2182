-- What the dispatcher sees at byte offsets, and the next start from there: document 01, "The dispatcher". Records are read by the same table of marks as
-- in framing. Assumes nothing.
use Rattle.std.specs.Prelude.{Bool, true, false, List, [], ◌∷◌, ◌++◌, ℕ, zero, suc, ◌+◌, ◌*◌, ◌-◌, ltb, leb, length, get_or, drop, replicate}
use Rattle.std.proofs.Math.Option.{Option, none, some}
use Rattle.fields.specs.Body.{head₀, tail₀}
use Rattle.rules.specs.declared.Idle.{Idle}
use Rattle.rules.specs.declared.Inversion.{Inversion}
use Rattle.rules.specs.declared.Offsets.{Offsets as OffsetsOf}
use Rattle.rules.specs.Tasks.{Set, both, hyperperiod, limits, largest_number}
use Rattle.rules.specs.Setting.{Setting, Tables}
use Rattle.rules.specs.Priority.{slot}
use Rattle.rules.specs.Decision.{Effect, idles_till, starts, waits_till, stops, step, idle_at, is_of}
use Rattle.rules.specs.Judging.{idle_in_range, inversion_in_range}
use Rattle.rules.specs.Marks.{Mark, TS, TK, SL, ID, PV, EN, marks, size, mark_in, values}
use Rattle.rules.specs.Image.{Record, record_of, to_idle, to_inversion, head_length}

-- what an offset shows: nothing that may stand there, no record of the kind looked for, or a record and the offset after it
pub data Shown (A : Type 0) : Type 0 where
  unreadable : Shown A
  no_record : Shown A
  shows : A → ℕ → Shown A

-- what is lent to the dispatcher, read at offsets
pub record Source : Type 0 where
  pub idle_shown : ℕ → Shown Idle
  pub inversion_shown : ℕ → Shown Inversion

-- an offset has 32 bits: a record is whole if it ends inside the image and at or before this byte
abbrev pub last_offset : ℕ
last_offset = largest_number

abbrev pub whole_record : ℕ → List ℕ → Option Mark → Option Record
whole_record o front none = none
whole_record o front (some m) =
    elim (both (leb (size m) (length front)) (leb (o + size m) last_offset)) [ true ↦ some (record_of m (values m front)) | false ↦ none ]

-- the whole record at an offset
unfoldable pub record_at : List ℕ → ℕ → Option Record
record_at bytes o = whole_record o (drop o bytes) (mark_in marks (get_or (drop o bytes) 0 0) (get_or (drop o bytes) 1 0))

abbrev pub shown_if : {A : Type 0} → Bool → Shown A → Shown A
shown_if true shown = shown
shown_if false shown = unreadable

-- at the ID offset stands a whole ID, PV or EN, at a task's a whole PV or EN; a record outside its own range is unreadable
module _ (ts : Set) (o : ℕ) where
  abbrev pub idle_by : Mark → List ℕ → Shown Idle
  idle_by TS v = unreadable
  idle_by TK v = unreadable
  idle_by SL v = unreadable
  idle_by ID v = shown_if (idle_in_range (hyperperiod ts) (to_idle v)) (shows (to_idle v) (o + size ID))
  idle_by PV v = shown_if (inversion_in_range ts (hyperperiod ts) (to_inversion v)) no_record
  idle_by EN v = no_record

  abbrev pub inversion_by : Mark → List ℕ → Shown Inversion
  inversion_by TS v = unreadable
  inversion_by TK v = unreadable
  inversion_by SL v = unreadable
  inversion_by ID v = unreadable
  inversion_by PV v = shown_if (inversion_in_range ts (hyperperiod ts) (to_inversion v)) (shows (to_inversion v) (o + size PV))
  inversion_by EN v = no_record

  abbrev pub idle_in : Option Record → Shown Idle
  idle_in none = unreadable
  idle_in (some r) = idle_by r.mark r.values

  abbrev pub inversion_in : Option Record → Shown Inversion
  inversion_in none = unreadable
  inversion_in (some r) = inversion_by r.mark r.values

-- an image as a source
abbrev pub lent : List ℕ → Set → Source
lent bytes ts = record { idle_shown = λ o. idle_in ts o (record_at bytes o); inversion_shown = λ o. inversion_in ts o (record_at bytes o) }

-- the delay that a task's offset shows for its next job, and the offset after that job has started
abbrev pub own_delay : Shown Inversion → ℕ → ℕ → Option ℕ
own_delay unreadable i k = none
own_delay no_record i k = none
own_delay (shows r after) i k = elim (is_of r i k) [ true ↦ some r.delay | false ↦ none ]

abbrev pub past_own : Shown Inversion → ℕ → ℕ → ℕ → ℕ
past_own unreadable i k o = o
past_own no_record i k o = o
past_own (shows r after) i k o = elim (is_of r i k) [ true ↦ after | false ↦ o ]

-- the length of the idle record that an offset shows, if it starts at this instant, and the offset after it
abbrev pub idle_now : Shown Idle → ℕ → Option ℕ
idle_now unreadable t = none
idle_now no_record t = none
idle_now (shows r after) t = idle_at r t

abbrev pub past_idle : Shown Idle → ℕ → ℕ
past_idle unreadable o = o
past_idle no_record o = o
past_idle (shows r after) o = after

abbrev pub readable : {A : Type 0} → Shown A → Bool
readable unreadable = false
readable no_record = true
readable (shows r after) = true

abbrev pub tasks_readable : Source → ℕ → List ℕ → Bool
tasks_readable S zero offsets = true
tasks_readable S (suc n) offsets = both (readable (S.inversion_shown (head₀ offsets))) (tasks_readable S n (tail₀ offsets))

-- a list of slots with another number in one of them
abbrev pub put_slot : List ℕ → ℕ → ℕ → List ℕ
put_slot x zero v = v ∷ tail₀ x
put_slot x (suc i) v = head₀ x ∷ put_slot (tail₀ x) i v

-- where the next start is looked for: what has started, the instant from which the processor is free, the tasks' offsets and the ID offset
pub record Standing (Started : Type 0) : Type 0 where
  pub next : Started
  pub free : ℕ
  pub offsets : List ℕ
  pub idle : ℕ

-- its four parts in one
abbrev pub standing : {Started : Type 0} → Started → ℕ → List ℕ → ℕ → Standing Started
standing x f offsets o = record { next = x; free = f; offsets = offsets; idle = o }

-- the next start: task, instant, and the ID offset after it; or the number of what stops it
pub data NextStart : Type 0 where
  next_is : ℕ → ℕ → ℕ → NextStart
  stuck : ℕ → NextStart

module _ (G : Setting) (S : Source) where
  -- all current offsets are read at every decision
  abbrev pub all_readable : List ℕ → ℕ → Bool
  all_readable offsets o = both (readable (S.idle_shown o)) (tasks_readable S G.tasks offsets)

  -- the delay that each task's offset shows for its next job
  abbrev pub shown_delays : G.Started → List ℕ → ℕ → Option ℕ
  shown_delays x offsets i = own_delay (S.inversion_shown (slot offsets i)) i (G.next_job x i)

  -- one turn, by the records that the offsets show
  abbrev pub shown_step : Standing G.Started → Effect
  shown_step a = step G a.next a.free (idle_now (S.idle_shown a.idle)) (shown_delays a.next a.offsets)

  -- after an idle till an instant: a used ID moves its offset to the record after it
  abbrev pub idled : Standing G.Started → ℕ → Standing G.Started
  idled a r = record { next = a.next; free = r; offsets = a.offsets; idle = past_idle (S.idle_shown a.idle) a.idle }

  -- after a wait till an instant
  abbrev pub waited : Standing G.Started → ℕ → Standing G.Started
  waited a r = record { next = a.next; free = r; offsets = a.offsets; idle = a.idle }

  -- the next start, in enough turns
  abbrev pub next_start_in : ℕ → Standing G.Started → NextStart
  next_start_in zero a = stuck 18
  next_start_in (suc turns) a =
      elim (all_readable a.offsets a.idle) [
        | false ↦ stuck 25
        | true ↦ elim (shown_step a) [
          | idles_till r ↦ next_start_in turns (idled a r)
          | starts i t ↦ next_is i t a.idle
          | waits_till r ↦ next_start_in turns (waited a r)
          | stops number ↦ stuck number
        ]
      ]

  -- every turn takes at least one tick
  abbrev pub next_start : Standing G.Started → NextStart
  next_start a = next_start_in (suc G.latest) a

  -- the tasks' offsets after the next job of task i has started: a started job's own PV moves its offset to the record after it
  abbrev pub moved : G.Started → List ℕ → ℕ → List ℕ
  moved x offsets i = put_slot offsets i (past_own (S.inversion_shown (slot offsets i)) i (G.next_job x i) (slot offsets i))

-- offsets as at a cycle's start: the first record behind the head, and for each task the first PV of its number or a higher one, else EN
abbrev pub lower_before : ℕ → List Inversion → ℕ
lower_before i [] = 0
lower_before i (r ∷ p) = elim (ltb r.task i) [ true ↦ suc (lower_before i p) | false ↦ 0 ]

abbrev pub inversion_offset : Set → Tables → ℕ → ℕ
inversion_offset ts X i = head_length ts + length X.idles * size ID + lower_before i X.inversions * size PV

abbrev pub inversion_offsets : Set → Tables → ℕ → ℕ → List ℕ
inversion_offsets ts X i zero = []
inversion_offsets ts X i (suc many) = inversion_offset ts X i ∷ inversion_offsets ts X (suc i) many

-- slots from n up begin at 0
abbrev pub first_offsets : Set → Tables → OffsetsOf
first_offsets ts X = record {
  idle = head_length ts;
  inversions = inversion_offsets ts X 0 (length ts.tasks) ++ replicate (limits.tasks - length ts.tasks) 0;
}
