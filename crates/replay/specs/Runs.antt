-- Starts, one behind the other: where replay stands behind each, what a run of them comes to, and what may be replayed. Assumes nothing.
use Rattle.std.specs.Prelude.{◌≡◌, Bool, true, List, [], ◌∷◌, ℕ, zero, suc, ◌+◌, ◌-◌, ◌≤◌, min, ◌<◌, eqb, length, get_or, set, Ok, Err}
use Rattle.std.proofs.Math.Option.{none}
use Rattle.rules.specs.declared.Entry.{Entry}
use Rattle.rules.specs.declared.Offsets.{Offsets as OffsetsOf}
use Rattle.rules.specs.Refusals.{gives}
use Rattle.rules.specs.Timetable.{pick}
use Rattle.rules.specs.Tasks.{Set, limits, largest_number, task, all_jobs, hyperperiod, set_fault}
use Rattle.rules.specs.Setting.{Tables}
use Rattle.rules.specs.Judging.{records_fault}
use Rattle.rules.specs.Marks.{SL, size}
use Rattle.rules.specs.Image.{record_of, of_entry}
use Rattle.rules.specs.Offsets.{last_offset, first_offsets}
use Rattle.rules.specs.Operations.{read_tables}
use Rattle.rules.specs.Dispatcher.{zeros}
use Rattle.decision.specs.declared.Standing.{Standing}
use Rattle.sets.specs.declared.Kept.{Kept}
use Rattle.sets.specs.Kept.{times_in, periods_in, first_in, Keeps}
use Rattle.decision.specs.declared.Found.{Found}
use Rattle.decision.specs.declared.Front.{Front}
use Rattle.decision.specs.Fits.{next_in, releases_in, offsets_in, Stands}
use Rattle.decision.specs.Next.{Answer, numbered, next_at, AllRead}
use Rattle.writing.specs.Writing.{record_put}
use Rattle.replay.specs.declared.Run.{Run}

-- the least offset of a PV record that had no effect, after a start from a task's offset to the one behind it
unfoldable pub wasted_after : ℕ → ℕ → ℕ → Bool → ℕ
wasted_after wasted offset behind inverts = pick (eqb behind offset) wasted (pick inverts wasted (min wasted offset))

-- what a run comes to: the starts it found, the least offset of a PV record that had no effect, and the last answer, a start or what stopped it
pub record Ends : Type 0 where
  pub entries : List Entry
  pub wasted : ℕ
  pub last : Answer

-- a start as an entry
abbrev pub as_entry : Found → Entry
as_entry f = record { task = f.task; start = f.start }

-- a start before the others of a run
abbrev pub start_first : Found → Ends → Ends
start_first f e = record { entries = as_entry f ∷ e.entries; wasted = e.wasted; last = e.last }

-- the least offset of a PV record that had no effect, behind a start
abbrev pub wasted_by : Standing → ℕ → Found → ℕ
wasted_by at wasted f = wasted_after wasted (get_or (offsets_in at) f.task 0) f.inversion f.inverts

-- where replay stands behind a start, with the release of the task's next job
abbrev pub stepped : Standing → Found → ℕ → Standing
stepped at f release = record {
  next = set (next_in at) f.task (get_or (next_in at) f.task 0 + 1);
  release = set (releases_in at) f.task release;
  offsets = set (offsets_in at) f.task f.inversion;
}

-- there are sixteen slots of each
pub record InSlots (at : Standing) : Type 0 where
  pub next : length (next_in at) ≡ limits.tasks
  pub releases : length (releases_in at) ≡ limits.tasks
  pub offsets : length (offsets_in at) ≡ limits.tasks

-- a start may be noted: there is a slot for its task, and the numbers have 32 bits
pub record CanStep (kept : Kept) (at : Standing) (f : Found) : Type 0 where
  pub slots : InSlots at
  pub in_slots : f.task < limits.tasks
  pub free : f.start + get_or (times_in kept) f.task 0 ≤ largest_number
  pub counts : get_or (next_in at) f.task 0 + 1 ≤ largest_number
  pub release : get_or (releases_in at) f.task 0 + get_or (periods_in kept) f.task 0 ≤ largest_number

-- where replay stands behind a start of a set's task
abbrev pub behind : Set → Standing → Found → Standing
behind ts at f = stepped at f (get_or (releases_in at) f.task 0 + (task ts f.task).period)

-- how far replay has come then: the processor is free when the job ends, and ID records are looked for behind those that were used
abbrev pub front_behind : Set → Found → Front
front_behind ts f = record { free = f.start + (task ts f.task).time; idle = f.idle }

-- a run of a set and an image
module _ (ts : Set) (bytes : List ℕ) where
  -- what a run comes to: a start, and so many behind it, up to the first that is not found
  unfoldable pub ends_of : ℕ → Standing → Front → ℕ → Ends
  ends_of zero at front wasted =
      elim (next_at ts bytes at front) [
        | Ok f ↦ record { entries = as_entry f ∷ []; wasted = wasted_by at wasted f; last = Ok f }
        | Err number ↦ record { entries = []; wasted = wasted; last = Err number }
      ]
  ends_of (suc more) at front wasted =
      elim (next_at ts bytes at front) [
        | Ok f ↦ start_first f (ends_of more (behind ts at f) (front_behind ts f) (wasted_by at wasted f))
        | Err number ↦ record { entries = []; wasted = wasted; last = Err number }
      ]

  -- all offsets can be read at each of these decisions
  unfoldable pub AllReadIn : Kept → ℕ → Standing → Front → Type 0
  AllReadIn kept zero at front = AllRead bytes ts kept at front.idle
  AllReadIn kept (suc more) at front =
      AllRead bytes ts kept at front.idle
      × ((f : Found) → next_at ts bytes at front ≡ Ok f → AllReadIn kept more (behind ts at f) (front_behind ts f))

-- so many starts, and one at least, from where replay stands
abbrev pub run_from : Set → List ℕ → Standing → Front → ℕ → Ends
run_from ts bytes at front wanted = ends_of ts bytes (wanted - 1) at front last_offset

-- entries put one behind the other from a place on, each where it fits
unfoldable pub entries_from : List ℕ → ℕ → List Entry → List ℕ
entries_from old at [] = old
entries_from old at (e ∷ τ) = entries_from (record_put old at (record_of SL (of_entry e))) (at + size SL) τ

-- a run as it is told, and its entries in the output from its beginning on
pub record Ran (e : Ends) (old : List ℕ) (r : Run) (left : List ℕ) : Type 0 where
  pub made : r.made ≡ length e.entries
  pub wasted : r.wasted ≡ e.wasted
  pub last : numbered r.last ≡ e.last
  pub output : left ≡ entries_from old 0 e.entries

-- an output and a place in it, behind an entry that is put where it fits: what is put next comes behind it
pub record PutsOn (out : List ℕ) (place : ℕ) (out' : List ℕ) (place' : ℕ) (f : Found) : Type 0 where
  pub same_length : length out' ≡ length out
  pub on : (τ : List Entry) → entries_from out place (as_entry f ∷ τ) ≡ entries_from out' place' τ

-- where a run is to begin: slots that fit the set; for more than one start, sixteen of each; and, for records that were judged, offsets that can be read
pub record CanRun (ts : Set) (bytes : List ℕ) (judged : Bool) (kept : Kept) (at : Standing) (front : Front) (wanted : ℕ) : Type 0 where
  pub stands : Stands ts kept at front
  pub slots : 1 < wanted → InSlots at
  pub read : judged ≡ true → AllReadIn ts bytes kept (wanted - 1) at front

-- tables read from an image, of a good set and with records that keep their rules; what is kept of the set; and the offsets as at a cycle's start
pub record CanReplay (ts : Set) (bytes : List ℕ) (kept : Kept) (first : OffsetsOf) : Type 0 where
  pub tables : Tables
  pub read : read_tables bytes ≡ gives (record { set = ts; tables = tables })
  pub good : set_fault ts ≡ none
  pub records_good : records_fault ts (hyperperiod ts) tables ≡ none
  pub keeps : Keeps ts kept
  pub first_is : first ≡ first_offsets ts tables

-- where replay stands as a cycle begins: no job has started, and the processor is free
abbrev pub cycle_start : Kept → OffsetsOf → Standing
cycle_start kept first = record { next = zeros; release = first_in kept; offsets = first.inversions }

abbrev pub cycle_front : OffsetsOf → Front
cycle_front first = record { free = 0; idle = first.idle }

-- the run through the cycle
abbrev pub cycle_of : Set → List ℕ → Kept → OffsetsOf → Ends
cycle_of ts bytes kept first = run_from ts bytes (cycle_start kept first) (cycle_front first) (all_jobs (hyperperiod ts) ts)
