-- Logs of calls of the dispatcher: beginning, then going on, each call given the state that the one before handed back. Assumes nothing.
use Rattle.std.specs.Prelude.{◌≡◌, List, ℕ, suc, ◌+◌, ◌*◌, ◌≤◌, ◌<◌, length, Result, Ok}
use Rattle.rules.specs.declared.Entry.{Entry}
use Rattle.rules.specs.declared.Start.{Start}
use Rattle.rules.specs.declared.Dispatcher.{Dispatcher as State}
use Rattle.rules.specs.declared.Turn.{Turn}
use Rattle.rules.specs.declared.Located.{Located}
use Rattle.rules.specs.Tasks.{Set, task}
use Rattle.rules.specs.Timetable.{entry_at, job_at}
use Rattle.rules.specs.Dispatcher.{last_cycle, begin, go_on}

-- a reported end that lies from a start to that start plus C
abbrev pub Honest : Set → Start → ℕ → Type 0
Honest ts s end = (s.time ≤ end) × (end ≤ s.time + (task ts s.task).time)

-- the calls so far on one image: how many of them reported an honest end, what the last of these answered (or beginning), and the state after the last call;
-- a call that reports an end before the running job's start is made again
pub data Log (bytes : List ℕ) (ts : Set) : ℕ → Result Start Located → State → Type 0 where
  begun : {turn : Turn} → turn ≡ begin bytes → Log bytes ts 0 turn.answer turn.state
  went_on : {k : ℕ} {s : Start} {d : State} {turn : Turn} → Log bytes ts k (Ok s) d → (end : ℕ) → Honest ts s end → turn ≡ go_on bytes d end →
      Log bytes ts (suc k) turn.answer turn.state
  too_early : {k : ℕ} {s : Start} {d : State} {turn : Turn} → Log bytes ts k (Ok s) d → (end : ℕ) → end < s.time → turn ≡ go_on bytes d end →
      Log bytes ts k (Ok s) turn.state

-- entry r of a timetable in cycle c, moved by whole hyperperiods
abbrev pub start_of : ℕ → List Entry → ℕ → ℕ → Start
start_of h τ c r = record { task = (entry_at τ r).task; job = job_at τ r; cycle = c; time = c * h + (entry_at τ r).start }

-- the starts of all cycles, from 0 to the last: as many as a timetable has entries, in each of them
abbrev pub all_starts : List Entry → ℕ
all_starts τ = suc last_cycle * length τ
