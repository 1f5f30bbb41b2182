-- What judging a table image comes to in memory. Assumes nothing.
use Rattle.std.specs.Prelude.{◌≡◌, List, ◌++◌, ℕ, ◌-◌, ◌≤◌, length, replicate, Result, Ok, Err}
use Rattle.rules.specs.declared.TaskSet.{TaskSet}
use Rattle.rules.specs.declared.Entry.{Entry}
use Rattle.rules.specs.declared.Layout.{Layout}
use Rattle.rules.specs.declared.Located.{Located}
use Rattle.rules.specs.Refusals.{gives}
use Rattle.rules.specs.Tasks.{limits, memory_set}
use Rattle.rules.specs.Setting.{Tables}
use Rattle.rules.specs.Judging.{judge_tables}
use Rattle.rules.specs.Framing.{frame}
use Rattle.rules.specs.Located.{RefusedAt}
use Rattle.rules.specs.Offsets.{first_offsets}
use Rattle.rules.specs.Operations.{read_tables, rebuilt}
use Rattle.rules.specs.Dispatcher.{zero_task}
use Rattle.sets.specs.declared.Kept.{Kept}
use Rattle.sets.specs.Kept.{Keeps}
use Rattle.framing.specs.SetRead.{set_read}
use Rattle.tables.specs.declared.Tables.{Tables as Judgement}

-- a framed image whose set is good, and what is kept of the set
pub record SetStands (bytes : List ℕ) (s : TaskSet) (kept : Kept) (l : Layout) : Type 0 where
  pub framed : frame 2 bytes ≡ gives l
  pub set_is : s ≡ set_read l.tasks bytes
  pub keeps : Keeps (memory_set s) kept

-- an accepted image: its set, with zero slots behind the tasks, what is kept of it, its tables and the timetable behind them, and its first offsets
pub record Good (bytes : List ℕ) (t : Judgement) (kept : Kept) : Type 0 where
  pub tables : Tables
  pub entries : List Entry
  pub few : t.set.n ≤ limits.tasks
  pub tasks_many : length (memory_set t.set).tasks ≡ t.set.n
  pub zero_slots : t.set.tasks ≡ (memory_set t.set).tasks ++ replicate (limits.tasks - t.set.n) zero_task
  pub read : read_tables bytes ≡ gives (record { set = memory_set t.set; tables = tables })
  pub judged : judge_tables (memory_set t.set) tables ≡ gives entries
  pub keeps : Keeps (memory_set t.set) kept
  pub offsets : t.first ≡ first_offsets (memory_set t.set) tables

-- an image is accepted, with what it holds, or refused with the refusal that judging it comes to
abbrev pub JudgedAs : List ℕ → Result Judgement Located → Kept → Type 0
JudgedAs bytes (Ok t) kept = Good bytes t kept
JudgedAs bytes (Err r) kept = RefusedAt bytes (rebuilt bytes) r
