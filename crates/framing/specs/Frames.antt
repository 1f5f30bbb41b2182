-- What framing's functions answer, in the rule book's terms. Assumes nothing.
use Rattle.std.specs.Prelude.{◌≡◌, Bool, true, false, List, ℕ, zero, suc, ◌+◌, ◌*◌, ◌≤◌, ◌<◌, length, get_or, drop, Result, Ok, Err}
use Rattle.rules.specs.declared.Place.{Place}
use Rattle.rules.specs.declared.Layout.{Layout}
use Rattle.rules.specs.declared.Located.{Located}
use Rattle.rules.specs.Refusals.{Judged, gives, refuses}
use Rattle.rules.specs.Tasks.{limits}
use Rattle.rules.specs.Marks.{Mark, TK, row, size, head_count_of, head_length_of, values}
use Rattle.rules.specs.Framing.{Next, goes_on, ends, may_follow, least_behind, after, start_place, frame_records, index_of_end, frame}
use Rattle.rules.specs.Located.{bare, RefusedAt, Begins}
use Rattle.rules.specs.Operations.{answer_by}
use Rattle.images.specs.Table.{stands_at}
use Rattle.framing.specs.declared.Step.{Step}
use Rattle.framing.specs.declared.Step.TheVariants as step_case

-- a refusal of the record at a place
abbrev pub refusal_at : ℕ → Place → Located
refusal_at number s = record { number = number; place = s.index; offset = s.offset }

-- a place in an image: as many records before it as its index says, up to its offset, inside the image and no more than bytes; what is counted adds up to
-- its index, in three stages: before TS, where TK records are due, and behind them
pub record Placed (bytes : List ℕ) (s : Place) : Type 0 where
  pub begins : Begins bytes s.index s.offset
  pub inside : s.offset ≤ length bytes
  pub few : s.index ≤ s.offset
  pub few_listed : s.listed + s.inversions ≤ s.index
  pub before_head : s.rank ≡ 0 → s.index ≡ 0
  pub tasks_due : s.rank ≡ 1 → (1 ≤ s.due) × (s.index + s.due ≡ suc s.tasks)
  pub behind_tasks : 2 ≤ s.rank → s.index ≡ head_count_of s.tasks + (s.listed + s.inversions)

-- a whole record of a mark at the place
pub record Whole (bytes : List ℕ) (s : Place) (m : Mark) : Type 0 where
  pub placed : Placed bytes s
  pub not_cut : s.offset + size m ≤ length bytes

-- what framing does behind a record
abbrev pub next_in : Result Step Located → Next
next_in (Ok (step_case.GoesOn t)) = goes_on t
next_in (Ok (step_case.Ended l)) = ends (gives l)
next_in (Err r) = ends (refuses (bare r))

-- a refusal tells the record's offset
abbrev pub TellsOffset : Place → Result Step Located → Type 0
TellsOffset s (Ok step) = Unit {0}
TellsOffset s (Err r) = r.offset ≡ s.offset

pub record Follows (kind : ℕ) (bytes : List ℕ) (s : Place) (m : Mark) (r : Result Step Located) : Type 0 where
  pub next : next_in r ≡ after kind s m (values m (drop s.offset bytes))
  pub located : TellsOffset s r

-- the place behind so many records with one mark, with what is counted then
unfoldable pub behind_run : Mark → Place → ℕ → ℕ → ℕ → Place
behind_run m s zero listed inversions = s
behind_run m s (suc j) listed inversions = record {
  index = s.index + suc j;
  offset = s.offset + suc j * size m;
  rank = least_behind (row m);
  due = s.due;
  tasks = s.tasks;
  listed = listed;
  inversions = inversions;
}

-- its index and its offset are numbers of the machine
pub record Room (s : Place) (m : Mark) (many : ℕ) : Type 0 where
  pub index : s.index + many < 18446744073709551616
  pub offset : s.offset + many * size m < 18446744073709551616

-- a record in its turn, which framing passes from one place to the next
pub record Passes (kind : ℕ) (bytes : List ℕ) (s t : Place) : Type 0 where
  pub mark : Mark
  pub its_turn : may_follow s.rank (row mark).rank ≡ true
  pub goes : after kind s mark (values mark (drop s.offset bytes)) ≡ goes_on t

-- a record moves framing to a later place from which it comes to the same; or framing comes to this: EN behind the tasks, or a refusal of this record, with
-- its index and its offset
abbrev pub Steps : ℕ → List ℕ → Place → Result Step Located → Type 0
Steps kind bytes s (Ok (step_case.GoesOn t)) =
    Placed bytes t × (s.offset < t.offset) × (frame_records kind s (drop s.offset bytes) ≡ frame_records kind t (drop t.offset bytes))
    × Passes kind bytes s t
Steps kind bytes s (Ok (step_case.Ended l)) =
    (frame_records kind s (drop s.offset bytes) ≡ gives l) × (index_of_end l ≡ s.index) × (2 ≤ s.rank)
Steps kind bytes s (Err r) =
    (frame_records kind s (drop s.offset bytes) ≡ refuses (bare r)) × (r.place ≡ s.index) × (r.offset ≡ s.offset)

-- a place that framing comes to: from here on it comes to what it comes to from the start
pub record Reached (kind : ℕ) (bytes : List ℕ) (s : Place) : Type 0 where
  pub placed : Placed bytes s
  pub same : frame_records kind start_place bytes ≡ frame_records kind s (drop s.offset bytes)

-- so many whole records with a mark, at most those asked for, stand one behind the other from a byte on
pub record RunOf (bytes : List ℕ) (from : ℕ) (m : Mark) (most many : ℕ) : Type 0 where
  pub asked : many ≤ most
  pub inside : from + many * size m ≤ length bytes
  pub stand : (j : ℕ) → j < many → stands_at bytes (from + j * size m) m ≡ true

-- a place on the way to the one behind the tasks: the image's first, or one where so many tasks are due that they end where all tasks end
pub record TowardsTasks (bytes : List ℕ) (s : Place) : Type 0 where
  pub first : s.rank ≡ 0 → (s.offset ≡ 0) × (s.due ≡ 0)
  pub low : s.rank ≤ 2
  pub none_due : 2 ≤ s.rank → s.due ≡ 0
  pub nothing_listed : (s.listed ≡ 0) × (s.inversions ≡ 0)
  pub announced : 1 ≤ s.rank → (s.tasks ≡ get_or bytes 4 0) × (1 ≤ s.tasks) × (s.tasks ≤ 16)
  pub counted : 1 ≤ s.rank → (s.index + s.due ≡ suc s.tasks) × (s.offset + s.due * size TK ≡ head_length_of s.tasks)

-- a place that framing comes to, on the way to the one behind the tasks, and not before the place that it was at
pub record TasksPassed (kind : ℕ) (bytes : List ℕ) (s t : Place) : Type 0 where
  pub reached : Reached kind bytes t
  pub towards : TowardsTasks bytes t
  pub onwards : s.offset ≤ t.offset

-- the place behind TS and the tasks that it announces
pub record BehindTasks (bytes : List ℕ) (s : Place) : Type 0 where
  pub rank : s.rank ≡ 2
  pub due : s.due ≡ 0
  pub listed : s.listed ≡ 0
  pub inversions : s.inversions ≡ 0
  pub tasks : s.tasks ≡ get_or bytes 4 0
  pub some : 1 ≤ s.tasks
  pub few : s.tasks ≤ limits.tasks
  pub index : s.index ≡ head_count_of s.tasks
  pub offset : s.offset ≡ head_length_of s.tasks

-- framing of TS and the tasks comes to the place behind them, or the image is refused at one of these records
abbrev pub TasksFramed : ℕ → List ℕ → Result Place Located → Type 0
TasksFramed kind bytes (Ok s) = Reached kind bytes s × BehindTasks bytes s
TasksFramed kind bytes (Err r) = RefusedAt bytes (frame_records kind start_place bytes) r × (r.place ≤ get_or bytes 4 0)

-- framing of a whole image, behind whose EN nothing follows, or of the one at the front
abbrev pub frame_as : Bool → ℕ → List ℕ → Judged Layout
frame_as true kind bytes = frame kind bytes
frame_as false kind bytes = frame_records kind start_place bytes

-- what framing comes to, a refusal located in the image
abbrev pub frame_answer : List ℕ → Judged Layout → Result Layout Located
frame_answer = answer_by (λ l. l)
