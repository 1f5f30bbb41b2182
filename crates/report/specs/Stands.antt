-- Where the report stands in its buffer, what one turn leaves of that, and what bounds the turns that are left. Which bytes are read, and that the text was
-- written, no contract can say. Assumes nothing.
use Rattle.std.specs.Prelude.{◌≡◌, true, List, ◌++◌, ℕ, suc, ◌+◌, ◌-◌, ◌*◌, ◌≤◌, ◌<◌, ltb, length, take, drop, Option, Some, None, Result, Ok, Err}
use Rattle.rules.specs.Timetable.{pick}
use Rattle.text.specs.Text.{longest_input}
use Rattle.reporting.specs.Report.{waits, goes_on, most_images, turn}
use Rattle.report.specs.declared.Stand.{Stand}
use Rattle.report.specs.declared.Failure.{Failure}

-- the bytes from one place to another
abbrev pub between : ℕ → ℕ → List ℕ → List ℕ
between begin end buffer = take (end - begin) (drop begin buffer)

-- the bytes that are held
abbrev pub held_in : Stand → List ℕ → List ℕ
held_in s buffer = between s.begin s.end buffer

-- the places lie in order in a buffer for the longest image and a byte behind it, and there were not too many images
pub record Stands (s : Stand) (buffer : List ℕ) : Type 0 where
  pub in_order : s.begin ≤ s.end
  pub inside : s.end ≤ length buffer
  pub long : length buffer ≡ suc longest_input
  pub few : s.images ≤ most_images

-- more bytes can come, and one has room
pub record CanRead (s : Stand) (buffer : List ℕ) : Type 0 where
  pub stands : Stands s buffer
  pub can_come : s.more ≡ true
  pub has_room : s.end - s.begin ≤ longest_input

-- images that may still come, room in the buffer, and the end that is not known yet
abbrev pub left : Stand → ℕ
left s = (most_images - s.images) * (longest_input + 3) + (suc longest_input - (s.end - s.begin)) + pick s.more 1 0

-- the report stands there, with less left
pub record Ahead (s t : Stand) (buffer : List ℕ) : Type 0 where
  pub stands : Stands t buffer
  pub less : left t < left s

-- a piece is held behind the bytes that were; where none came, the input has ended
pub record ReadOn (s : Stand) (old : List ℕ) (t : Stand) (new : List ℕ) : Type 0 where
  pub ahead : Ahead s t new
  pub piece : List ℕ
  pub held : held_in t new ≡ held_in s old ++ piece
  pub more : t.more ≡ ltb 0 (length piece)
  pub images : t.images ≡ s.images

-- behind an image of so many bytes
abbrev pub after_image : Stand → ℕ → Stand
after_image s used = record { begin = s.begin + used; end = s.end; more = s.more; images = s.images + 1 }

pub record PassedOn (s : Stand) (old : List ℕ) (used : ℕ) (t : Stand) (new : List ℕ) : Type 0 where
  pub ahead : Ahead s t new
  pub held : held_in t new ≡ drop used (held_in s old)
  pub more : t.more ≡ s.more
  pub images : t.images ≡ suc s.images

-- a turn of the drive: where it waits a piece more is read, or the end is seen; where it goes on an image's bytes are passed
pub data Driven (s : Stand) (old : List ℕ) (t : Stand) (new : List ℕ) : Type 0 where
  reads : turn (held_in s old) s.more s.images ≡ waits → ReadOn s old t new → Driven s old t new
  passes : {text : List ℕ} {used : ℕ} → turn (held_in s old) s.more s.images ≡ goes_on text used → PassedOn s old used t new → Driven s old t new

-- what each function leaves where the report goes on
abbrev pub Reads : Stand → List ℕ → Result Stand Failure → List ℕ → Type 0
Reads s old (Ok t) new = ReadOn s old t new
Reads s old (Err failure) new = Unit {0}

abbrev pub Passes : Stand → ℕ → Result Stand Failure → Type 0
Passes s used (Ok t) = t ≡ after_image s used
Passes s used (Err failure) = Unit {0}

abbrev pub Drives : Stand → List ℕ → Result (Option Stand) Failure → List ℕ → Type 0
Drives s old (Ok (Some t)) new = Driven s old t new
Drives s old (Ok None) new = Unit {0}
Drives s old (Err failure) new = Unit {0}
