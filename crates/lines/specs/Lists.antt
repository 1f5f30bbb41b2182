-- What the functions that write the listing leave in a lent output. Assumes nothing.
use Rattle.std.specs.Prelude.{◌≡◌, List, ℕ, ◌+◌, ◌*◌, ◌≤◌, ◌<◌, length}
use Rattle.rules.specs.declared.Entry.{Entry}
use Rattle.rules.specs.Tasks.{Set, limits}
use Rattle.rules.specs.Promised.{TimetableImage}
use Rattle.text.specs.Puts.{AtFront}
use Rattle.lines.specs.Text.{listing_of, program_text}

-- the image of a valid timetable, and an output with room for its listing
pub record CanList (bytes : List ℕ) (out : List ℕ) : Type 0 where
  pub set : Set
  pub entries : List Entry
  pub image : TimetableImage bytes set entries
  pub room : length (listing_of set entries) ≤ length out

-- the listing of the timetable whose image it is
unfoldable pub Lists : List ℕ → List ℕ → ℕ → List ℕ → Type 0
Lists bytes old r out = (ts : Set) (τ : List Entry) → TimetableImage bytes ts τ → AtFront (listing_of ts τ) old r out

-- room for every listing, 81,928 bytes: 4,096 lines of 20, and a last line of 8
abbrev pub room : ℕ
room = limits.jobs * 20 + 8

-- an output that is too short keeps its bytes and 0 is answered; any other has the program's text at its front
pub record Listed (input old : List ℕ) (r : ℕ) (out : List ℕ) : Type 0 where
  pub short : length old < room → (r ≡ 0) × (out ≡ old)
  pub lists : room ≤ length old → AtFront (program_text input) old r out
