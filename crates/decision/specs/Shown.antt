-- What the offsets show, as the code answers it: what the rule book's source shows there. Assumes nothing.
use Rattle.std.specs.Prelude.{Bool, true, false, List, ℕ, ◌+◌, leb, eqb, Result, Ok, Err, Option as Told, Some, None}
use Rattle.std.proofs.Math.Option.{Option, none, some}
use Rattle.rules.specs.Tasks.{both}
use Rattle.rules.specs.Marks.{Mark, size}
use Rattle.rules.specs.Offsets.{Shown, unreadable, no_record, shows, last_offset}
use Rattle.images.specs.Table.{stands_at}
use Rattle.decision.specs.declared.Unreadable.{Unreadable}

-- does a whole record with a mark stand at an offset: inside the image, and at or before the last offset
unfoldable pub whole_at : List ℕ → ℕ → Mark → Bool
whole_at bytes o m = both (leb (o + size m) last_offset) (stands_at bytes o m)

-- what an offset shows: a record or none, or that it cannot be read
abbrev pub shown_case : {A : Type 0} → Shown A → Result (Told A) Unreadable
shown_case unreadable = Err (record {})
shown_case no_record = Ok None
shown_case (shows r after) = Ok (Some r)

-- whether all can be read
abbrev pub read_case : Bool → Result (Unit {0}) Unreadable
read_case true = Ok tt
read_case false = Err (record {})

-- a delay, if there is one
abbrev pub delay_case : Option ℕ → Told ℕ
delay_case none = None
delay_case (some delay) = Some delay

-- is there one of this length
abbrev pub has_delay : Option ℕ → ℕ → Bool
has_delay none delay = false
has_delay (some d) delay = eqb d delay
