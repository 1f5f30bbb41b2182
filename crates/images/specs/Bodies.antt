-- Bodies: the part of an image that a body is, and what each reader answers for any part. Assumes nothing.
use Rattle.std.specs.Prelude.{List, [], ◌∷◌, ℕ, take, drop}
use Rattle.fields.specs.Number.{field_at}
use Rattle.rules.specs.declared.Task.{Task}
use Rattle.rules.specs.declared.Entry.{Entry}
use Rattle.rules.specs.declared.Idle.{Idle}
use Rattle.rules.specs.declared.Inversion.{Inversion}
use Rattle.rules.specs.Priority.{slot}
use Rattle.images.specs.declared.Head.{Head}
use Rattle.images.specs.declared.End.{End}

-- so many bytes from a place on
abbrev pub part_of : List ℕ → ℕ → ℕ → List ℕ
part_of bytes at len = take len (drop at bytes)

abbrev pub head_of : List ℕ → Head
head_of body = record { edition = field_at 1 body 0; kind = field_at 1 body 1; n = field_at 1 body 2 }

-- TS's values, and what they stand for
abbrev pub of_head : Head → List ℕ
of_head h = h.edition ∷ h.kind ∷ h.n ∷ []

abbrev pub to_head : List ℕ → Head
to_head v = record { edition = slot v 0; kind = slot v 1; n = slot v 2 }

abbrev pub task_of : List ℕ → Task
task_of body = record { offset = field_at 4 body 0; time = field_at 4 body 4; period = field_at 4 body 8; deadline = field_at 4 body 12 }

abbrev pub entry_of : List ℕ → Entry
entry_of body = record { task = field_at 1 body 0; start = field_at 4 body 1 }

abbrev pub idle_of : List ℕ → Idle
idle_of body = record { start = field_at 4 body 0; length = field_at 2 body 4 }

abbrev pub inversion_of : List ℕ → Inversion
inversion_of body = record { task = field_at 1 body 0; job = field_at 2 body 1; delay = field_at 4 body 3 }

abbrev pub end_of : List ℕ → End
end_of body = record { before = field_at 4 body 0 }

-- EN's value, and what it stands for
abbrev pub of_end : End → List ℕ
of_end e = e.before ∷ []

abbrev pub to_end : List ℕ → End
to_end v = record { before = slot v 0 }
