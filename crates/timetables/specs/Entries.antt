-- Entries read at their places: SL records one behind the other. Assumes nothing.
use Rattle.std.specs.Prelude.{ℕ, zero, suc, ◌+◌, List, [], ◌∷◌}
use Rattle.rules.specs.declared.Entry.{Entry}
use Rattle.rules.specs.Marks.{SL, size, body_length}
use Rattle.images.specs.Bodies.{part_of, entry_of}

-- the entry at a byte offset
abbrev pub entry_in : List ℕ → ℕ → Entry
entry_in bytes at = entry_of (part_of bytes (at + 2) (body_length SL))

-- so many entries from a byte offset on
unfoldable pub entries_at : List ℕ → ℕ → ℕ → List Entry
entries_at bytes at zero = []
entries_at bytes at (suc many) = entry_in bytes at ∷ entries_at bytes (at + size SL) many
