-- Where a mark may stand, in the rule book's terms. Assumes nothing.
use Rattle.std.specs.Prelude.{Bool, ℕ}
use Rattle.rules.specs.Tasks.{both}
use Rattle.rules.specs.Marks.{Mark, row}
use Rattle.rules.specs.Framing.{in_kind, may_follow}

-- does an image of a kind have the mark
abbrev pub kind_at : ℕ → Mark → Bool
kind_at kind m = in_kind kind (row m)

-- and may it stand where no rank below the least may
abbrev pub allowed_at : ℕ → ℕ → Mark → Bool
allowed_at kind least m = both (kind_at kind m) (may_follow least (row m).rank)
