-- What a call does to the bytes that a reader has left and to those that a writer holds, where they are known. Assumes nothing.
use Rattle.std.specs.Prelude.{◌≡◌, ◌-◌, ◌<◌, List, ℕ, length, take, drop, Option, Result, MatchResult}
use Rattle.std.specs.Io.KnownBytes.{Keeps, Appends, Consumes, IsAtEnd}
use Rattle.std.specs.declared.io.Error.{Error}
use Rattle.standard.specs.declared.Unfinished.{Unfinished}

-- one read gave what now stands behind a place of a buffer, nothing only at the end or where there was no room
abbrev pub Gives : ℕ → Result ℕ Error → List ℕ → Option (List ℕ) → Option (List ℕ) → Type 0
Gives at r bytes old new =
    MatchResult r (λ n. Consumes old new (take n (drop at bytes)) × (n ≡ 0 → at < length bytes → IsAtEnd new)) (λ _. Keeps old new)

-- reading behind the bytes that are held gave what is held behind them then
abbrev pub Comes : ℕ → Result ℕ Error → List ℕ → Option (List ℕ) → Option (List ℕ) → Type 0
Comes held r bytes old new =
    MatchResult r (λ n. Consumes old new (take (n - held) (drop held bytes)) × (n ≡ held → held < length bytes → IsAtEnd new)) (λ _. Keeps old new)

-- one write took what stands behind a place of a text
abbrev pub Takes : ℕ → Result ℕ Error → List ℕ → Option (List ℕ) → Option (List ℕ) → Type 0
Takes at r text old new = MatchResult r (λ n. Appends old new (take n (drop at text))) (λ _. Keeps old new)

-- a text was written, or so much of it as was taken
abbrev pub Written : List ℕ → Result Unit Unfinished → Option (List ℕ) → Option (List ℕ) → Type 0
Written text r old new = MatchResult r (λ _. Appends old new text) (λ unfinished. Appends old new (take unfinished.taken text))
