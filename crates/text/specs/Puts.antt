-- What the functions that write text leave in a lent output. Assumes nothing.
use Rattle.std.specs.Prelude.{◌≡◌, List, ◌++◌, ℕ, ◌+◌, length, drop}
use Rattle.writing.specs.Writing.{put_at}

-- a text was put at a place of an output, and the place behind it is answered
pub record PutAt (old : List ℕ) (at : ℕ) (text : List ℕ) (r : ℕ) (out : List ℕ) : Type 0 where
  pub behind : r ≡ at + length text
  pub put : out ≡ put_at old at text

-- a text fills the front of an output, later bytes keep their values, and its length is answered
pub record AtFront (text old : List ℕ) (r : ℕ) (out : List ℕ) : Type 0 where
  pub many : r ≡ length text
  pub front : out ≡ text ++ drop (length text) old
