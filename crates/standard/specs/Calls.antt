-- What a call of read or write came to, and what reading leaves in the buffer. Which bytes were read stands in Known, for a reader whose bytes are known. Assumes nothing.
use Rattle.std.specs.Prelude.{◌≡◌, List, Bool, true, false, ℕ, ◌+◌, ◌≤◌, eqb, ℤ, pos, negsuc, length, take, Option, None, Some, Result, Ok, Err, IfOk}
use Rattle.std.specs.IoError.{error_kind, os_error_kind}
use Rattle.std.specs.declared.io.Error.{Error}
use Rattle.std.specs.declared.io.ErrorKind.{ErrorKind}
use Rattle.std.specs.declared.io.ErrorKind.TheVariants.{Interrupted}

-- the error of a call that a signal interrupted, EINTR
abbrev pub interruption : ℤ → Bool
interruption (pos error) = eqb error 4
interruption (negsuc k) = false

-- the kind of an error of a call that a signal interrupted
abbrev pub is_interrupted : ErrorKind → Bool
is_interrupted Interrupted = true
is_interrupted _ = false

-- a call that has this error is to be made again where it was interrupted; else it failed
abbrev pub not_made : Error → Bool → Option (Result ℕ Error)
not_made e true = None
not_made e false = Some (Err e)

-- what a call of std's came to, by its answer, and by the kind of its error where it has none
abbrev pub made_of : Result ℕ Error → Option (Result ℕ Error)
made_of (Ok n) = Some (Ok n)
made_of (Err e) = not_made e (is_interrupted (error_kind e))

-- that is what the call came to by its answer and errno, where the error's kind is what std takes errno for
abbrev pub AsErrno : Result ℕ Error → Option (Result ℕ Error) → Type 0
AsErrno (Ok n) r = r ≡ Some (Ok n)
AsErrno (Err e) r = (error : ℤ) → error_kind e ≡ os_error_kind error → r ≡ not_made e (interruption error)

-- the bytes that a call moved lie within a buffer behind a place
abbrev pub Moves : ℕ → Result ℕ Error → List ℕ → Type 0
Moves at r bytes = IfOk r (λ n. at + n ≤ length bytes)

-- one read behind a place of a buffer: what stood before the place is kept, and what came lies within the buffer
pub record ReadFrom (at : ℕ) (old : List ℕ) (r : Result ℕ Error) (new : List ℕ) : Type 0 where
  pub kept : take at new ≡ take at old
  pub inside : Moves at r new

-- the bytes that are held then: those that were, with what came behind them, within the buffer
abbrev pub Holds : ℕ → Result ℕ Error → List ℕ → Type 0
Holds held r bytes = IfOk r (λ n. (held ≤ n) × (n ≤ length bytes))

-- reading behind the bytes that are held
pub record ReadBehind (held : ℕ) (old : List ℕ) (r : Result ℕ Error) (new : List ℕ) : Type 0 where
  pub kept : take held new ≡ take held old
  pub inside : Holds held r new
