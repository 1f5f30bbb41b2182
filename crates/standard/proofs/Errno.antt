-- std takes errno for an interruption exactly where it is EINTR. Assumes nothing.
use Rattle.std.specs.Prelude.{◌≡◌, ◌≢◌, List, [], ◌∷◌, Bool, true, false, ℕ, eqb, ℤ, pos, negsuc, int_lt, refl, Option, Result, Ok, Err}
use Rattle.std.specs.IoError.{os_error_kind, os_error_kinds, kind_in}
use Rattle.std.specs.declared.io.Error.{Error}
use Rattle.std.specs.declared.io.ErrorKind.{ErrorKind}
use Rattle.std.proofs.Common.{arith, rules, ap, ◌∙◌}
use Rattle.std.proofs.lemmas.Bool.{eqb-true, eqb-false}
use Rattle.std.proofs.lemmas.Grind.{common_steps}
use Rattle.standard.specs.Calls.{interruption, is_interrupted, not_made, made_of, AsErrno}

-- a table of errors in which only EINTR is an interruption
abbrev Only : List (ℕ × ErrorKind) → Type 0
Only [] = Unit {0}
Only (row ∷ rows) = (row.0 ≢ 4 → is_interrupted row.1 ≡ false) × Only rows

-- any other number is none there
none : (rows : List (ℕ × ErrorKind)) (n : ℕ) → Only rows → n ≢ 4 → is_interrupted (kind_in rows n) ≡ false
none [] n o h = refl
none (row ∷ rows) n o h = let rest = none rows n o.1 h in grind (arith, common_steps, rest, o.0)

only : Only os_error_kinds
only = search rules

-- a number of the system's, by whether it is EINTR
by_number : (n : ℕ) (b : Bool) → eqb n 4 ≡ b → is_interrupted (kind_in os_error_kinds n) ≡ b
by_number n true e = rw (eqb-true n 4 e)
by_number n false e = none os_error_kinds n only (eqb-false n 4 e)

not_below : (n : ℕ) → int_lt (pos n) (pos 0) ≡ false
not_below n = grind (arith, common_steps)

-- errno, by what std takes it for
eintr : (error : ℤ) → is_interrupted (os_error_kind error) ≡ interruption error
unfolding os_error_kind
eintr (pos n) = rw (not_below n) (by_number n (eqb n 4) refl)
eintr (negsuc k) = refl

-- what a call came to by std's kinds, it came to by errno
pub as_errno : (got : Result ℕ Error) (r : Option (Result ℕ Error)) → r ≡ made_of got → AsErrno got r
as_errno (Ok n) r is = is
as_errno (Err e) r is = λ error same. is ∙ ap (not_made e) (ap is_interrupted same ∙ eintr error)
