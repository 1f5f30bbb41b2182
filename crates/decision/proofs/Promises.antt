-- The contract of the next start determines its answer. Assumes nothing.
use Rattle.std.specs.Prelude.{Result, Ok, Err}
use Rattle.std.proofs.Common.{◌≡◌, refl, sym, ◌∙◌, ap, List, ℕ, arith}
use Rattle.rules.specs.Tasks.{Set}
use Rattle.decision.specs.declared.Standing.{Standing}
use Rattle.sets.specs.declared.Kept.{Kept}
use Rattle.decision.specs.declared.Found.{Found}
use Rattle.decision.specs.declared.Front.{Front}
use Rattle.decision.specs.declared.Stuck.{Stuck}
use Rattle.decision.specs.declared.Stuck.TheVariants.{NoStart, Unreadable}
use Rattle.decision.specs.Fits.{Stands}
use Rattle.decision.specs.Next.{stuck_number, numbered, FindsNext}

-- a reason has its own number
one_reason : (a b : Stuck) → stuck_number a ≡ stuck_number b → a ≡ b
one_reason NoStart NoStart e = refl
one_reason NoStart Unreadable e = absurd (omega arith)
one_reason Unreadable NoStart e = absurd (omega arith)
one_reason Unreadable Unreadable e = refl

one_numbered : (r s : Result Found Stuck) → numbered r ≡ numbered s → r ≡ s
one_numbered (Ok f) (Ok g) e = cc
one_numbered (Ok f) (Err b) e = cc
one_numbered (Err a) (Ok g) e = cc
one_numbered (Err a) (Err b) e = let same : stuck_number a ≡ stuck_number b = cc in ap Err (one_reason a b same)

-- two answers that meet it are equal, as some set fits
pub one_answer : (bytes : List ℕ) (kept : Kept) (at : Standing) (front : Front) (ts : Set) → Stands ts kept at front → (r s : Result Found Stuck) →
    FindsNext bytes kept at front r → FindsNext bytes kept at front s → r ≡ s
one_answer bytes kept at front ts stands r s a b = one_numbered r s (a ts stands ∙ sym (b ts stands))
