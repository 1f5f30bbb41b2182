-- Laws of fragments: when one is joined to what an intake holds, and what stands at the front of a buffer that holds it. Assumes nothing.
use mathlib.Core.Path.{◌≡◌, sym, ◌∙◌, ap, subst}
use mathlib.Core.List.{List, ◌++◌}
use Prim.Native.Nat.{ℕ, ◌+◌, ◌≤◌, ◌<◌}
use native.Mathlib.Omega.{arith}
use lib.Dec.{leb}
use lib.ListN.{length, take, drop, length-append}
use lib.Seq.{take-append_seam, length-take-le, length_front}
use borrow.Author.Tests.{leb-true, leb-false, le-leb, lt-leb}
use Rattle.rules.specs.declared.Refusal.{Refusal}
use Rattle.rules.specs.declared.Intake.{Intake}
use Rattle.rules.specs.declared.Intake.TheVariants.{Shut, Open}
use Rattle.rules.specs.Refusals.{Judged, gives, refuses, refusal}
use Rattle.rules.specs.Operations.{into}
use Rattle.rules.specs.Intake.{within, held, join, joined}
use Rattle.rules.proofs.Cases.{by_bool, by_le, clash, gives_in}

-- an open intake before a buffer: open where its count is inside, shut where it is above the length
pub within_inside : (count room : ℕ) → count ≤ room → within (Open count) room ≡ Open count
within_inside count room l = rw (le-leb count room l)

pub within_above : (count room : ℕ) → room < count → within (Open count) room ≡ Shut
within_above count room l = rw (lt-leb count room l)

-- what fits goes into a buffer, what does not is 20
pub into_fits : (room : ℕ) (bytes : List ℕ) → length bytes ≤ room → into room bytes ≡ gives bytes
into_fits room bytes l = rw (le-leb (length bytes) room l)

pub into_not : (room : ℕ) (bytes : List ℕ) → room < length bytes → into room bytes ≡ refuses (refusal 20 0)
into_not room bytes l = rw (lt-leb (length bytes) room l)

-- the front of a buffer with a fragment behind it
pub joined_length : (count : ℕ) (buffer fragment : List ℕ) → count ≤ length buffer → length (take count buffer ++ fragment) ≡ count + length fragment
joined_length count buffer fragment l =
    length-append (take count buffer) fragment ∙ ap (λ (n : ℕ). n + length fragment) (length-take-le count buffer l)

-- every refusal to join is 20
pub joined_refused : (k : Intake) (buffer fragment : List ℕ) (r : Refusal) → joined k buffer fragment ≡ refuses r → r ≡ refusal 20 0
joined_refused Shut buffer fragment r e = cc
joined_refused (Open count) buffer fragment r e =
    by_le count (length buffer)
    (λ l.
    let into-it : into (length buffer) (take count buffer ++ fragment) ≡ refuses r = rw (le-leb count (length buffer) l) at e in
    by_le (length (take count buffer ++ fragment)) (length buffer)
    (λ m. let no = sym (into_fits (length buffer) (take count buffer ++ fragment) m) ∙ into-it in clash (cc))
    (λ m. let is = sym (into_not (length buffer) (take count buffer ++ fragment) m) ∙ into-it in cc))
    (λ l. let is : ◌≡◌ {A = Judged (List ℕ)} (refuses (refusal 20 0)) (refuses r) = rw (lt-leb count (length buffer) l) at e in cc)

-- what is put at the front of a buffer, with all bytes behind it kept, is what an intake with that count holds
pub front_held : (bytes rest : List ℕ) → held (Open (length bytes)) (bytes ++ rest) ≡ gives bytes
front_held bytes rest = rw (le-leb (length bytes) (length (bytes ++ rest)) (omega (arith, length-append bytes rest)), take-append_seam)

-- what an intake holds stands at the front
pub held_front : (bytes buffer : List ℕ) → held (Open (length bytes)) buffer ≡ gives bytes → take (length bytes) buffer ≡ bytes
held_front bytes buffer e =
    by_le (length bytes) (length buffer)
    (λ l. gives_in (take (length bytes) buffer) bytes (rw (within_inside (length bytes) (length buffer) l) at e))
    (λ l. let no : refuses (refusal 20 0) ≡ gives bytes = rw (within_above (length bytes) (length buffer) l) at e in clash (cc))

-- and the buffer is as long as it was
pub front_length : (bytes buffer : List ℕ) → length bytes ≤ length buffer → length (bytes ++ drop (length bytes) buffer) ≡ length buffer
front_length bytes buffer l = length_front buffer bytes (length bytes) (sym (length-take-le (length bytes) buffer l))

-- bytes are joined only where they fit
pub join_inside : (room : ℕ) (fragment : List ℕ) (so_far : Judged (List ℕ)) (bytes : List ℕ) → join room fragment so_far ≡ gives bytes → length bytes ≤ room
join_inside room fragment (refuses r) bytes e = clash (cc)
join_inside room fragment (gives before) bytes e =
    by_bool (leb (length (before ++ fragment)) room)
    (λ t.
    let given : gives (before ++ fragment) ≡ gives bytes = sym (into_fits room (before ++ fragment) (leb-true _ _ t)) ∙ e in
    subst (λ (xs : List ℕ). length xs ≤ room) (gives_in (before ++ fragment) bytes given) (leb-true _ _ t))
    (λ f. let no : refuses (refusal 20 0) ≡ gives bytes = sym (into_not room (before ++ fragment) (leb-false _ _ f)) ∙ e in clash (cc))
