-- What an intake holds after any log of calls, over every result that meets their contracts, and fragments, however they are cut. Assumes nothing.
use mathlib.Core.Path.{◌≡◌, refl, sym, ◌∙◌, ap, subst}
use mathlib.Core.List.{List, [], ◌∷◌, ◌++◌, append-nil, append_assoc}
use Prim.Native.Nat.{ℕ, ◌≤◌, ◌<◌}
use native.Mathlib.Omega.{arith}
use lib.ListN.{length, take, drop, length-append, take-append-drop}
use Rattle.rules.specs.declared.Refusal.{Refusal}
use Rattle.rules.specs.declared.Intake.{Intake}
use Rattle.rules.specs.declared.Intake.TheVariants.{Open}
use Rattle.rules.specs.Refusals.{Judged, gives, refuses, take_tells}
use Rattle.rules.specs.Operations.{output_after}
use Rattle.rules.specs.Intake.{held, join, joined, holding, intake_from, intake_numbers}
use Rattle.rules.proofs.Cases.{by_le}
use Rattle.intake.proofs.Fragments.{into_fits, into_not, front_held, held_front}
use Rattle.intake.proofs.Promises.{holds_joined, same_length}
use Rattle.hervantyu.specs.Lent.{IntakeBegun, FragmentTaken}
use Rattle.hervantyu.specs.Feeding.{whole, IntakeLog, begun, took, not_taken, closed, rebuilt, elsewhere, shut_elsewhere, Feeds, all_fed, feeds}
use Rattle.hervantyu.proofs.FaceIntakes.{shut, back, on_held, take_leaves, takes}

-- after any log: the two numbers are those of what was joined, and that is what they hold
pub record Stands (so_far : Judged (List ℕ)) (numbers buffer : List ℕ) : Type 0 where
  pub its_numbers : numbers ≡ intake_numbers (holding so_far)
  pub holds : held (holding so_far) buffer ≡ so_far

stands_held : {so_far : Judged (List ℕ)} {numbers buffer : List ℕ} → Stands so_far numbers buffer → held (intake_from numbers) buffer ≡ so_far
stands_held {so_far} {numbers} {buffer} s =
    ap (λ (k : Intake). held k buffer) (ap intake_from s.its_numbers ∙ back (holding so_far)) ∙ s.holds

pub stands : {so_far : Judged (List ℕ)} {numbers buffer : List ℕ} → IntakeLog so_far numbers buffer → Stands so_far numbers buffer
stands (begun buffer b) = record { its_numbers = b; holds = front_held [] buffer }
stands (took {so_far} {numbers} {buffer} {numbers'} {buffer'} log fragment taken) =
    let before = stands_held (stands log) in
    let as-joined = on_held taken before in
    let holds = ap (λ (k : Intake). held k buffer') (sym (ap intake_from as-joined.its_numbers ∙ back (holding (join (length buffer) fragment so_far)))) in
    record { its_numbers = as-joined.its_numbers; holds = holds ∙ holds_joined (takes taken) ∙ ap (join (length buffer) fragment) before }
stands (not_taken taken) = record { its_numbers = (take_leaves taken (omega arith)).0; holds = refl }
stands (closed c) = record { its_numbers = c.its_numbers; holds = refl }
stands (rebuilt c) = record { its_numbers = c.its_numbers; holds = refl }
stands (elsewhere {bytes} log other front) = record {
  its_numbers = (stands log).its_numbers;
  holds = ap (held (Open (length bytes)))
      (sym (ap (λ (xs : List ℕ). xs ++ drop (length bytes) other) (sym front) ∙ take-append-drop (length bytes) other))
      ∙ front_held bytes (drop (length bytes) other);
}
stands (shut_elsewhere log other) = record { its_numbers = (stands log).its_numbers; holds = (stands log).holds }

pub log_held : {so_far : Judged (List ℕ)} {numbers buffer : List ℕ} → IntakeLog so_far numbers buffer → held (intake_from numbers) buffer ≡ so_far
log_held log = stands_held (stands log)

-- and what a shut one refuses with is 20
pub log_shut : {q : Refusal} {numbers buffer : List ℕ} → IntakeLog (refuses q) numbers buffer → held (intake_from numbers) buffer ≡ shut
log_shut log = log_held log ∙ sym (stands log).holds

-- the bytes that were joined stand at the front of the buffer
pub log_front : {bytes numbers buffer : List ℕ} → IntakeLog (gives bytes) numbers buffer → take (length bytes) buffer ≡ bytes
log_front {bytes} {numbers} {buffer} log = held_front bytes buffer (stands log).holds

-- a log goes on with a fragment that fits, or with one that does not
module _ {bytes numbers buffer fragment numbers' buffer' : List ℕ} {number : ℕ} (log : IntakeLog (gives bytes) numbers buffer)
    (taken : FragmentTaken numbers buffer fragment number numbers' buffer') where
  took_fits : length (bytes ++ fragment) ≤ length buffer → IntakeLog (gives (bytes ++ fragment)) numbers' buffer'
  took_fits l = subst (λ (z : Judged (List ℕ)). IntakeLog z numbers' buffer') (into_fits (length buffer) (bytes ++ fragment) l) (took log fragment taken)

  took_past : length buffer < length (bytes ++ fragment) → IntakeLog shut numbers' buffer'
  took_past l = subst (λ (z : Judged (List ℕ)). IntakeLog z numbers' buffer') (into_not (length buffer) (bytes ++ fragment) l) (took log fragment taken)

-- fragments, however they are cut: together they fit
fed : {fragments : List (List ℕ)} {numbers buffer numbers' buffer' : List ℕ} → Feeds fragments numbers buffer numbers' buffer' → (bytes : List ℕ) →
    length (bytes ++ whole fragments) ≤ length buffer → IntakeLog (gives bytes) numbers buffer → IntakeLog (gives (bytes ++ whole fragments)) numbers' buffer'
fed (all_fed {numbers} {buffer}) bytes l log = subst (λ (xs : List ℕ). IntakeLog (gives xs) numbers buffer) (sym (append-nil bytes)) log
fed (feeds {fragment} {numbers} {buffer} {numbers'} {buffer'} {numbers''} {buffer''} {fragments} taken more) bytes l log =
    let assoc = append_assoc bytes fragment (whole fragments) in
    let room : length ((bytes ++ fragment) ++ whole fragments) ≤ length buffer = rw assoc l in
    let fits : length (bytes ++ fragment) ≤ length buffer = omega (arith, room, length-append (bytes ++ fragment) (whole fragments)) in
    subst (λ (xs : List ℕ). IntakeLog (gives xs) numbers'' buffer'') assoc
    (fed more (bytes ++ fragment) (rw (same_length (takes taken)) room) (took_fits log taken fits))

pub fed_whole : {fragments : List (List ℕ)} {numbers buffer numbers' buffer' : List ℕ} → IntakeBegun numbers → Feeds fragments numbers buffer numbers' buffer' →
    length (whole fragments) ≤ length buffer → IntakeLog (gives (whole fragments)) numbers' buffer'
fed_whole {buffer = buffer} b feeding l = fed feeding [] l (begun buffer b)

-- or they do not, and the first one that does not fit shuts the intake
fed_shut : {fragments : List (List ℕ)} {numbers buffer numbers' buffer' : List ℕ} → Feeds fragments numbers buffer numbers' buffer' →
    IntakeLog shut numbers buffer → IntakeLog shut numbers' buffer'
fed_shut all_fed log = log
fed_shut (feeds {fragment} taken more) log = fed_shut more (took log fragment taken)

fed_past : {fragments : List (List ℕ)} {numbers buffer numbers' buffer' : List ℕ} → Feeds fragments numbers buffer numbers' buffer' → (bytes : List ℕ) →
    length bytes ≤ length buffer → length buffer < length (bytes ++ whole fragments) → IntakeLog (gives bytes) numbers buffer → IntakeLog shut numbers' buffer'
fed_past all_fed bytes l m log = absurd (omega (arith, l, m, ap length (append-nil bytes)))
fed_past (feeds {fragment} {numbers} {buffer} {numbers'} {buffer'} {numbers''} {buffer''} {fragments} taken more) bytes l m log =
    by_le (length (bytes ++ fragment)) (length buffer)
    (λ fits.
    let past : length buffer < length ((bytes ++ fragment) ++ whole fragments) = rw (append_assoc bytes fragment (whole fragments)) m in
    fed_past more (bytes ++ fragment) (rw (same_length (takes taken)) fits) (rw (same_length (takes taken)) past) (took_fits log taken fits))
    (λ past. fed_shut more (took_past log taken past))

pub fed_too_long : {fragments : List (List ℕ)} {numbers buffer numbers' buffer' : List ℕ} → IntakeBegun numbers →
    Feeds fragments numbers buffer numbers' buffer' → length buffer < length (whole fragments) → IntakeLog shut numbers' buffer'
fed_too_long {buffer = buffer} b feeding l = fed_past feeding [] (omega arith) l (begun buffer b)

-- every list of fragments can be fed
pub can_be_fed : (fragments : List (List ℕ)) (numbers buffer : List ℕ) → (numbers' : List ℕ) × (buffer' : List ℕ) × Feeds fragments numbers buffer numbers' buffer'
can_be_fed [] numbers buffer = (numbers, buffer, all_fed)
can_be_fed (fragment ∷ fragments) numbers buffer =
    let after = joined (intake_from numbers) buffer fragment in
    let taken : FragmentTaken numbers buffer fragment (take_tells (holding after)).number (intake_numbers (holding after)) (output_after after buffer) =
    record { taken = record { its_number = refl; its_numbers = refl; its_buffer = refl } } in
    let more = can_be_fed fragments (intake_numbers (holding after)) (output_after after buffer) in
    (more.0, more.1, feeds taken more.2)
