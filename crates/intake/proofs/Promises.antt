-- What whoever collects fragments can rely on, from the contracts alone: one result of each call; the intake holds exactly what was joined, a refusal keeps
-- the buffer; and a closing call answers as of the bytes that are held. Assumes nothing.
use mathlib.Core.Path.{◌≡◌, sym, ◌∙◌, ap}
use mathlib.Core.List.{List, []}
use Prim.Native.Nat.{ℕ}
use lib.ListN.{length, drop}
use Rattle.rules.specs.declared.Intake.{Intake}
use Rattle.rules.specs.declared.Intake.TheVariants.{Shut, Open}
use Rattle.std.specs.Prelude.{Result}
use Rattle.rules.specs.declared.Located.{Located}
use Rattle.rules.specs.Refusals.{Judged, gives, refuses}
use Rattle.rules.specs.Operations.{check_tables, output_after, Rebuilds}
use Rattle.rules.specs.Intake.{begun, held, joined, holding, Takes, accepted_length, close_held, close, rebuild_held, rebuild_held_output, ClosesRebuilding}
use Rattle.rules.proofs.Cases.{by_judged, clash}
use Rattle.intake.proofs.Fragments.{join_inside, joined_refused, front_held, front_length}

-- an intake that was begun holds no bytes, whatever the buffer has
pub begun_holds_none : (k : Intake) → k ≡ begun → (buffer : List ℕ) → held k buffer ≡ gives []
begun_holds_none k e buffer = ap (λ (x : Intake). held x buffer) e ∙ front_held [] buffer

-- the contract of `take` leaves one intake and one buffer
pub one_taking : {k r q : Intake} {buffer fragment left other : List ℕ} → Takes k buffer fragment r left → Takes k buffer fragment q other →
    (r ≡ q) × (left ≡ other)
one_taking met also = (met.answer ∙ sym also.answer, met.output ∙ sym also.output)

module _ {k r : Intake} {buffer fragment left : List ℕ} (met : Takes k buffer fragment r left) where
  -- the intake holds what was joined, and is refused with 20 where nothing was
  pub holds_joined : held r left ≡ joined k buffer fragment
  holds_joined =
      by_judged (joined k buffer fragment)
      (λ bytes e.
      let now-open : r ≡ Open (length bytes) = met.answer ∙ ap holding e in
      let put = met.output ∙ ap (λ (z : Judged (List ℕ)). output_after z buffer) e in
      rw (now-open, put) (front_held bytes (drop (length bytes) buffer) ∙ sym e))
      (λ q e.
      let now-shut : r ≡ Shut = met.answer ∙ ap holding e in
      rw now-shut (sym (e ∙ ap refuses (joined_refused k buffer fragment q e))))

  -- a fragment that is refused changes no byte of the buffer
  pub refused_keeps : r ≡ Shut → left ≡ buffer
  refused_keeps s =
      by_judged (joined k buffer fragment)
      (λ bytes e. let no : Open (length bytes) ≡ Shut = sym (met.answer ∙ ap holding e) ∙ s in clash (cc))
      (λ q e. met.output ∙ ap (λ (z : Judged (List ℕ)). output_after z buffer) e)

  -- the buffer keeps its length
  pub same_length : length left ≡ length buffer
  same_length =
      by_judged (joined k buffer fragment)
      (λ bytes e.
      ap length (met.output ∙ ap (λ (z : Judged (List ℕ)). output_after z buffer) e)
      ∙ front_length bytes buffer (join_inside (length buffer) fragment (held k buffer) bytes e))
      (λ q e. ap length (met.output ∙ ap (λ (z : Judged (List ℕ)). output_after z buffer) e))

-- closing answers as checking tables does of the bytes that are held, with their number
pub closes_held : (k : Intake) (buffer bytes : List ℕ) {r : Result ℕ Located} → r ≡ close k buffer → held k buffer ≡ gives bytes →
    r ≡ accepted_length (length bytes) (check_tables bytes)
closes_held k buffer bytes met e = met ∙ ap close_held e

-- closing with rebuilding answers and writes as rebuilding does of the bytes that are held
pub rebuilds_held : {k : Intake} {buffer bytes old left : List ℕ} {r : Result ℕ Located} → ClosesRebuilding k buffer old r left → held k buffer ≡ gives bytes →
    Rebuilds bytes old r left
rebuilds_held {old = old} met e = record {
  answer = met.answer ∙ ap (λ (z : Judged (List ℕ)). rebuild_held z old) e;
  output = met.output ∙ ap (λ (z : Judged (List ℕ)). rebuild_held_output z old) e;
}
