-- Logs of calls on an intake, as a C program makes them: `hv_intake_begin`, fragments and closing calls in any order, each lent the two numbers as the call
-- before left them, and of the buffer at least the bytes that were taken. Assumes nothing.
use Rattle.std.specs.Prelude.{◌≡◌, List, [], ◌∷◌, ◌++◌, ℕ, length, take}
use Rattle.rules.specs.declared.Refusal.{Refusal}
use Rattle.rules.specs.Refusals.{Judged, gives, refuses, refusal}
use Rattle.rules.specs.Intake.{join}
use Rattle.hervantyu.specs.Lent.{IntakeBegun, FragmentTaken, IntakeClosed, IntakeRebuilt}

-- the bytes of fragments, one after the other
abbrev pub whole : List (List ℕ) → List ℕ
whole [] = []
whole (f ∷ fs) = f ++ whole fs

-- the calls since the intake was begun, or since any call that shut it, whatever they returned: the bytes that were joined, or 20; what the last call left
-- in the two numbers, and in the buffer. Between calls the buffer may be exchanged for another one, of any length, with the joined bytes at its front; that of
-- a shut intake for any other
pub data IntakeLog : Judged (List ℕ) → List ℕ → List ℕ → Type 0 where
  begun : {numbers : List ℕ} (buffer : List ℕ) → IntakeBegun numbers → IntakeLog (gives []) numbers buffer
  took : {so_far : Judged (List ℕ)} {numbers buffer numbers' buffer' : List ℕ} {number : ℕ} → IntakeLog so_far numbers buffer → (fragment : List ℕ) →
      FragmentTaken numbers buffer fragment number numbers' buffer' → IntakeLog (join (length buffer) fragment so_far) numbers' buffer'
  not_taken : {numbers buffer fragment numbers' buffer' : List ℕ} → FragmentTaken numbers buffer fragment 20 numbers' buffer' →
      IntakeLog (refuses (refusal 20 0)) numbers' buffer'
  closed : {numbers buffer location numbers' : List ℕ} {old-length number its_length : ℕ} →
      IntakeClosed numbers buffer old-length number location its_length numbers' → IntakeLog (refuses (refusal 20 0)) numbers' buffer
  rebuilt : {numbers buffer old-output location output numbers' : List ℕ} {old-length number its_length : ℕ} →
      IntakeRebuilt numbers buffer old-output old-length number location its_length output numbers' → IntakeLog (refuses (refusal 20 0)) numbers' buffer
  elsewhere : {bytes numbers buffer : List ℕ} → IntakeLog (gives bytes) numbers buffer → (other : List ℕ) → take (length bytes) other ≡ bytes →
      IntakeLog (gives bytes) numbers other
  shut_elsewhere : {r : Refusal} {numbers buffer : List ℕ} → IntakeLog (refuses r) numbers buffer → (other : List ℕ) → IntakeLog (refuses r) numbers other

-- fragments taken one after the other
pub data Feeds : List (List ℕ) → List ℕ → List ℕ → List ℕ → List ℕ → Type 0 where
  all_fed : {numbers buffer : List ℕ} → Feeds [] numbers buffer numbers buffer
  feeds : {fragment numbers buffer numbers' buffer' numbers'' buffer'' : List ℕ} {fragments : List (List ℕ)} {number : ℕ} →
      FragmentTaken numbers buffer fragment number numbers' buffer' → Feeds fragments numbers' buffer' numbers'' buffer'' →
      Feeds (fragment ∷ fragments) numbers buffer numbers'' buffer''
