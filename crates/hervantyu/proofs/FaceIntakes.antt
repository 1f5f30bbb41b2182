-- What the calls on an intake return and leave, over every result that meets their contracts, of any two numbers and any buffer. Assumes nothing.
use mathlib.Core.Path.{◌≡◌, refl, sym, ◌∙◌, ap, subst}
use mathlib.Core.Logic.{◌↔◌, ◌⊎◌, inl, inr}
use mathlib.Core.List.{List, [], ◌∷◌, ◌++◌, append_assoc}
use Prim.Native.Nat.{ℕ, ◌+◌, ◌≤◌, ◌<◌}
use native.Mathlib.Omega.{arith}
use lib.ListN.{length, get_or, take, drop}
use lib.Seq.{length-take-le}
use borrow.Author.Tests.{eq-eqb, ne_eqb}
use Rattle.rules.specs.declared.Refusal.{Refusal}
use Rattle.rules.specs.declared.Located.{Located}
use Rattle.rules.specs.declared.Intake.{Intake}
use Rattle.rules.specs.declared.Intake.TheVariants.{Shut, Open}
use Rattle.std.specs.Prelude.{Result, Ok, Err, ⊤}
use Rattle.rules.specs.Refusals.{Judged, gives, refuses, refusal, take_tells}
use Rattle.rules.specs.Priority.{slot}
use Rattle.rules.specs.Operations.{check_tables, output_after}
use Rattle.rules.specs.Intake.{held, join, joined, holding, accepted_length, close_held, rebuild_held, rebuild_held_output, intake_from, intake_numbers, Takes}
use Rattle.rules.proofs.Cases.{by_eq, by_le}
use Rattle.rules.proofs.Arrays.{slot_element}
use Rattle.intake.proofs.Fragments.{within_inside, within_above, into_fits, into_not, joined_length}
use Rattle.hervantyu.specs.Lent.{Holds, Fits, TablesChecked, CheckTold, length_or, MakeTold, Written, Rebuilt, Taken, FragmentTaken, IntakeClosed, IntakeRebuilt}
use Rattle.hervantyu.proofs.Returned.{zero_exactly, refused_with}
use Rattle.hervantyu.proofs.FaceImages.{returned_tables, tables_numbers, rebuild_keeps, rebuild_numbers}

-- the refusal of a shut intake
abbrev pub shut : Judged (List ℕ)
shut = refuses (refusal 20 0)

-- an intake's numbers stand for it
pub back : (k : Intake) → intake_from (intake_numbers k) ≡ k
back Shut = refl
back (Open count) = refl

-- two numbers and a buffer, whatever they are
open_from : (numbers : List ℕ) → slot numbers 0 ≡ 1 → intake_from numbers ≡ Open (slot numbers 1)
open_from numbers e = rw (eq-eqb (slot numbers 0) 1 e)

pub open_numbers : (numbers : List ℕ) → get_or numbers 0 0 ≡ 1 → Open (get_or numbers 1 0) ≡ intake_from numbers
open_numbers numbers e = sym (open_from numbers (slot_element numbers 0 ∙ e) ∙ ap Open (slot_element numbers 1))

pub shut_numbers : (numbers : List ℕ) → (get_or numbers 0 0 ≡ 1 → ⊥) → Shut ≡ intake_from numbers
shut_numbers numbers e = rw (ne_eqb (slot numbers 0) 1 (λ z. e (sym (slot_element numbers 0) ∙ z)))

-- they are open and have room for so many bytes, or not
by_room : {A : Type 0} (numbers : List ℕ) (many room : ℕ) → (slot numbers 0 ≡ 1 → many ≤ room → A) → ((slot numbers 0 ≡ 1 → many ≤ room → ⊥) → A) → A
by_room numbers many room p q =
    by_eq (slot numbers 0) 1 (λ e. by_le many room (λ l. p e l) (λ l. q (λ _ m. absurd (omega (arith, l, m))))) (λ e. q (λ o _. e o))

module _ (numbers buffer : List ℕ) where
  -- they hold the front of the buffer up to the count
  pub holds_front : Holds numbers buffer → held (intake_from numbers) buffer ≡ gives (take (slot numbers 1) buffer)
  holds_front h = rw (open_from numbers h.is_open, within_inside (slot numbers 1) (length buffer) h.inside)

  -- or nothing
  pub holds_nothing : (Holds numbers buffer → ⊥) → held (intake_from numbers) buffer ≡ shut
  holds_nothing not =
      by_eq (slot numbers 0) 1
      (λ e.
      by_le (slot numbers 1) (length buffer)
      (λ l. absurd (not (record { is_open = e; inside = l })))
      (λ l. rw (open_from numbers e, within_above (slot numbers 1) (length buffer) l)))
      (λ e. rw (ne_eqb (slot numbers 0) 1 e))

  pub by_holds : {A : Type 0} → (Holds numbers buffer → A) → ((Holds numbers buffer → ⊥) → A) → A
  by_holds p q =
      by_room numbers (slot numbers 1) (length buffer) (λ e l. p (record { is_open = e; inside = l })) (λ no_room. q (λ h. no_room h.is_open h.inside))

-- a fragment taken by the intake that two numbers are, and told of the intake afterwards
pub taken_so : {numbers buffer fragment numbers' buffer' : List ℕ} {number : ℕ} {k after : Intake} → k ≡ intake_from numbers →
    Takes k buffer fragment after buffer' → numbers' ≡ intake_numbers after → number ≡ (take_tells after).number →
    FragmentTaken numbers buffer fragment number numbers' buffer'
taken_so {buffer = buffer} {fragment = fragment} is t n r =
    let same = t.answer ∙ ap (λ (k : Intake). holding (joined k buffer fragment)) is in
    record {
      taken = record {
        its_number = r ∙ ap (λ (k : Intake). (take_tells k).number) same;
        its_numbers = n ∙ ap intake_numbers same;
        its_buffer = t.output ∙ ap (λ (k : Intake). output_after (joined k buffer fragment) buffer) is;
      };
    }

-- what taking a fragment leaves, by what it comes to
module _ {old-buffer numbers buffer : List ℕ} {r : ℕ} where
  taken_as : {after other : Judged (List ℕ)} → after ≡ other → Taken after old-buffer r numbers buffer → Taken other old-buffer r numbers buffer
  taken_as e t = subst (λ (z : Judged (List ℕ)). Taken z old-buffer r numbers buffer) e t

  pub taken_fits : {bytes : List ℕ} → Taken (gives bytes) old-buffer r numbers buffer →
      (r ≡ 0) × (numbers ≡ 1 ∷ length bytes ∷ []) × (buffer ≡ bytes ++ drop (length bytes) old-buffer)
  taken_fits t = (t.its_number, t.its_numbers, t.its_buffer)

  pub taken_not : {q : Refusal} → Taken (refuses q) old-buffer r numbers buffer → (r ≡ 20) × (numbers ≡ 0 ∷ 0 ∷ []) × (buffer ≡ old-buffer)
  taken_not t = (t.its_number, t.its_numbers, t.its_buffer)

-- a fragment on what is held
module _ {numbers buffer fragment numbers' buffer' : List ℕ} {r : ℕ} (taken : FragmentTaken numbers buffer fragment r numbers' buffer') where
  pub on_held : {z : Judged (List ℕ)} → held (intake_from numbers) buffer ≡ z → Taken (join (length buffer) fragment z) buffer r numbers' buffer'
  on_held e = taken_as (ap (join (length buffer) fragment) e) taken.taken

  -- behind bytes that are held it is joined to them, or does not fit
  pub joins : {bytes : List ℕ} → held (intake_from numbers) buffer ≡ gives bytes → length (bytes ++ fragment) ≤ length buffer →
      (r ≡ 0) × (numbers' ≡ 1 ∷ length (bytes ++ fragment) ∷ []) × (buffer' ≡ (bytes ++ fragment) ++ drop (length (bytes ++ fragment)) buffer)
  joins {bytes} e l = taken_fits (taken_as (into_fits (length buffer) (bytes ++ fragment) l) (on_held e))

  pub overflows : {bytes : List ℕ} → held (intake_from numbers) buffer ≡ gives bytes → length buffer < length (bytes ++ fragment) →
      (r ≡ 20) × (numbers' ≡ 0 ∷ 0 ∷ []) × (buffer' ≡ buffer)
  overflows {bytes} e l = taken_not (taken_as (into_not (length buffer) (bytes ++ fragment) l) (on_held e))

  -- where nothing is held it is refused
  pub refused_shut : held (intake_from numbers) buffer ≡ shut → (r ≡ 20) × (numbers' ≡ 0 ∷ 0 ∷ []) × (buffer' ≡ buffer)
  refused_shut e = taken_not (on_held e)

  -- it fits behind the count, and then it stands there and all other bytes are kept; or it is refused
  pub fits_behind : Fits numbers buffer fragment →
      (r ≡ 0)
      × (numbers' ≡ 1 ∷ (slot numbers 1 + length fragment) ∷ [])
      × (buffer' ≡ take (slot numbers 1) buffer ++ (fragment ++ drop (slot numbers 1 + length fragment) buffer))
  fits_behind f =
      let h : Holds numbers buffer = record { is_open = f.is_open; inside = omega (arith, f.room) } in
      let long = joined_length (slot numbers 1) buffer fragment h.inside in
      let (zero, counted, put) = joins (holds_front numbers buffer h) (omega (arith, f.room, long)) in (
        zero,
        counted ∙ ap (λ (n : ℕ). 1 ∷ n ∷ []) long,
        put
            ∙ append_assoc (take (slot numbers 1) buffer) fragment (drop (length (take (slot numbers 1) buffer ++ fragment)) buffer)
            ∙ ap (λ (n : ℕ). take (slot numbers 1) buffer ++ (fragment ++ drop n buffer)) long,
      )

  pub does_not_fit : (Fits numbers buffer fragment → ⊥) → (r ≡ 20) × (numbers' ≡ 0 ∷ 0 ∷ []) × (buffer' ≡ buffer)
  does_not_fit not =
      by_holds numbers buffer
      (λ h.
      overflows (holds_front numbers buffer h)
      (by_le (slot numbers 1 + length fragment) (length buffer)
      (λ l. absurd (not (record { is_open = h.is_open; room = l })))
      (λ l. omega (arith, l, joined_length (slot numbers 1) buffer fragment h.inside))))
      (λ none. refused_shut (holds_nothing numbers buffer none))

  pub by_fit : {A : Type 0} → (Fits numbers buffer fragment → A) → ((Fits numbers buffer fragment → ⊥) → A) → A
  by_fit p q =
      by_room numbers (slot numbers 1 + length fragment) (length buffer)
      (λ e l. p (record { is_open = e; room = l }))
      (λ no_room. q (λ f. no_room f.is_open f.room))

  -- so 0 is returned exactly where it fits, else 20
  pub take_zero : (r ≡ 0) ↔ Fits numbers buffer fragment
  take_zero = (λ z. by_fit (λ f. f) (λ not. absurd (omega (arith, z, (does_not_fit not).0))), λ f. (fits_behind f).0)

  pub take_numbers : (r ≡ 0) ⊎ (r ≡ 20)
  take_numbers = by_fit (λ f. inl (fits_behind f).0) (λ not. inr (does_not_fit not).0)

  pub take_leaves : 1 ≤ r → (numbers' ≡ 0 ∷ 0 ∷ []) × (buffer' ≡ buffer)
  take_leaves refused = let done = does_not_fit (λ f. absurd (omega (arith, refused, (fits_behind f).0))) in (done.1, done.2)

  -- the intake and the buffer afterwards, as the rule book has them
  pub takes : Takes (intake_from numbers) buffer fragment (intake_from numbers') buffer'
  takes = record { answer = ap intake_from taken.taken.its_numbers ∙ back (holding (joined (intake_from numbers) buffer fragment)); output = taken.taken.its_buffer }

-- what closing tells of an answer of checking: the number and the location are those, and the length is that of the image
checked_told : (a : Result ⊤ Located) (n : ℕ) {old-length r l : ℕ} {w : List ℕ} → MakeTold (accepted_length n a) old-length r w l → CheckTold a r w
checked_told (Ok tt) n t = record { its_number = t.answered.its_number; its_location = t.answered.its_location }
checked_told (Err q) n t = record { its_number = t.answered.its_number; its_location = t.answered.its_location }

accepted_told : {a : Result ⊤ Located} (n : ℕ) {old-length r l : ℕ} {w : List ℕ} → a ≡ Ok tt → MakeTold (accepted_length n a) old-length r w l → l ≡ n
accepted_told n {old-length = old} e t = t.its_length ∙ ap (λ (x : Result ⊤ Located). length_or (accepted_length n x) old) e

refused_told : {a : Result ⊤ Located} (n : ℕ) {old-length r l : ℕ} {w : List ℕ} {q : Located} → a ≡ Err q → MakeTold (accepted_length n a) old-length r w l →
    l ≡ old-length
refused_told n {old-length = old} e t = t.its_length ∙ ap (λ (x : Result ⊤ Located). length_or (accepted_length n x) old) e

-- `hv_intake_close`
module _ {numbers buffer w numbers' : List ℕ} {old-length r l : ℕ} (closing : IntakeClosed numbers buffer old-length r w l numbers') where
  closes_as : {z : Judged (List ℕ)} → held (intake_from numbers) buffer ≡ z → MakeTold (close_held z) old-length r w l
  closes_as e = subst (λ (z : Judged (List ℕ)). MakeTold (close_held z) old-length r w l) e closing.told

  -- of bytes that are held it returns and leaves what `hv_check_tables` does of them, and their number as the length where they are accepted
  pub closes : {bytes : List ℕ} → held (intake_from numbers) buffer ≡ gives bytes →
      TablesChecked bytes r w × (r ≡ 0 → l ≡ length bytes) × (1 ≤ r → l ≡ old-length)
  closes {bytes} e =
      let told = closes_as e in
      let checked = checked_told (check_tables bytes) (length bytes) told in
      let returned = returned_tables bytes checked in
      (checked, λ z. accepted_told (length bytes) ((zero_exactly returned).0 z) told, λ some. refused_told (length bytes) (refused_with returned some) told)

  -- where nothing is held it is 20
  pub closes_shut : held (intake_from numbers) buffer ≡ shut → (r ≡ 20) × (w ≡ 0 ∷ 0 ∷ []) × (l ≡ old-length)
  closes_shut e = let told = closes_as e in (told.answered.its_number, told.answered.its_location, told.its_length)

  -- so of any two numbers and any buffer
  pub close_checks : Holds numbers buffer → TablesChecked (take (slot numbers 1) buffer) r w
  close_checks h = (closes (holds_front numbers buffer h)).0

  pub close_nothing : (Holds numbers buffer → ⊥) → (r ≡ 20) × (w ≡ 0 ∷ 0 ∷ [])
  close_nothing not = let done = closes_shut (holds_nothing numbers buffer not) in (done.0, done.1)

  pub close_length : r ≡ 0 → l ≡ slot numbers 1
  close_length z =
      by_holds numbers buffer
      (λ h. (closes (holds_front numbers buffer h)).1 z ∙ length-take-le (slot numbers 1) buffer h.inside)
      (λ not. absurd (omega (arith, z, (close_nothing not).0)))

  pub close_keeps : 1 ≤ r → l ≡ old-length
  close_keeps refused =
      by_holds numbers buffer (λ h. (closes (holds_front numbers buffer h)).2 refused) (λ not. (closes_shut (holds_nothing numbers buffer not)).2)

  -- the numbers are 0 to 10 and 17 to 20
  pub close_numbers : (r ≤ 10) ⊎ ((17 ≤ r) × (r ≤ 20))
  close_numbers =
      by_holds numbers buffer
      (λ h.
      elim (tables_numbers (take (slot numbers 1) buffer) (close_checks h)) [
        | inl n ↦ inl n
        | inr n ↦ inr (n.0, omega (arith, n.1))
      ])
      (λ not. let is = (close_nothing not).0 in inr (omega (arith, is), omega (arith, is)))

-- `hv_intake_rebuild`
module _ {numbers buffer old w out numbers' : List ℕ} {old-length r l : ℕ} (closing : IntakeRebuilt numbers buffer old old-length r w l out numbers') where
  written_as : {z : Judged (List ℕ)} → held (intake_from numbers) buffer ≡ z → Written (rebuild_held z old) (rebuild_held_output z old) old-length r w l out
  written_as e = subst (λ (z : Judged (List ℕ)). Written (rebuild_held z old) (rebuild_held_output z old) old-length r w l out) e closing.written

  -- of bytes that are held it returns and leaves what `hv_rebuild` does of them
  pub rebuilds : {bytes : List ℕ} → held (intake_from numbers) buffer ≡ gives bytes → Rebuilt bytes old old-length r w l out
  rebuilds e = written_as e

  -- where nothing is held it is 20
  pub rebuilds_shut : held (intake_from numbers) buffer ≡ shut → (r ≡ 20) × (w ≡ 0 ∷ 0 ∷ []) × (l ≡ old-length) × (out ≡ old)
  rebuilds_shut e = let t = written_as e in (t.told.answered.its_number, t.told.answered.its_location, t.told.its_length, t.its_output)

  -- so of any two numbers and any buffer
  pub closing_rebuilds : Holds numbers buffer → Rebuilt (take (slot numbers 1) buffer) old old-length r w l out
  closing_rebuilds h = rebuilds (holds_front numbers buffer h)

  pub closing_nothing : (Holds numbers buffer → ⊥) → (r ≡ 20) × (w ≡ 0 ∷ 0 ∷ [])
  closing_nothing not = let done = rebuilds_shut (holds_nothing numbers buffer not) in (done.0, done.1)

  pub closing_keeps : 1 ≤ r → (l ≡ old-length) × (out ≡ old)
  closing_keeps refused =
      by_holds numbers buffer
      (λ h. rebuild_keeps (take (slot numbers 1) buffer) old (closing_rebuilds h) refused)
      (λ not. let done = rebuilds_shut (holds_nothing numbers buffer not) in (done.2, done.3))

  -- the numbers are 0 to 10 and 17 to 20
  pub closing_numbers : (r ≤ 10) ⊎ ((17 ≤ r) × (r ≤ 20))
  closing_numbers =
      by_holds numbers buffer
      (λ h. rebuild_numbers (take (slot numbers 1) buffer) old (closing_rebuilds h))
      (λ not. let is = (closing_nothing not).0 in inr (omega (arith, is), omega (arith, is)))
