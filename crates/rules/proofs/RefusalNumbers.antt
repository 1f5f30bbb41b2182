-- The numbers that may be refused with: judging a set gives 5 to 9, checking a timetable image gives 1 to 16, checking a table image 1 to 10 and
-- 17 to 19. Assumes nothing.
use mathlib.Core.Path.{◌≡◌, refl}
use mathlib.Core.Logic.{◌⊎◌, inl, inr}
use mathlib.Core.Bool.{Bool, true}
use mathlib.Core.List.{List, [], ◌∷◌, ◌++◌, Memᴰ}
use mathlib.Core.Option.{some}
use Prim.Native.Nat.{ℕ, ◌+◌, ◌≤◌}
use native.Mathlib.Omega.{arith}
use lib.Dec.{leb}
use lib.ListN.{length}
use borrow.Author.Tests.{leb-true}
use Rattle.rules.specs.declared.Entry.{Entry}
use Rattle.rules.specs.declared.TaskSet.{TaskSet}
use Rattle.rules.specs.declared.Refusal.{Refusal}
use Rattle.rules.specs.declared.Located.{Located}
use Rattle.std.specs.Prelude.{Err}
use Rattle.rules.specs.Refusals.{refuses, in_turn}
use Rattle.rules.specs.Tasks.{Set, both, hyperperiod, task_tests, set_tests, memory_fault, memory_set}
use Rattle.rules.specs.Setting.{Tables}
use Rattle.rules.specs.Order.{entry_tests, missing_tests, timetable_tests, idle_tests, inversion_tests, record_tests, RefusesTables}
use Rattle.rules.specs.Framing.{start_place, frame, RefusesFraming}
use Rattle.rules.specs.Located.{names_record}
use Rattle.rules.specs.Operations.{check_timetable, check_tables}
use Rattle.rules.specs.Promised.{RefusesTimetableImage, RefusesTableImage}
use Rattle.rules.specs.Image.{head_count}
use Rattle.rules.proofs.Cases.{both_true}
use Rattle.rules.proofs.FirstTests.{EachRefusal, each_of_both, each_in_turn, first_has}
use Rattle.rules.proofs.GoodSets.{memory_order}
use Rattle.rules.proofs.FramingOrder.{framing_order, framing_numbers}
use Rattle.rules.proofs.ImageOrder.{timetable_refusals, table_refusals}

-- a property of a refusal's number
abbrev Number : (ℕ → Type 0) → Refusal → Type 0
Number P r = P r.number

-- a number from one to another
abbrev From_to : ℕ → ℕ → ℕ → Type 0
From_to lo hi n = (lo ≤ n) × (n ≤ hi)

-- by its test
from_to : (lo hi n : ℕ) → both (leb lo n) (leb n hi) ≡ true → From_to lo hi n
from_to lo hi n e = let a = both_true (leb lo n) (leb n hi) e in (leb-true lo n a.0, leb-true n hi a.1)

-- all numbers of a list pass a test
abbrev each_passes : (ℕ → Bool) → List ℕ → Bool
each_passes test [] = true
each_passes test (m ∷ ms) = both (test m) (each_passes test ms)

-- and so does each of them
listed_passes : (test : ℕ → Bool) {n : ℕ} (ms : List ℕ) → each_passes test ms ≡ true → Memᴰ n ms → test n ≡ true
listed_passes test {n = n} [] e l = elim l [ ]
listed_passes test (m ∷ ms) e (Memᴰ.head q) = rw q (both_true (test m) _ e).0
listed_passes test (m ∷ ms) e (Memᴰ.tail l) = listed_passes test ms (both_true (test m) _ e).1 l

-- so does the number of framing's refusal, where each of framing's numbers does
framing_passes : (test : ℕ → Bool) → each_passes test (1 ∷ 2 ∷ 3 ∷ 4 ∷ 5 ∷ 10 ∷ []) ≡ true → (kind : ℕ) (bytes : List ℕ) (r : Refusal) →
    frame kind bytes ≡ refuses r → test r.number ≡ true
framing_passes test e kind bytes r q = listed_passes test _ e (framing_numbers kind bytes r q)

-- the place of framing's refusal is a record
pub framing_names : (kind : ℕ) (bytes : List ℕ) (r : Refusal) → frame kind bytes ≡ refuses r → names_record r.number ≡ true
framing_names = framing_passes names_record refl

-- framing refuses with numbers from 1 to 10
framing_low : {kind : ℕ} {bytes : List ℕ} {r : Refusal} → RefusesFraming kind start_place bytes r → From_to 1 10 r.number
framing_low {kind} {bytes} {r} q =
    from_to 1 10 r.number (framing_passes (λ (n : ℕ). both (leb 1 n) (leb n 10)) refl kind bytes r ((framing_order kind bytes r).1 q))

-- the tests of a set have numbers from 5 to 9, and every property that these have
set_numbered : (P : ℕ → Type 0) → ((n : ℕ) → From_to 5 9 n → P n) → (ts : Set) → EachRefusal (Number P) (set_tests ts)
set_numbered P low ts =
    let each : (n : ℕ) → both (leb 5 n) (leb n 9) ≡ true → P n = λ n e. low n (from_to 5 9 n e) in (
      each 5 refl,
      each_of_both (Number P) (in_turn (task_tests ts) 0 (length ts.tasks)) _
          (each_in_turn (Number P) (task_tests ts) 0 (length ts.tasks) (λ i lo hi. (each 6 refl, (each 7 refl, tt)))) (each 8 refl, (each 9 refl, tt)),
    )

-- all tests of a set and its timetable have numbers from 1 to 16
timetable_numbered : (ts : Set) (h : ℕ) (τ : List Entry) → EachRefusal (Number (From_to 1 16)) (set_tests ts ++ timetable_tests ts h τ)
timetable_numbered ts h τ =
    let each : (n : ℕ) → both (leb 1 n) (leb n 16) ≡ true → From_to 1 16 n = from_to 1 16 in
    each_of_both (Number (From_to 1 16)) (set_tests ts) _ (set_numbered (From_to 1 16) (λ n l. (omega (arith, l.0), omega (arith, l.1))) ts)
    (each_of_both (Number (From_to 1 16)) (in_turn (entry_tests ts h τ) 0 (length τ)) _
    (each_in_turn (Number (From_to 1 16)) (entry_tests ts h τ) 0 (length τ) (λ j lo hi. (each 11 refl, (each 12 refl, (each 13 refl, (each 14 refl, (each 15 refl, tt)))))))
    (each_in_turn (Number (From_to 1 16)) (missing_tests ts h τ) 0 (length ts.tasks) (λ i lo hi. (each 16 refl, tt))))

-- the numbers of tables: 1 to 10 and 17 to 19
abbrev TableNumber : ℕ → Type 0
TableNumber n = From_to 1 10 n ⊎ From_to 17 19 n

-- all tests of a set and its records have them
records_numbered : (ts : Set) (h : ℕ) (X : Tables) → EachRefusal (Number TableNumber) (set_tests ts ++ record_tests ts h X)
records_numbered ts h X =
    let n : ℕ = length X.idles in
    each_of_both (Number TableNumber) (set_tests ts) _ (set_numbered TableNumber (λ n l. inl (omega (arith, l.0), omega (arith, l.1))) ts)
    (each_of_both (Number TableNumber) (in_turn (idle_tests (head_count ts) h X.idles) 0 n) _
    (each_in_turn (Number TableNumber) (idle_tests (head_count ts) h X.idles) 0 n (λ j lo hi. (inr (from_to 17 19 17 refl), tt)))
    (each_in_turn (Number TableNumber) (inversion_tests ts h (head_count ts + n) X.inversions) 0 (length X.inversions) (λ j lo hi. (inr (from_to 17 19 17 refl), tt))))

-- what refuses tables has one of these numbers
tables_number : {ts : Set} {X : Tables} {r : Refusal} → RefusesTables ts X r → TableNumber r.number
tables_number {ts} {X} {r} (RefusesTables.by_a_test f) = first_has (Number TableNumber) f (records_numbered ts (hyperperiod ts) X) r refl
tables_number (RefusesTables.late_job f late) = inr (from_to 17 19 18 refl)
tables_number (RefusesTables.difference f q differ) = inr (from_to 17 19 19 refl)

-- what refuses a timetable image has a number from 1 to 16
timetable_image_number : {bytes : List ℕ} {r : Refusal} → RefusesTimetableImage bytes r → From_to 1 16 r.number
timetable_image_number (RefusesTimetableImage.by_framing q) = let l = framing_low q in (l.0, omega (arith, l.1))
timetable_image_number {r = r} (RefusesTimetableImage.by_a_test {i = i} q f) =
    first_has (Number (From_to 1 16)) f (timetable_numbered i.set (hyperperiod i.set) i.entries) r refl

-- what refuses a table image has a number from 1 to 10 or 17 to 19
table_image_number : {bytes : List ℕ} {r : Refusal} → RefusesTableImage bytes r → TableNumber r.number
table_image_number (RefusesTableImage.by_framing q) = inl (framing_low q)
table_image_number (RefusesTableImage.by_its_tables q f) = tables_number f

-- judging a set refuses with 5 to 9
pub set_numbers : (s : TaskSet) (r : Refusal) → memory_fault s ≡ some r → (5 ≤ r.number) × (r.number ≤ 9)
set_numbers s r e =
    first_has (Number (From_to 5 9)) (memory_order s) (from_to 5 9 5 refl, set_numbered (From_to 5 9) (λ n l. l) (memory_set s)) r e

module _ (bytes : List ℕ) (r : Located) where
  -- checking a timetable image refuses with 1 to 16
  pub timetable_numbers : check_timetable bytes ≡ Err r → (1 ≤ r.number) × (r.number ≤ 16)
  timetable_numbers e = timetable_image_number (timetable_refusals bytes r e)

  -- checking a table image refuses with 1 to 10 or 17 to 19
  pub table_numbers : check_tables bytes ≡ Err r → ((1 ≤ r.number) × (r.number ≤ 10)) ⊎ ((17 ≤ r.number) × (r.number ≤ 19))
  table_numbers e = table_image_number (table_refusals bytes r e)
