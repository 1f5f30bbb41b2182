-- The order of refusals on images: checking refuses an image exactly as the first of the document's tests does; deriving and rebuilding refuse as checking
-- does, and last with 20, and then leave every byte of the output as it was. Assumes nothing.
use mathlib.Core.Path.{◌≡◌, refl, sym, ◌∙◌, ap}
use mathlib.Core.Logic.{◌↔◌, ◌⊎◌, inl, inr}
use mathlib.Core.Bool.{Bool, true, false}
use mathlib.Core.List.{List, [], ◌++◌}
use mathlib.Core.Option.{Option, none, some}
use Prim.Native.Nat.{ℕ, ◌<◌}
use lib.Dec.{leb}
use lib.ListN.{length}
use borrow.Author.Tests.{leb-false, lt-leb}
use Rattle.rules.specs.declared.Entry.{Entry}
use Rattle.rules.specs.declared.Refusal.{Refusal}
use Rattle.rules.specs.declared.Located.{Located}
use Rattle.std.specs.Prelude.{Ok, Err}
use Rattle.rules.specs.Refusals.{Judged, gives, refuses, refusal, or_else, then, first, unless, First}
use Rattle.rules.specs.Tasks.{Set, hyperperiod, set_fault, set_tests}
use Rattle.rules.specs.Setting.{Tables}
use Rattle.rules.specs.Priority.{setting}
use Rattle.rules.specs.Decision.{replay}
use Rattle.rules.specs.Judging.{timetable_fault, tables, judge_timetable, records_fault, tables_differ, compared, judge_tables}
use Rattle.rules.specs.Order.{timetable_tests, record_tests, RefusesTables}
use Rattle.rules.specs.Framing.{frame}
use Rattle.rules.specs.Image.{timetable_image, table_image, head_count}
use Rattle.rules.specs.Located.{located, bare, RefusedAt}
use Rattle.rules.specs.Operations.{read_timetable, read_tables, derive_from, rebuild_from, derived, rebuilt, check_answer, check_timetable, check_tables, into, derived_image, rebuilt_image, make_answer, output_after, derive, derive_output, rebuild, rebuild_output}
use Rattle.rules.specs.Promised.{TimetableImage, TableImage, RefusesTimetableImage, RefusesTableImage}
use Rattle.rules.proofs.Cases.{clash, first_none}
use Rattle.rules.proofs.Locations.{answer_refuses, refused_answer}
use Rattle.rules.proofs.FirstTests.{one_first}
use Rattle.rules.proofs.LateJobs.{late_refused, refused_late, replays_given, given_replays}
use Rattle.rules.proofs.Differences.{differs_at, difference_found}
use Rattle.rules.proofs.EntryOrder.{judged_timetable_order}
use Rattle.rules.proofs.RecordOrder.{judged_records_order}
use Rattle.rules.proofs.FramingOrder.{framing_order}
use Rattle.rules.proofs.Demand2.{derives_image, rebuilds_image}

-- a refusal comes from what is asked first, or else from what judging goes on to
by-or-else {ℓ} : {A : Type 0} {C : Type ℓ} (o : Option Refusal) (z : Judged A) (r : Refusal) → or_else o z ≡ refuses r → (o ≡ some r → C) →
    (o ≡ none → z ≡ refuses r → C) → C
by-or-else none z r e here later = later refl e
by-or-else (some s) z r e here later = here (cc)

-- a refusal comes from what was judged, or else from what judging went on to with its value
by-then {ℓ} : {A B : Type 0} {C : Type ℓ} (z : Judged A) (next : A → Judged B) (r : Refusal) → then z next ≡ refuses r → (z ≡ refuses r → C) →
    ((a : A) → z ≡ gives a → next a ≡ refuses r → C) → C
by-then (gives a) next r e here later = later a refl e
by-then (refuses s) next r e here later = here (cc)

-- where judging would go on to a value, the refusal comes from what is asked first
refused_first : {A : Type 0} (o : Option Refusal) (a : A) (r : Refusal) → or_else o (gives a) ≡ refuses r → o ≡ some r
refused_first none a r e = clash (cc)
refused_first (some s) a r e = cc

-- where the value is only passed on, the refusal comes from what was judged
refused_before : {A B : Type 0} (z : Judged A) (f : A → B) (r : Refusal) → then z (λ a. gives (f a)) ≡ refuses r → z ≡ refuses r
refused_before (gives a) f r e = clash (cc)
refused_before (refuses s) f r e = cc

-- a timetable is refused exactly as the first of the document's tests refuses it
pub timetable_refused : (ts : Set) (τ : List Entry) (r : Refusal) →
    (judge_timetable ts τ ≡ refuses r) ↔ First (set_tests ts ++ timetable_tests ts (hyperperiod ts) τ) (some r)
timetable_refused ts τ r = (
  λ e. rw (refused_first (first (set_fault ts) (timetable_fault ts τ)) (tables ts τ) r e) at (judged_timetable_order ts τ),
  λ f. rw (one_first (judged_timetable_order ts τ) f),
)

module _ (ts : Set) (X : Tables) where
  -- tables whose records no test refuses are refused by a late job in replay, or else by a difference
  after_records : (r : Refusal) → first (set_fault ts) (records_fault ts (hyperperiod ts) X) ≡ none →
      then (replay (setting ts) [] X) (compared ts X) ≡ refuses r → RefusesTables ts X r
  after_records r n e =
      let a = first_none (set_fault ts) (records_fault ts (hyperperiod ts) X) n in
      let f : First (set_tests ts ++ record_tests ts (hyperperiod ts) X) none = rw n at (judged_records_order ts X) in
      by-then (replay (setting ts) [] X) (compared ts X) r e
      (λ q. let (m, is, late) = refused_late ts X a.0 a.1 r q in rw is (RefusesTables.late_job f late))
      (λ τ q d. let s = refused_first (tables_differ (head_count ts) X (tables ts τ)) τ r d in
      let (m, is, differ) = differs_at (head_count ts) X (tables ts τ) r s in
      rw is (RefusesTables.difference f (given_replays ts X a.0 a.1 τ q) differ))

  -- where no test refuses, the set and the records have no fault
  records_pass : First (set_tests ts ++ record_tests ts (hyperperiod ts) X) none → first (set_fault ts) (records_fault ts (hyperperiod ts) X) ≡ none
  records_pass f = one_first (judged_records_order ts X) f

  -- what refuses tables is what they are judged with
  refuses_judged : {r : Refusal} → RefusesTables ts X r → judge_tables ts X ≡ refuses r
  refuses_judged (RefusesTables.by_a_test f) = rw (one_first (judged_records_order ts X) f)
  refuses_judged (RefusesTables.late_job {m = m} f late) =
      let n = records_pass f in
      let a = first_none (set_fault ts) (records_fault ts (hyperperiod ts) X) n in
      rw (n, late_refused ts X a.0 a.1 m late)
  refuses_judged (RefusesTables.difference {m = m} {τ = τ} f q differ) =
      let n = records_pass f in
      let a = first_none (set_fault ts) (records_fault ts (hyperperiod ts) X) n in
      rw (n, replays_given ts X a.0 a.1 τ q, difference_found (head_count ts) X (tables ts τ) m differ)

  -- tables are refused exactly by a test, then by a late job in replay, then by a difference
  pub tables_refused : (r : Refusal) → (judge_tables ts X ≡ refuses r) ↔ RefusesTables ts X r
  tables_refused r = (
    λ e. by-or-else (first (set_fault ts) (records_fault ts (hyperperiod ts) X)) _ r e
        (λ q. RefusesTables.by_a_test (rw q at (judged_records_order ts X))) (after_records r),
    refuses_judged,
  )

module _ (bytes : List ℕ) (r : Located) where
  -- so with checking of both kinds
  pub timetable_refused_at : check_timetable bytes ≡ Err r → RefusedAt bytes (derived bytes) r
  unfolding check_timetable
  timetable_refused_at e = answer_refuses _ bytes (derived bytes) r e

  pub tables_refused_at : check_tables bytes ≡ Err r → RefusedAt bytes (rebuilt bytes) r
  unfolding check_tables
  tables_refused_at e = answer_refuses _ bytes (rebuilt bytes) r e

module _ (bytes : List ℕ) where
  -- checking a timetable image refuses as the document does
  pub timetable_refusals : (r : Located) → check_timetable bytes ≡ Err r → RefusesTimetableImage bytes (bare r)
  timetable_refusals r e =
      let s = bare r in
      by-then (read_timetable bytes) derive_from s (timetable_refused_at bytes r e).judged
      (λ q. RefusesTimetableImage.by_framing ((framing_order 1 bytes s).0 (refused_before (frame 1 bytes) _ s q)))
      (λ i q d. RefusesTimetableImage.by_a_test q
      ((timetable_refused i.set i.entries s).0 (refused_before (judge_timetable i.set i.entries) _ s d)))

  -- and the other way round
  pub refuses_timetable : {r : Refusal} → RefusesTimetableImage bytes r → check_timetable bytes ≡ Err (located bytes r)
  unfolding check_timetable
  refuses_timetable {r} (RefusesTimetableImage.by_framing q) = rw ((framing_order 1 bytes r).1 q)
  refuses_timetable {r} (RefusesTimetableImage.by_a_test {i = i} q f) = rw (q, (timetable_refused i.set i.entries r).1 f)

  -- checking a table image refuses as the document does
  pub table_refusals : (r : Located) → check_tables bytes ≡ Err r → RefusesTableImage bytes (bare r)
  table_refusals r e =
      let s = bare r in
      by-then (read_tables bytes) rebuild_from s (tables_refused_at bytes r e).judged
      (λ q. RefusesTableImage.by_framing ((framing_order 2 bytes s).0 (refused_before (frame 2 bytes) _ s q)))
      (λ i q d. RefusesTableImage.by_its_tables q
      ((tables_refused i.set i.tables s).0 (refused_before (judge_tables i.set i.tables) _ s d)))

  -- and the other way round
  pub refuses_tables : {r : Refusal} → RefusesTableImage bytes r → check_tables bytes ≡ Err (located bytes r)
  unfolding check_tables
  refuses_tables {r} (RefusesTableImage.by_framing q) = rw ((framing_order 2 bytes r).1 q)
  refuses_tables {r} (RefusesTableImage.by_its_tables {i = i} q f) = rw (q, (tables_refused i.set i.tables r).1 f)

-- a test that fails refuses with its number and its place
unless_refuses : (b : Bool) (number place : ℕ) (r : Refusal) → unless b number place ≡ some r → (b ≡ false) × (r ≡ refusal number place)
unless_refuses true number place r e = clash (cc)
unless_refuses false number place r e = (refl, cc)

-- a result that is refused is longer than the output, and is refused with 20 at place 0
into_refuses : (room : ℕ) (bytes : List ℕ) (r : Refusal) → into room bytes ≡ refuses r → (room < length bytes) × (r ≡ refusal 20 0)
into_refuses room bytes r e =
    let a = unless_refuses (leb (length bytes) room) 20 0 r (refused_first (unless (leb (length bytes) room) 20 0) bytes r e) in
    (leb-false (length bytes) room a.0, a.1)

-- and a longer result is refused
too_long : (room : ℕ) (bytes : List ℕ) → room < length bytes → into room bytes ≡ refuses (refusal 20 0)
too_long room bytes l = rw (lt-leb (length bytes) room l)

-- so the answer is 20 exactly where the result is longer than the output
refused_too_long : (bytes : List ℕ) (room : ℕ) (result : List ℕ) (z : Judged (List ℕ)) → z ≡ into room result →
    (make_answer bytes z ≡ Err (located bytes (refusal 20 0))) ↔ (room < length result)
refused_too_long bytes room result z e = (
  λ q. (into_refuses room result (refusal 20 0) (sym e ∙ (answer_refuses _ bytes z _ q).judged)).0,
  λ l. ap (make_answer bytes) (e ∙ too_long room result l),
)

-- a refusal leaves every byte of the output as it was
refusal_keeps : (bytes : List ℕ) (z : Judged (List ℕ)) (old : List ℕ) (r : Located) → make_answer bytes z ≡ Err r → output_after z old ≡ old
refusal_keeps bytes z old r e = rw (answer_refuses _ bytes z r e).judged

-- an image that is made of what was judged
module _ {A : Type 0} (bytes : List ℕ) (z : Judged A) (room : ℕ) (result : A → List ℕ) (r : Located) where
  -- making it refuses what judging refused, in the same way
  refused_making : RefusedAt bytes z r → make_answer bytes (then z (λ a. into room (result a))) ≡ Err r
  refused_making w =
      ap (λ (y : Judged A). make_answer bytes (then y (λ a. into room (result a)))) w.judged ∙ ap Err (sym w.there)

  -- and otherwise only with 20, last
  making_refuses : make_answer bytes (then z (λ a. into room (result a))) ≡ Err r →
      (check_answer bytes z ≡ Err r) ⊎ ((r ≡ located bytes (refusal 20 0)) × (check_answer bytes z ≡ Ok tt))
  making_refuses e =
      let w = answer_refuses _ bytes (then z (λ a. into room (result a))) r e in
      by-then z (λ a. into room (result a)) (bare r) w.judged (λ q. inl (refused_answer _ (record { judged = q; there = w.there })))
      (λ a q d. inr (w.there ∙ ap (located bytes) (into_refuses room (result a) (bare r) d).1, ap (check_answer bytes) q))

module _ (bytes old : List ℕ) (r : Located) where
  -- so deriving refuses what checking refuses
  pub refused_derive : check_timetable bytes ≡ Err r → derive bytes old ≡ Err r
  unfolding derive
  refused_derive e = refused_making bytes (derived bytes) (length old) (λ i. table_image i.set i.tables) r (timetable_refused_at bytes r e)

  -- and 20
  pub derive_refuses : derive bytes old ≡ Err r →
      (check_timetable bytes ≡ Err r) ⊎ ((r ≡ located bytes (refusal 20 0)) × (check_timetable bytes ≡ Ok tt))
  unfolding check_timetable derive
  derive_refuses = making_refuses bytes (derived bytes) (length old) (λ i. table_image i.set i.tables) r

  -- what it refuses is located
  pub derive_refused_at : derive bytes old ≡ Err r → r ≡ located bytes (bare r)
  unfolding derive
  derive_refused_at e = (answer_refuses _ bytes (derived_image (length old) bytes) r e).there

  -- it then leaves every byte of the output as it was
  pub derive_keeps : derive bytes old ≡ Err r → derive_output bytes old ≡ old
  unfolding derive derive_output
  derive_keeps e = refusal_keeps bytes (derived_image (length old) bytes) old r e

  -- and rebuilding likewise
  pub refused_rebuild : check_tables bytes ≡ Err r → rebuild bytes old ≡ Err r
  unfolding rebuild
  refused_rebuild e = refused_making bytes (rebuilt bytes) (length old) (λ i. timetable_image i.set i.entries) r (tables_refused_at bytes r e)

  pub rebuild_refuses : rebuild bytes old ≡ Err r →
      (check_tables bytes ≡ Err r) ⊎ ((r ≡ located bytes (refusal 20 0)) × (check_tables bytes ≡ Ok tt))
  unfolding check_tables rebuild
  rebuild_refuses = making_refuses bytes (rebuilt bytes) (length old) (λ i. timetable_image i.set i.entries) r

  pub rebuild_refused_at : rebuild bytes old ≡ Err r → r ≡ located bytes (bare r)
  unfolding rebuild
  rebuild_refused_at e = (answer_refuses _ bytes (rebuilt_image (length old) bytes) r e).there

  pub rebuild_keeps : rebuild bytes old ≡ Err r → rebuild_output bytes old ≡ old
  unfolding rebuild rebuild_output
  rebuild_keeps e = refusal_keeps bytes (rebuilt_image (length old) bytes) old r e

module _ {bytes : List ℕ} {ts : Set} {τ : List Entry} (old : List ℕ) where
  -- deriving from an accepted image refuses exactly when the result is longer than the output
  pub derive_too_long : TimetableImage bytes ts τ → (derive bytes old ≡ Err (located bytes (refusal 20 0))) ↔ (length old < length (table_image ts (tables ts τ)))
  unfolding derive
  derive_too_long t = refused_too_long bytes (length old) (table_image ts (tables ts τ)) (derived_image (length old) bytes) (derives_image t (length old))

  -- and so does rebuilding
  pub rebuild_too_long : TableImage bytes ts τ → (rebuild bytes old ≡ Err (located bytes (refusal 20 0))) ↔ (length old < length (timetable_image ts τ))
  unfolding rebuild
  rebuild_too_long t = refused_too_long bytes (length old) (timetable_image ts τ) (rebuilt_image (length old) bytes) (rebuilds_image t (length old))
