-- What the four functions on images return and leave, over every result that meets their contracts. Assumes nothing.
use mathlib.Core.Path.{◌≡◌, refl, sym, ◌∙◌, ap}
use mathlib.Core.Logic.{◌↔◌, ◌⊎◌, inl, inr}
use mathlib.Core.List.{List, [], ◌∷◌, ◌++◌}
use Prim.Native.Nat.{ℕ, ◌≤◌}
use native.Mathlib.Omega.{arith}
use lib.ListN.{length, take, drop}
use lib.Seq.{take_at}
use Rattle.fields.specs.Number.{Bytes}
use Rattle.rules.specs.declared.Entry.{Entry}
use Rattle.rules.specs.declared.Refusal.{Refusal}
use Rattle.rules.specs.declared.Located.{Located}
use Rattle.std.specs.Prelude.{Result, Ok, Err}
use Rattle.rules.specs.Tasks.{Set}
use Rattle.rules.specs.Refusals.{gives, refusal}
use Rattle.rules.specs.Priority.{slot}
use Rattle.rules.specs.Located.{located}
use Rattle.rules.specs.Operations.{Timed, read_timetable, check_answer, check_timetable, check_tables, derive, rebuild}
use Rattle.rules.specs.Promised.{TableImage, TheByte, BothImages}
use Rattle.rules.proofs.Cases.{by_le, clash, gives_in}
use Rattle.rules.proofs.Demand2.{derives, rebuilds, derive_made, rebuild_made}
use Rattle.rules.proofs.ImageOrder.{timetable_refused_at, tables_refused_at, derive_refused_at, rebuild_refused_at}
use Rattle.rules.proofs.MakingOrder.{with_its_tables, with_its_timetable, its_table_image}
use Rattle.rules.proofs.Promises as book
use Rattle.hervantyu.specs.Lent.{TimetableChecked, TablesChecked, length_or, Written, Derived, Rebuilt}
use Rattle.hervantyu.proofs.Returned.{Returned, zero_exactly, refused_with, NumberedIn, answer_told, answer_returned, check_returned}

-- `hv_check_timetable`: what is returned says what checking answers
module _ (image : List ℕ) {r : ℕ} {w : List ℕ} (checked : TimetableChecked image r w) where
  pub returned_timetable : Returned (check_timetable image ≡ Ok tt) (λ q. check_timetable image ≡ Err (located image q)) r (slot w 0)
  returned_timetable =
      check_returned image checked
      (λ q e. ((book.timetable_numbers image q e).0, (timetable_refused_at image q e).there))

  -- with 0 in both of the location's numbers where the image is accepted
  pub timetable_nowhere : r ≡ 0 → w ≡ 0 ∷ 0 ∷ []
  timetable_nowhere z = (answer_told checked ((zero_exactly returned_timetable).0 z)).its_location

  -- and the byte that the place names
  pub timetable_byte : Bytes image → TheByte 1 image r (slot w 0) (slot w 1)
  timetable_byte b = rw (checked.its_number, checked.its_location) (book.timetable_byte image b (check_timetable image) refl)

  -- the numbers are 0 to 16
  pub timetable_numbers : r ≤ 16
  timetable_numbers =
      elim returned_timetable.either [
        | inl g ↦ omega (arith, (returned_timetable.given g).0)
        | inr w ↦
            omega (
              arith,
              (book.timetable_numbers image (located image w.0) w.1).1,
              ap (λ (q : Refusal). q.number) (returned_timetable.refused w.0 w.1).1,
            )
      ]

-- `hv_check_tables`
module _ (image : List ℕ) {r : ℕ} {w : List ℕ} (checked : TablesChecked image r w) where
  pub returned_tables : Returned (check_tables image ≡ Ok tt) (λ q. check_tables image ≡ Err (located image q)) r (slot w 0)
  returned_tables = check_returned image checked numbered
    where
      numbered : (q : Located) → check_tables image ≡ Err q → NumberedIn image q
      numbered q e = (elim (book.table_numbers image q e) [ inl n ↦ n.0 | inr n ↦ omega (arith, n.0) ], (tables_refused_at image q e).there)

  -- with 0 in both of the location's numbers where the image is accepted
  pub tables_nowhere : r ≡ 0 → w ≡ 0 ∷ 0 ∷ []
  tables_nowhere z = (answer_told checked ((zero_exactly returned_tables).0 z)).its_location

  -- and the byte that the place names
  pub tables_byte : Bytes image → TheByte 2 image r (slot w 0) (slot w 1)
  tables_byte b = rw (checked.its_number, checked.its_location) (book.tables_byte image b (check_tables image) refl)

  -- the numbers are 0 to 10 and 17 to 19
  pub tables_numbers : (r ≤ 10) ⊎ ((17 ≤ r) × (r ≤ 19))
  tables_numbers =
      elim returned_tables.either [
        | inl g ↦ inl (omega (arith, (returned_tables.given g).0))
        | inr w ↦
            let is = ap (λ (q : Refusal). q.number) (returned_tables.refused w.0 w.1).1 in
            elim (book.table_numbers image (located image w.0) w.1) [
              | inl n ↦ inl (omega (arith, n.1, is))
              | inr n ↦ inr (omega (arith, n.0, is), omega (arith, n.1, is))
            ]
      ]

-- what is written of an answer: its length and the output, or on a refusal what was there
module _ {answer : Result ℕ Located} {after w : List ℕ} {old-length r l : ℕ} {out : List ℕ} (written : Written answer after old-length r w l out) where
  made_left : (n : ℕ) → answer ≡ Ok n → (l ≡ n) × (out ≡ after)
  made_left n e = (written.told.its_length ∙ ap (λ (a : Result ℕ Located). length_or a old-length) e, written.its_output)

  refused_left : (q : Located) → answer ≡ Err q → (l ≡ old-length) × (out ≡ after)
  refused_left q e = (written.told.its_length ∙ ap (λ (a : Result ℕ Located). length_or a old-length) e, written.its_output)

-- a result of some length is not refused
made_not_refused : {answer : Result ℕ Located} {n : ℕ} {q : Located} {A : Type 0} → answer ≡ Ok n → answer ≡ Err q → A
made_not_refused e f = clash (cc)

-- `hv_derive`
module _ (image old : List ℕ) {old-length r l : ℕ} {w out : List ℕ} (derived : Derived image old old-length r w l out) where
  -- a refusal of deriving is one of checking, or 20
  derive_number : (q : Located) → derive image old ≡ Err q → ((1 ≤ q.number) × (q.number ≤ 16)) ⊎ (q.number ≡ 20)
  derive_number q e =
      elim (book.derive_refusals image old q e).0 [
        | inl c ↦ inl (book.timetable_numbers image q c)
        | inr w ↦ inr (ap (λ (x : Located). x.number) w.0)
      ]

  -- what is returned says what deriving answers
  pub returned_derive : Returned ((n : ℕ) × (derive image old ≡ Ok n)) (λ q. derive image old ≡ Err (located image q)) r (slot w 0)
  returned_derive = answer_returned derived.told.answered image numbered
    where
      numbered : (q : Located) → derive image old ≡ Err q → NumberedIn image q
      numbered q e = (elim (derive_number q e) [ inl n ↦ n.0 | inr n ↦ omega (arith, n) ], derive_refused_at image old q e)

  -- with the byte that the place names
  pub derive_byte : Bytes image → TheByte 1 image r (slot w 0) (slot w 1)
  derive_byte b = rw (derived.told.answered.its_number, derived.told.answered.its_location) (book.derive_byte image b old (derive image old) refl)

  -- the numbers are 0 to 16 and 20
  pub derive_numbers : (r ≤ 16) ⊎ (r ≡ 20)
  derive_numbers =
      elim returned_derive.either [
        | inl g ↦ inl (omega (arith, (returned_derive.given g).0))
        | inr w ↦
            let is = ap (λ (q : Refusal). q.number) (returned_derive.refused w.0 w.1).1 in
            elim (derive_number (located image w.0) w.1) [ inl n ↦ inl (omega (arith, n.1, is)) | inr n ↦ inr (is ∙ n) ]
      ]

  -- with room for it the image of the tables is written
  pub derive_fits : {result : List ℕ} → BothImages image result → length result ≤ length old →
      (r ≡ 0) × (w ≡ 0 ∷ 0 ∷ []) × (l ≡ length result) × (out ≡ result ++ drop (length result) old)
  derive_fits {result} both room =
      let made = book.derive_writes image old both room in
      let zero = returned_derive.given (length result, made.0) in
      let left = made_left derived (length result) made.0 in
      (zero.0, (answer_told derived.told.answered made.0).its_location, left.0, left.1 ∙ made.1)

  -- where 0 is returned there is room for it
  pub derive_room : r ≡ 0 → {result : List ℕ} → BothImages image result → length result ≤ length old
  derive_room zero {result} both =
      let made = (zero_exactly returned_derive).0 zero in
      by_le (length result) (length old) (λ l. l)
      (λ short. made_not_refused made.1 ((book.derive_too_long old both.timetable).1 (omega (arith, short, ap length (its_table_image both)))))

  -- 0 is returned exactly where the bytes are a timetable image and there is room for that of its tables
  pub derive_zero : Bytes image → (r ≡ 0) ↔ ((result : List ℕ) × BothImages image result × (length result ≤ length old))
  derive_zero b = (
    λ zero.
        let made = (zero_exactly returned_derive).0 zero in
        let of = derive_made image old made.0 b made.1 in
        let both = with_its_tables of.2 in
        (_, both, derive_room zero both),
    λ w. (derive_fits w.1 w.2).0,
  )

  -- a refusal leaves what the lent length and the output held
  pub derive_keeps : 1 ≤ r → (l ≡ old-length) × (out ≡ old)
  derive_keeps some =
      let e = refused_with returned_derive some in
      let left = refused_left derived (located image (refusal r (slot w 0))) e in
      (left.0, left.1 ∙ (book.derive_refusals image old (located image (refusal r (slot w 0))) e).1)

-- `hv_rebuild`
module _ (image old : List ℕ) {old-length r l : ℕ} {w out : List ℕ} (rebuilt : Rebuilt image old old-length r w l out) where
  -- a refusal of rebuilding is one of checking, or 20
  rebuild_number : (q : Located) → rebuild image old ≡ Err q → ((1 ≤ q.number) × (q.number ≤ 10)) ⊎ ((17 ≤ q.number) × (q.number ≤ 20))
  rebuild_number q e =
      elim (book.rebuild_refusals image old q e).0 [
        | inl c ↦ elim (book.table_numbers image q c) [ inl n ↦ inl n | inr n ↦ inr (n.0, omega (arith, n.1)) ]
        | inr w ↦ let is = ap (λ (x : Located). x.number) w.0 in inr (omega (arith, is), omega (arith, is))
      ]

  -- what is returned says what rebuilding answers
  pub returned_rebuild : Returned ((n : ℕ) × (rebuild image old ≡ Ok n)) (λ q. rebuild image old ≡ Err (located image q)) r (slot w 0)
  returned_rebuild = answer_returned rebuilt.told.answered image numbered
    where
      numbered : (q : Located) → rebuild image old ≡ Err q → NumberedIn image q
      numbered q e = (elim (rebuild_number q e) [ inl n ↦ n.0 | inr n ↦ omega (arith, n.0) ], rebuild_refused_at image old q e)

  -- with the byte that the place names
  pub rebuild_byte : Bytes image → TheByte 2 image r (slot w 0) (slot w 1)
  rebuild_byte b = rw (rebuilt.told.answered.its_number, rebuilt.told.answered.its_location) (book.rebuild_byte image b old (rebuild image old) refl)

  -- the numbers are 0 to 10 and 17 to 20
  pub rebuild_numbers : (r ≤ 10) ⊎ ((17 ≤ r) × (r ≤ 20))
  rebuild_numbers =
      elim returned_rebuild.either [
        | inl g ↦ inl (omega (arith, (returned_rebuild.given g).0))
        | inr w ↦
            let is = ap (λ (q : Refusal). q.number) (returned_rebuild.refused w.0 w.1).1 in
            elim (rebuild_number (located image w.0) w.1) [
              | inl n ↦ inl (omega (arith, n.1, is))
              | inr n ↦ inr (omega (arith, n.0, is), omega (arith, n.1, is))
            ]
      ]

  -- with room for it the image of the timetable is written
  pub rebuild_fits : {result : List ℕ} → BothImages result image → length result ≤ length old →
      (r ≡ 0) × (w ≡ 0 ∷ 0 ∷ []) × (l ≡ length result) × (out ≡ result ++ drop (length result) old)
  rebuild_fits {result} both room =
      let made = book.rebuild_writes image old both room in
      let zero = returned_rebuild.given (length result, made.0) in
      let left = made_left rebuilt (length result) made.0 in
      (zero.0, (answer_told rebuilt.told.answered made.0).its_location, left.0, left.1 ∙ made.1)

  -- where 0 is returned there is room for it
  pub rebuild_room : r ≡ 0 → {result : List ℕ} → BothImages result image → length result ≤ length old
  rebuild_room zero {result} both =
      let made = (zero_exactly returned_rebuild).0 zero in
      by_le (length result) (length old) (λ l. l)
      (λ short. made_not_refused made.1 ((book.rebuild_too_long old both.tables).1 (omega (arith, short, ap length both.timetable.is))))

  -- 0 is returned exactly where the bytes are a table image and there is room for that of its timetable
  pub rebuild_zero : Bytes image → (r ≡ 0) ↔ ((result : List ℕ) × BothImages result image × (length result ≤ length old))
  rebuild_zero b = (
    λ zero.
        let made = (zero_exactly returned_rebuild).0 zero in
        let of = rebuild_made image old made.0 b made.1 in
        let both = with_its_timetable of.2 in
        (_, both, rebuild_room zero both),
    λ w. (rebuild_fits w.1 w.2).0,
  )

  -- a refusal leaves what the lent length and the output held
  pub rebuild_keeps : 1 ≤ r → (l ≡ old-length) × (out ≡ old)
  rebuild_keeps some =
      let e = refused_with returned_rebuild some in
      let left = refused_left rebuilt (located image (refusal r (slot w 0))) e in
      (left.0, left.1 ∙ (book.rebuild_refusals image old (located image (refusal r (slot w 0))) e).1)

-- what was written stands at the front of the output
front_of : (result rest : List ℕ) {out : List ℕ} {l : ℕ} → l ≡ length result → out ≡ result ++ rest → take l out ≡ result
front_of result rest {l = l} long is = ap (take l) is ∙ take_at result rest l (sym long)

-- what `hv_derive` wrote is the image of the tables, what `hv_rebuild` wrote that of the timetable
derived_both : (image old : List ℕ) {old-length l : ℕ} {w out : List ℕ} → Bytes image → Derived image old old-length 0 w l out → BothImages image (take l out)
derived_both image old b derived =
    let (result, both, fits) = (derive_zero image old derived b).0 refl in
    let (zero, place, long, is) = derive_fits image old derived both fits in
    rw (front_of result (drop (length result) old) long is) both

rebuilt_both : (image old : List ℕ) {old-length l : ℕ} {w out : List ℕ} → Bytes image → Rebuilt image old old-length 0 w l out → BothImages (take l out) image
rebuilt_both image old b rebuilt =
    let (result, both, fits) = (rebuild_zero image old rebuilt b).0 refl in
    let (zero, place, long, is) = rebuild_fits image old rebuilt both fits in
    rw (front_of result (drop (length result) old) long is) both

-- so it is accepted
pub derived_accepted : (image old : List ℕ) {old-length l : ℕ} {w out : List ℕ} → Bytes image → Derived image old old-length 0 w l out →
    {r' : ℕ} {w' : List ℕ} → TablesChecked (take l out) r' w' → (r' ≡ 0) × (w' ≡ 0 ∷ 0 ∷ [])
unfolding check_tables
derived_accepted image old {l = l} {out = out} b derived checked =
    let accepted : check_tables (take l out) ≡ Ok tt = ap (check_answer (take l out)) (rebuilds (derived_both image old b derived).tables) in
    (((returned_tables (take l out) checked).given accepted).0, (answer_told checked accepted).its_location)

pub rebuilt_accepted : (image old : List ℕ) {old-length l : ℕ} {w out : List ℕ} → Bytes image → Rebuilt image old old-length 0 w l out →
    {r' : ℕ} {w' : List ℕ} → TimetableChecked (take l out) r' w' → (r' ≡ 0) × (w' ≡ 0 ∷ 0 ∷ [])
unfolding check_timetable
rebuilt_accepted image old {l = l} {out = out} b rebuilt checked =
    let accepted : check_timetable (take l out) ≡ Ok tt = ap (check_answer (take l out)) (derives (rebuilt_both image old b rebuilt).timetable) in
    (((returned_timetable (take l out) checked).given accepted).0, (answer_told checked accepted).its_location)

-- there and back: from what `hv_derive` wrote `hv_rebuild` writes the bytes that `hv_derive` was lent
pub there_and_back : (image old : List ℕ) {old-length l : ℕ} {w out : List ℕ} → Bytes image → Derived image old old-length 0 w l out →
    (other : List ℕ) {other_length r' l' : ℕ} {w' out' : List ℕ} → Rebuilt (take l out) other other_length r' w' l' out' → length image ≤ length other →
    (r' ≡ 0) × (w' ≡ 0 ∷ 0 ∷ []) × (l' ≡ length image) × (out' ≡ image ++ drop (length image) other)
there_and_back image old {l = l} {out = out} b derived other rebuilt room =
    rebuild_fits (take l out) other rebuilt (derived_both image old b derived) room

-- and the other way round
pub back_and_there : (image old : List ℕ) {old-length l : ℕ} {w out : List ℕ} → Bytes image → Rebuilt image old old-length 0 w l out →
    (other : List ℕ) {other_length r' l' : ℕ} {w' out' : List ℕ} → Derived (take l out) other other_length r' w' l' out' → length image ≤ length other →
    (r' ≡ 0) × (w' ≡ 0 ∷ 0 ∷ []) × (l' ≡ length image) × (out' ≡ image ++ drop (length image) other)
back_and_there image old {l = l} {out = out} b rebuilt other derived room =
    derive_fits (take l out) other derived (rebuilt_both image old b rebuilt) room

-- where `hv_rebuild` returned 0, what it wrote is read as a set and a timetable exactly where these are the ones behind the image
pub reads_exactly : (image old : List ℕ) {old-length l : ℕ} {w out : List ℕ} → Bytes image → Rebuilt image old old-length 0 w l out → (ts : Set)
    (τ : List Entry) → (read_timetable (take l out) ≡ gives (record { set = ts; entries = τ })) ↔ TableImage image ts τ
reads_exactly image old {l = l} {out = out} b rebuilt ts τ =
    let both = rebuilt_both image old b rebuilt in
    let ours : Timed = record { set = both.set; entries = both.entries } in
    let theirs : Timed = record { set = ts; entries = τ } in
    let read : read_timetable (take l out) ≡ gives ours = ap read_timetable both.timetable.is ∙ book.rebuilt_reads both.tables in (
      λ e. let same : ours ≡ theirs = gives_in ours theirs (sym read ∙ e) in
          let sets : both.set ≡ ts = ap (λ (i : Timed). i.set) same in
          let entries : both.entries ≡ τ = ap (λ (i : Timed). i.entries) same in
          rw (sets, entries) at both.tables,
      λ t. let one = book.only_one_timetable both.tables t in rw (one.0, one.1) at read,
    )
