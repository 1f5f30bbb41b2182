-- The places of refusals: where the number says that the place is a record, it is one of the image's records, and begins at the byte that is told.
-- Assumes nothing.
use mathlib.Core.Path.{◌≡◌, refl, sym, ◌∙◌, ap}
use mathlib.Core.Logic.{⊎_elim}
use mathlib.Core.Bool.{true, false}
use mathlib.Core.List.{List, ◌++◌, map}
use mathlib.Core.Option.{some}
use Prim.Native.Nat.{ℕ, suc, ◌+◌, ◌≤◌, ◌<◌}
use native.Mathlib.Omega.{arith}
use lib.ListN.{length, take, length-append, length-map}
use lib.Seq.{take_all, length-take-le}
use Rattle.fields.specs.Number.{Bytes}
use Rattle.rules.specs.declared.Entry.{Entry}
use Rattle.rules.specs.declared.Refusal.{Refusal}
use Rattle.rules.specs.declared.Located.{Located}
use Rattle.std.specs.Prelude.{Result, Ok, Err, ⊤}
use Rattle.rules.specs.Refusals.{gives, refuses, in_turn, answer_tells, check_tells, make_tells}
use Rattle.rules.specs.Tasks.{Set, hyperperiod, task_tests, set_tests, set_fault}
use Rattle.rules.specs.Setting.{Tables}
use Rattle.rules.specs.Judging.{tables}
use Rattle.rules.specs.Order.{entry_tests, missing_tests, timetable_tests, idle_tests, inversion_tests, record_tests, items, an_idle, an_inversion, RefusesTables}
use Rattle.rules.specs.Marks.{SL, ID, PV}
use Rattle.rules.specs.Image.{Record, image, records, of_entry, of_idle, of_inversion, head_count, head_records, end_record, timetable_records, table_records}
use Rattle.rules.specs.Framing.{frame}
use Rattle.rules.specs.Located.{names_record, offset_of, bare, refusal_offset, Begins, BeginsIn}
use Rattle.rules.specs.Operations.{Timed, Tabled, read_timetable, read_tables, check_timetable, check_tables, derive, rebuild}
use Rattle.rules.specs.Promised.{RefusesTimetableImage, RefusesTableImage, RecordsOf, of_timetable, of_tables, TheByte}
use Rattle.rules.proofs.Cases.{clash, differ, by_le, then_gives, gives_in}
use Rattle.rules.proofs.FirstTests.{EachRefusal, each_of_both, each_in_turn, first_has}
use Rattle.rules.proofs.GoodSets.{set_order}
use Rattle.rules.proofs.FramingOrder.{framing_order}
use Rattle.rules.proofs.Images.{framed_timetable, framed_tables, records_before}
use Rattle.rules.proofs.ImageOrder.{timetable_refused_at, tables_refused_at, timetable_refusals, table_refusals, derive_refuses, rebuild_refuses}
use Rattle.rules.proofs.RecordOffsets.{framing_begins, image_begins, image_begins_in, records_many, head_many}

-- where the number says that the place is a record, it is one of so many
abbrev Inside : ℕ → Refusal → Type 0
Inside many r = names_record r.number ≡ true → r.place < many

-- of a set
set_inside : (ts : Set) (many : ℕ) → head_count ts ≤ many → EachRefusal (Inside many) (set_tests ts)
set_inside ts many l = (
  λ e. omega arith,
  each_of_both (Inside many) (in_turn (task_tests ts) 0 (length ts.tasks)) _
      (each_in_turn (Inside many) (task_tests ts) 0 (length ts.tasks) (λ i lo hi. (λ e. omega arith, (λ e. omega arith, tt))))
      (λ e. differ (sym e), (λ e. differ (sym e), tt)),
)

-- a refusal of a set is that of TS or of a task's TK; where it names no record its place is 0
pub set_place : (ts : Set) (r : Refusal) → set_fault ts ≡ some r → (r.place ≤ length ts.tasks) × (names_record r.number ≡ false → r.place ≡ 0)
set_place ts r e =
    let P : Refusal → Type 0 = λ q. (q.place ≤ length ts.tasks) × (names_record q.number ≡ false → q.place ≡ 0) in
    first_has P (set_order ts) (
      (omega arith, λ _. refl),
      each_of_both P (in_turn (task_tests ts) 0 (length ts.tasks)) _
          (each_in_turn P (task_tests ts) 0 (length ts.tasks) (λ i lo hi. ((omega arith, λ z. differ z), ((omega arith, λ z. differ z), tt))))
          ((omega arith, λ _. refl), ((omega arith, λ _. refl), tt)),
    )
    r e

-- of entries
entries_inside : (ts : Set) (h : ℕ) (τ : List Entry) (many : ℕ) → head_count ts + length τ ≤ many → EachRefusal (Inside many) (set_tests ts ++ timetable_tests ts h τ)
entries_inside ts h τ many l =
    each_of_both (Inside many) (set_tests ts) _ (set_inside ts many (omega arith))
    (each_of_both (Inside many) (in_turn (entry_tests ts h τ) 0 (length τ)) _
    (each_in_turn (Inside many) (entry_tests ts h τ) 0 (length τ)
    (λ j lo hi. (λ e. omega arith, (λ e. omega arith, (λ e. omega arith, (λ e. omega arith, (λ e. omega arith, tt)))))))
    (each_in_turn (Inside many) (missing_tests ts h τ) 0 (length ts.tasks) (λ i lo hi. (λ e. differ (sym e), tt))))

-- of the records of tables
records_inside : (ts : Set) (h : ℕ) (X : Tables) (many : ℕ) → records_before ts X ≤ many → EachRefusal (Inside many) (set_tests ts ++ record_tests ts h X)
records_inside ts h X many l =
    let n : ℕ = length X.idles in
    each_of_both (Inside many) (set_tests ts) _ (set_inside ts many (omega arith))
    (each_of_both (Inside many) (in_turn (idle_tests (head_count ts) h X.idles) 0 n) _
    (each_in_turn (Inside many) (idle_tests (head_count ts) h X.idles) 0 n (λ j lo hi. (λ e. omega arith, tt)))
    (each_in_turn (Inside many) (inversion_tests ts h (head_count ts + n) X.inversions) 0 (length X.inversions) (λ j lo hi. (λ e. omega arith, tt))))

-- the first difference of two lists comes with the records of the first, or straight behind them
difference_inside : {A : Type 0} (xs ys : List A) (m : ℕ) → take m xs ≡ take m ys → (take (suc m) xs ≡ take (suc m) ys → ⊥) → m ≤ length xs
difference_inside xs ys m before there =
    by_le m (length xs) (λ h. h)
    (λ h. let fewer : length ys ≤ m = by_le (length ys) m (λ k. k) (λ k. absurd (omega (arith, ap length before, length-take-le m ys (omega arith), ap length (take_all m xs (omega arith))))) in
    absurd (there (take_all (suc m) xs (omega arith) ∙ sym (take_all m xs (omega arith)) ∙ before ∙ take_all m ys fewer ∙ sym (take_all (suc m) ys (omega arith)))))

-- of tables
tables_inside : (ts : Set) (X : Tables) {r : Refusal} → RefusesTables ts X r → Inside (suc (records_before ts X)) r
tables_inside ts X {r} (RefusesTables.by_a_test f) =
    first_has (Inside (suc (records_before ts X))) f (records_inside ts (hyperperiod ts) X (suc (records_before ts X)) (omega arith)) r refl
tables_inside ts X (RefusesTables.late_job f late) = λ e. differ (sym e)
tables_inside ts X (RefusesTables.difference {m = m} {τ = τ} f q differs) = λ e.
    omega (
      arith,
      difference_inside (items X) (items (tables ts τ)) m differs.before differs.there,
      length-append (map an_idle X.idles) (map an_inversion X.inversions),
      length-map X.idles an_idle,
      length-map X.inversions an_inversion,
    )

-- how many records there are, with EN
timetable_many : (ts : Set) (τ : List Entry) → length (timetable_records ts τ) ≡ suc (head_count ts + length τ)
timetable_many ts τ =
    let us = map of_entry τ in
    let end = end_record (head_count ts + length τ) in
    omega (arith, length-append (head_records 1 ts) (records SL us ++ end), length-append (records SL us) end, head_many 1 ts, records_many SL us, length-map τ of_entry)

table_many : (ts : Set) (X : Tables) → length (table_records ts X) ≡ suc (records_before ts X)
table_many ts X =
    let us = map of_idle X.idles in
    let ps = map of_inversion X.inversions in
    let end = end_record (records_before ts X) in
    omega (
      arith,
      length-append (head_records 2 ts) (records ID us ++ (records PV ps ++ end)),
      length-append (records ID us) (records PV ps ++ end),
      length-append (records PV ps) end,
      head_many 2 ts,
      records_many ID us,
      records_many PV ps,
      length-map X.idles of_idle,
      length-map X.inversions of_inversion,
    )

-- the byte that a located refusal tells, where it is the record's and where none is named
the_byte : (kind : ℕ) (bytes : List ℕ) (r : Refusal) →
    (names_record r.number ≡ true → Begins bytes r.place (offset_of r.place bytes)) →
    (names_record r.number ≡ true → (rs : List Record) → RecordsOf bytes kind rs → BeginsIn rs bytes r.place (offset_of r.place bytes)) →
    TheByte kind bytes r.number r.place (refusal_offset bytes r)
the_byte kind bytes r begins there = record {
  begins = λ e. rw e (begins e);
  in_what_is_written = λ e rs of. rw e (there e rs of);
  none_named = λ e. rw e;
}

-- of a refusal of framing: the image has no records to be written
refused_not_read : {bytes : List ℕ} {kind : ℕ} {rs : List Record} → RecordsOf bytes kind rs → (r : Refusal) → frame kind bytes ≡ refuses r → ⊥
refused_not_read {bytes} (of_timetable {i = i} q) r e =
    then_gives (frame 1 bytes) _ i q (λ l g _. let both : gives l ≡ refuses r = sym g ∙ e in clash (cc))
refused_not_read {bytes} (of_tables {i = i} q) r e =
    then_gives (frame 2 bytes) _ i q (λ l g _. let both : gives l ≡ refuses r = sym g ∙ e in clash (cc))

framing_byte : (kind : ℕ) (bytes : List ℕ) (r : Refusal) → frame kind bytes ≡ refuses r → TheByte kind bytes r.number r.place (refusal_offset bytes r)
framing_byte kind bytes r e =
    the_byte kind bytes r (λ _. framing_begins kind bytes r e) (λ _ rs of. absurd (refused_not_read of r e))

-- of a refusal of what an image holds
module _ (kind : ℕ) (bytes : List ℕ) (rs : List Record) (is : bytes ≡ image rs) (only : (qs : List Record) → RecordsOf bytes kind qs → qs ≡ rs) where
  held_byte : (r : Refusal) → Inside (length rs) r → TheByte kind bytes r.number r.place (refusal_offset bytes r)
  held_byte r inside =
      the_byte kind bytes r (λ e. image_begins rs bytes is r.place (inside e))
      (λ e qs of. rw (only qs of) (image_begins_in rs bytes is r.place (inside e)))

-- the records of an image that frames are those of what it holds
timetable_only : {bytes : List ℕ} {i : Timed} → read_timetable bytes ≡ gives i → {kind : ℕ} {qs : List Record} → RecordsOf bytes kind qs → kind ≡ 1 →
    qs ≡ timetable_records i.set i.entries
timetable_only {bytes} {i} e (of_timetable {i = k} q) z =
    ap (λ (x : Timed). timetable_records x.set x.entries) (gives_in k i (sym q ∙ e))
timetable_only e (of_tables q) z = absurd (omega arith)

tables_only : {bytes : List ℕ} {i : Tabled} → read_tables bytes ≡ gives i → {kind : ℕ} {qs : List Record} → RecordsOf bytes kind qs → kind ≡ 2 →
    qs ≡ table_records i.set i.tables
tables_only e (of_timetable q) z = absurd (omega arith)
tables_only {bytes} {i} e (of_tables {i = k} q) z =
    ap (λ (x : Tabled). table_records x.set x.tables) (gives_in k i (sym q ∙ e))

-- of everything that refuses a timetable image
timetable_refusal_byte : (bytes : List ℕ) → Bytes bytes → (r : Refusal) → RefusesTimetableImage bytes r → TheByte 1 bytes r.number r.place (refusal_offset bytes r)
timetable_refusal_byte bytes b r (RefusesTimetableImage.by_framing q) = framing_byte 1 bytes r ((framing_order 1 bytes r).1 q)
timetable_refusal_byte bytes b r (RefusesTimetableImage.by_a_test {i = i} q f) =
    let many = timetable_many i.set i.entries in
    held_byte 1 bytes (timetable_records i.set i.entries) (framed_timetable bytes b i q).1 (λ qs of. timetable_only q of refl) r
    (first_has (Inside (length (timetable_records i.set i.entries))) f
    (entries_inside i.set (hyperperiod i.set) i.entries (length (timetable_records i.set i.entries)) (omega arith)) r refl)

-- and a table image
table_refusal_byte : (bytes : List ℕ) → Bytes bytes → (r : Refusal) → RefusesTableImage bytes r → TheByte 2 bytes r.number r.place (refusal_offset bytes r)
table_refusal_byte bytes b r (RefusesTableImage.by_framing q) = framing_byte 2 bytes r ((framing_order 2 bytes r).1 q)
table_refusal_byte bytes b r (RefusesTableImage.by_its_tables {i = i} q f) =
    held_byte 2 bytes (table_records i.set i.tables) (framed_tables bytes b i q).1 (λ qs of. tables_only q of refl) r
    (rw (table_many i.set i.tables) (tables_inside i.set i.tables f))

-- a number that names no record tells 0
nothing_named : (kind : ℕ) (bytes : List ℕ) (number place : ℕ) → names_record number ≡ false → TheByte kind bytes number place 0
nothing_named kind bytes number place e = record {
  begins = λ z. differ (sym z ∙ e);
  in_what_is_written = λ z. differ (sym z ∙ e);
  none_named = λ _. refl;
}

-- what an operation tells of an image, where its refusal tells the byte
tells_byte : {A : Type 0} (values : A → List ℕ) (kind : ℕ) (bytes : List ℕ) (a : Result A Located) →
    ((r : Located) → a ≡ Err r → TheByte kind bytes r.number r.place r.offset) →
    TheByte kind bytes (answer_tells values a).number (answer_tells values a).place (answer_tells values a).offset
tells_byte values kind bytes (Ok x) refused = nothing_named kind bytes 0 0 refl
tells_byte values kind bytes (Err r) refused = refused r refl

module _ (bytes : List ℕ) (b : Bytes bytes) where
  -- so it is with the refusals of plain checking
  checked_timetable_byte : (r : Located) → check_timetable bytes ≡ Err r → TheByte 1 bytes r.number r.place r.offset
  checked_timetable_byte r e =
      rw (timetable_refused_at bytes r e).there (timetable_refusal_byte bytes b (bare r) (timetable_refusals bytes r e))

  checked_tables_byte : (r : Located) → check_tables bytes ≡ Err r → TheByte 2 bytes r.number r.place r.offset
  checked_tables_byte r e = rw (tables_refused_at bytes r e).there (table_refusal_byte bytes b (bare r) (table_refusals bytes r e))

  -- with what every function tells of an image
  pub timetable_tells : (a : Result ⊤ Located) → check_timetable bytes ≡ a → TheByte 1 bytes (check_tells a).number (check_tells a).place (check_tells a).offset
  timetable_tells a e = tells_byte _ 1 bytes a (λ r f. checked_timetable_byte r (e ∙ f))

  pub tables_tell : (a : Result ⊤ Located) → check_tables bytes ≡ a → TheByte 2 bytes (check_tells a).number (check_tells a).place (check_tells a).offset
  tables_tell a e = tells_byte _ 2 bytes a (λ r f. checked_tables_byte r (e ∙ f))

  pub derive_tells : (old : List ℕ) (a : Result ℕ Located) → derive bytes old ≡ a →
      TheByte 1 bytes (make_tells a).number (make_tells a).place (make_tells a).offset
  derive_tells old a e =
      tells_byte _ 1 bytes a
      (λ r f. ⊎_elim (checked_timetable_byte r) (λ w. rw w.0 (nothing_named 1 bytes 20 0 refl)) (derive_refuses bytes old r (e ∙ f)))

  pub rebuild_tells : (old : List ℕ) (a : Result ℕ Located) → rebuild bytes old ≡ a →
      TheByte 2 bytes (make_tells a).number (make_tells a).place (make_tells a).offset
  rebuild_tells old a e =
      tells_byte _ 2 bytes a
      (λ r f. ⊎_elim (checked_tables_byte r) (λ w. rw w.0 (nothing_named 2 bytes 20 0 refl)) (rebuild_refuses bytes old r (e ∙ f)))
