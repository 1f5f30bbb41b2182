-- Where records begin: in bytes as far as framing passes them, and in what is written. Assumes nothing.
use mathlib.Core.Path.{◌≡◌, refl, sym, ◌∙◌, ap, subst}
use mathlib.Core.List.{List, [], ◌∷◌, ◌++◌, map, append_assoc}
use mathlib.Core.Option.{some}
use Prim.Native.Nat.{ℕ, zero, suc, ◌+◌, ◌*◌, ◌≤◌, ◌<◌}
use native.Mathlib.Nat.{zero-mul, suc-mul}
use native.Mathlib.Omega.{arith}
use lib.ListN.{length, get_or, take, drop, length-append, length-drop, length-map}
use lib.Seq.{drop-drop, drop-cons, take-suc, take-append-add}
use Rattle.rules.specs.declared.Entry.{Entry}
use Rattle.rules.specs.declared.Place.{Place}
use Rattle.rules.specs.declared.Refusal.{Refusal}
use Rattle.rules.specs.Refusals.{refuses, First}
use Rattle.rules.specs.Tasks.{Set}
use Rattle.rules.specs.Setting.{Tables}
use Rattle.rules.specs.Marks.{Mark, TS, TK, SL, ID, PV, EN, size, values}
use Rattle.rules.specs.Image.{Record, record_of, written, image, records, of_task, of_entry, of_idle, of_inversion, head_records, head_count, head_length, end_record, timetable_image, table_image}
use Rattle.rules.specs.Framing.{frame, framing_tests, RefusesFraming, this_record, later_record}
use Rattle.rules.specs.Located.{offset_of, Begins, at_the_front, behind_a_record, RunBegins, BeginsIn}
use Rattle.rules.proofs.Cases.{by_le}
use Rattle.rules.proofs.Marked.{mark_found, mark_front}
use Rattle.rules.proofs.FirstTests.{none_holds, first_has}
use Rattle.rules.proofs.FramingTurns.{by_after, moves}
use Rattle.rules.proofs.FramingOrder.{framing_order}
use Rattle.rules.proofs.Framed.{written_length, behind_written}
use Rattle.rules.proofs.Images.{both_lengths, set_length, records_length, records_before}

-- a record begins behind those that stand before it
pub begins_offset : {bytes : List ℕ} {j at : ℕ} → Begins bytes j at → offset_of j bytes ≡ at
begins_offset at_the_front = refl
begins_offset (behind_a_record m b e w) = rw (begins_offset b, e)

-- framing refuses a record at that record
refused_here : {kind : ℕ} {s : Place} {bytes : List ℕ} {r : Refusal} → First (framing_tests kind s bytes) (some r) → r.place ≡ s.index
refused_here {s = s} {r = r} f = first_has (λ (q : Refusal). q.place ≡ s.index) f (refl, (refl, (refl, (refl, (refl, (refl, (refl, tt))))))) r refl

-- and all records before it stand one behind the other
refused_behind : {kind : ℕ} {s : Place} {rest : List ℕ} {r : Refusal} → RefusesFraming kind s rest r → (bytes : List ℕ) → rest ≡ drop s.offset bytes →
    Begins bytes s.index s.offset → (at : ℕ) × Begins bytes r.place at
refused_behind {kind} (this_record {s = s} {bytes = rest} {r = r} f) bytes e b = (s.offset, rw (refused_here {kind = kind} {s = s} {bytes = rest} {r = r} f) b)
refused_behind {kind} (later_record {s = s} {t = t} {bytes = rest} {m = m} f a g q) bytes e b =
    let past = moves (by_after kind s m (values m rest) g) in
    let whole : size m ≤ length rest = by_le (size m) (length rest) (λ h. h) (λ h. absurd ((none_holds f refl).1.1.0 (m, a, h))) in
    let inside : s.offset + size m ≤ length bytes = omega (arith, ap length e, length-drop s.offset bytes) in
    refused_behind q bytes (ap (drop (size m)) e ∙ drop-drop (size m) s.offset bytes ∙ ap (λ (i : ℕ). drop i bytes) (sym past.1))
    (rw (past.0, past.1) (behind_a_record m b (rw e at (mark_front rest m a.first_byte a.second_byte)) inside))

-- so a refusal of framing is that of a record with as many others before it as its place says
pub framing_begins : (kind : ℕ) (bytes : List ℕ) (r : Refusal) → frame kind bytes ≡ refuses r → Begins bytes r.place (offset_of r.place bytes)
framing_begins kind bytes r e =
    let b = refused_behind ((framing_order kind bytes r).0 e) bytes refl at_the_front in rw (begins_offset b.1) b.1

-- a written record begins behind those before it, and those behind it follow
written_stands : (rs : List Record) (j : ℕ) → j ≤ length rs →
    Begins (image rs) j (length (image (take j rs))) × (drop (length (image (take j rs))) (image rs) ≡ image (drop j rs))
written_stands rs zero l = (at_the_front, refl)
written_stands rs (suc j) l =
    let before = written_stands rs j (omega arith) in
    let r : Record = get_or rs j (record_of EN []) in
    let m : Mark = r.mark in
    let v : List ℕ = r.values in
    let at : ℕ = length (image (take j rs)) in
    let rest : List ℕ = image (drop (suc j) rs) in
    let here : drop at (image rs) ≡ written r ++ rest = before.1 ∙ ap image (drop-cons rs j (record_of EN []) (omega arith)) in
    let longer : length (image (take (suc j) rs)) ≡ at + size m =
    ap (λ (qs : List Record). length (image qs)) (take-suc rs j (record_of EN []) (omega arith)) ∙ both_lengths (take j rs) (r ∷ [])
    ∙ omega (arith, length-append (written r) [], written_length m v) in
    let whole : at + size m ≤ length (image rs) =
    omega (arith, length-drop at (image rs), ap length here, length-append (written r) rest, written_length m v) in
    rw longer (
      behind_a_record m before.0 (rw here (mark_found m)) whole,
      sym (drop-drop (size m) at (image rs)) ∙ ap (drop (size m)) here ∙ behind_written m v rest,
    )

-- so its offset is the number of their bytes
pub written_offset : (rs : List Record) (j : ℕ) → j ≤ length rs → offset_of j (image rs) ≡ length (image (take j rs))
written_offset rs j l = begins_offset (written_stands rs j l).0

-- and each record of an image begins at its offset
module _ (rs : List Record) (bytes : List ℕ) (is : bytes ≡ image rs) (j : ℕ) (l : j < length rs) where
  pub image_begins : Begins bytes j (offset_of j bytes)
  image_begins = rw (is, written_offset rs j (omega arith)) (written_stands rs j (omega arith)).0

  pub image_begins_in : BeginsIn rs bytes j (offset_of j bytes)
  image_begins_in =
      rw (is, written_offset rs j (omega arith)) (record { a_record = l; before = refl; from_there = (written_stands rs j (omega arith)).1 })

-- as many records as lists of values
pub records_many : (m : Mark) (vs : List (List ℕ)) → length (records m vs) ≡ length vs
records_many m [] = refl
records_many m (v ∷ vs) = omega (arith, records_many m vs)

-- the first of records of one mark have the bytes of as many
run_taken : (m : Mark) (vs : List (List ℕ)) (qs : List Record) (j : ℕ) → j ≤ length vs → length (image (take j (records m vs ++ qs))) ≡ j * size m
run_taken m vs qs zero l = sym (zero-mul (size m))
run_taken m [] qs (suc j) l = absurd (omega arith)
run_taken m (v ∷ vs) qs (suc j) l =
    let rest : List ℕ = image (take j (records m vs ++ qs)) in
    omega (arith, length-append (written (record_of m v)) rest, written_length m v, run_taken m vs qs j (omega arith), suc-mul j (size m))

-- records of one mark, behind others and before others, begin one behind the other
pub run_begins : (rs : List Record) (m : Mark) (vs : List (List ℕ)) (qs : List Record) (index at : ℕ) → index ≡ length rs → at ≡ length (image rs) →
    RunBegins (image (rs ++ (records m vs ++ qs))) index at m (length vs)
run_begins rs m vs qs index at i a j l =
    let all : List Record = records m vs ++ qs in
    let inside : length rs + j ≤ length (rs ++ all) =
    omega (arith, length-append rs all, length-append (records m vs) qs, records_many m vs) in
    let bytes : length (image (take (length rs + j) (rs ++ all))) ≡ length (image rs) + j * size m =
    ap (λ (xs : List Record). length (image xs)) (take-append-add rs all j) ∙ both_lengths rs (take j all) ∙ omega (arith, run_taken m vs qs j l) in
    rw (i, a) (written_offset (rs ++ all) (length rs + j) inside ∙ bytes)

-- TK records, behind TS
pub tasks_begin : (kind : ℕ) (ts : Set) (qs : List Record) → RunBegins (image (head_records kind ts ++ qs)) 1 (size TS) TK (length ts.tasks)
tasks_begin kind ts qs j l =
    run_begins (record_of TS (1 ∷ kind ∷ length ts.tasks ∷ []) ∷ []) TK (map of_task ts.tasks) qs 1 (size TS) refl refl j
    (omega (arith, length-map ts.tasks of_task))

-- how many records the head has
pub head_many : (kind : ℕ) (ts : Set) → head_count ts ≡ length (head_records kind ts)
head_many kind ts = omega (arith, records_many TK (map of_task ts.tasks), length-map ts.tasks of_task)

-- SL records, behind the head
pub entries_begin : (bytes : List ℕ) (ts : Set) (τ : List Entry) → bytes ≡ timetable_image ts τ →
    RunBegins bytes (head_count ts) (head_length ts) SL (length τ)
entries_begin bytes ts τ is j l =
    rw is
    (run_begins (head_records 1 ts) SL (map of_entry τ) (end_record (head_count ts + length τ)) (head_count ts) (head_length ts) (head_many 1 ts)
    (sym (set_length 1 ts)) j (omega (arith, length-map τ of_entry)))

module _ (bytes : List ℕ) (ts : Set) (X : Tables) (is : bytes ≡ table_image ts X) where
  -- ID records, behind the head
  pub idles_begin : RunBegins bytes (head_count ts) (head_length ts) ID (length X.idles)
  idles_begin j l =
      rw is
      (run_begins (head_records 2 ts) ID (map of_idle X.idles) _ (head_count ts) (head_length ts) (head_many 2 ts) (sym (set_length 2 ts)) j
      (omega (arith, length-map X.idles of_idle)))

  -- PV records, behind the ID records
  pub inversions_begin : RunBegins bytes (head_count ts + length X.idles) (head_length ts + length X.idles * size ID) PV (length X.inversions)
  inversions_begin j l =
      let us = map of_idle X.idles in
      let ps = map of_inversion X.inversions in
      let end = end_record (records_before ts X) in
      let before : List Record = head_records 2 ts ++ records ID us in
      let same : before ++ (records PV ps ++ end) ≡ head_records 2 ts ++ (records ID us ++ (records PV ps ++ end)) =
      append_assoc (head_records 2 ts) (records ID us) (records PV ps ++ end) in
      rw is
      (subst (λ (rs : List Record). offset_of (head_count ts + length X.idles + j) (image rs) ≡ head_length ts + length X.idles * size ID + j * size PV) same
      (run_begins before PV ps end (head_count ts + length X.idles) (head_length ts + length X.idles * size ID)
      (omega (arith, length-append (head_records 2 ts) (records ID us), head_many 2 ts, records_many ID us, length-map X.idles of_idle))
      (omega (arith, both_lengths (head_records 2 ts) (records ID us), set_length 2 ts, records_length ID us, length-map X.idles of_idle)) j
      (omega (arith, length-map X.inversions of_inversion))))
