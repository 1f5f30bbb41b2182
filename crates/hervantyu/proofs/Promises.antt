-- What whoever calls the C face can rely on, from the contracts alone: what was lent decides the result, and every lent number and byte afterwards; and
-- the demands, function by function, of every result. A lent slice of bytes has `Bytes`. Where a proof takes more than a line it stands elsewhere.
-- Assumes nothing.
use mathlib.Core.Path.{◌≡◌, refl, sym, ◌∙◌, ap}
use mathlib.Core.Logic.Iff
use mathlib.Core.Logic.{◌↔◌, ◌⊎◌}
use mathlib.Core.List.{List, [], ◌∷◌, ◌++◌}
use mathlib.Core.Option.{none, some}
use Prim.Native.Nat.{ℕ, suc, ◌+◌, ◌*◌, ◌/◌, ◌%◌, ◌≤◌, ◌<◌}
use native.Mathlib.Omega.{arith}
use lib.ListN.{length, take, drop, replicate}
use lib.IntN.{ℤ}
use Rattle.fields.specs.Number.{Bytes}
use Rattle.rules.specs.declared.Entry.{Entry}
use Rattle.rules.specs.declared.Figures.{Figures}
use Rattle.rules.specs.declared.Refusal.{Refusal}
use Rattle.rules.specs.declared.Turn.{Turn}
use Rattle.std.specs.Prelude.{Result, ⊤}
use Rattle.rules.specs.declared.Located.{Located}
use Rattle.rules.specs.Refusals.{gives, refuses, refusal, First, Told}
use Rattle.rules.specs.Tasks.{Set, task, release, due, all_jobs, hyperperiod, memory_tests, judge_set}
use Rattle.rules.specs.Timetable.{entry_at, job_at}
use Rattle.rules.specs.Priority.{slot}
use Rattle.rules.specs.Operations.{read_timetable}
use Rattle.rules.specs.Axis.{front}
use Rattle.rules.specs.AxisRules.{FiguresOfImage}
use Rattle.rules.specs.Dispatcher.{number_count}
use Rattle.rules.specs.GoingOn.{going_tests}
use Rattle.rules.specs.Calls.{all_starts}
use Rattle.rules.specs.Promised.{TimetableImage, TableImage, RefusesTimetableImage, RefusesTableImage, TheByte, BothImages, RefusesDeriving, RefusesRebuilding}
use Rattle.rules.proofs.Promises as book
use Rattle.numbers.specs.Numbers.{set_from, state_from}
use Rattle.sets.specs.Sets.{GoodInMemory}
use Rattle.sets.proofs.Promises as sets
use Rattle.hervantyu.specs.Lent.{SetJudged, CheckTold, TimetableChecked, TablesChecked, Written, Derived, Rebuilt}
use Rattle.hervantyu.specs.Lent.{Figured, Holds, Fits, FragmentTaken, IntakeBegun, IntakeClosed, IntakeRebuilt, TurnTold, Begun, GoneOn}
use Rattle.hervantyu.specs.Feeding.{whole, IntakeLog, Feeds}
use Rattle.hervantyu.specs.Runs.{Honest, Log}
use Rattle.hervantyu.proofs.Returned.{zero_exactly, zero_place, refusal_exactly}
use Rattle.hervantyu.proofs.FaceSets as face_sets
use Rattle.hervantyu.proofs.FaceImages as face_images
use Rattle.hervantyu.proofs.FaceIntakes as face_intakes
use Rattle.hervantyu.proofs.FaceAxes as face_axes
use Rattle.hervantyu.proofs.FedFragments as fed
use Rattle.hervantyu.proofs.FaceTurns as face_turns
use Rattle.hervantyu.proofs.ServedCalls.{logged, goes_on, stays, ends, a_log, an_early_call}

-- DEMAND 1, every function: what was lent decides the outcome

-- two that are equal to a third are equal
same : {A : Type 0} {x y third : A} → x ≡ third → y ≡ third → x ≡ y
same e f = e ∙ sym f

-- two outcomes of `hv_judge_set` are equal: the number, the place, and what the two lent numbers hold
pub one_set_outcome : {n : ℕ} {numbers : List ℕ} {old-hyperperiod old-jobs r p h j r' p' h' j' : ℕ} →
    SetJudged n numbers old-hyperperiod old-jobs r p h j → SetJudged n numbers old-hyperperiod old-jobs r' p' h' j' →
    (r ≡ r') × (p ≡ p') × (h ≡ h') × (j ≡ j')
one_set_outcome a b = (
  same a.its_number b.its_number,
  same a.its_place b.its_place,
  same a.its_hyperperiod b.its_hyperperiod,
  same a.its_jobs b.its_jobs,
)

-- two outcomes of plain checking that answers the same are equal: the number and the location, that is the place and the byte offset
pub one_check_outcome : {answer : Result ⊤ Located} {r r' : ℕ} {w w' : List ℕ} → CheckTold answer r w → CheckTold answer r' w' → (r ≡ r') × (w ≡ w')
one_check_outcome a b = (same a.its_number b.its_number, same a.its_location b.its_location)

-- two outcomes of deriving or rebuilding that answers the same are equal: the number, the location, what the lent length holds, and every byte of the output
pub one_written_outcome : {answer : Result ℕ Located} {after out out' w w' : List ℕ} {old-length r l r' l' : ℕ} →
    Written answer after old-length r w l out → Written answer after old-length r' w' l' out' → (r ≡ r') × (w ≡ w') × (l ≡ l') × (out ≡ out')
one_written_outcome a b = (
  same a.told.answered.its_number b.told.answered.its_number,
  same a.told.answered.its_location b.told.answered.its_location,
  same a.told.its_length b.told.its_length,
  same a.its_output b.its_output,
)

-- so are those of the functions themselves
pub one_timetable_outcome : (image : List ℕ) {r r' : ℕ} {w w' : List ℕ} → TimetableChecked image r w → TimetableChecked image r' w' →
    (r ≡ r') × (w ≡ w')
one_timetable_outcome image = one_check_outcome

pub one_tables_outcome : (image : List ℕ) {r r' : ℕ} {w w' : List ℕ} → TablesChecked image r w → TablesChecked image r' w' → (r ≡ r') × (w ≡ w')
one_tables_outcome image = one_check_outcome

pub one_derive_outcome : (image old-output : List ℕ) {old-length r l r' l' : ℕ} {w w' out out' : List ℕ} →
    Derived image old-output old-length r w l out → Derived image old-output old-length r' w' l' out' →
    (r ≡ r') × (w ≡ w') × (l ≡ l') × (out ≡ out')
one_derive_outcome image old-output = one_written_outcome

pub one_rebuild_outcome : (image old-output : List ℕ) {old-length r l r' l' : ℕ} {w w' out out' : List ℕ} →
    Rebuilt image old-output old-length r w l out → Rebuilt image old-output old-length r' w' l' out' →
    (r ≡ r') × (w ≡ w') × (l ≡ l') × (out ≡ out')
one_rebuild_outcome image old-output = one_written_outcome

-- two outcomes of `hv_figures` are equal: the number, the location, what the two lent numbers hold, and every slot of the figures
pub one_figures_outcome : (images : List ℕ) (old : List ℤ) {old-count old-used r count used r' count' used' : ℕ} {w w' : List ℕ} {left left' : List ℤ} →
    Figured images old old-count old-used r w count used left → Figured images old old-count old-used r' w' count' used' left' →
    (r ≡ r') × (w ≡ w') × (count ≡ count') × (used ≡ used') × (left ≡ left')
one_figures_outcome images old a b = (
  same a.told.answered.its_number b.told.answered.its_number,
  same a.told.answered.its_location b.told.answered.its_location,
  same a.told.its_count b.told.its_count,
  same a.told.its_used b.told.its_used,
  same a.its_figures b.its_figures,
)

-- two outcomes of taking a fragment are equal: the number, the intake's two numbers, and every byte of the buffer
pub one_take_outcome : {numbers buffer fragment k k' b b' : List ℕ} {r r' : ℕ} →
    FragmentTaken numbers buffer fragment r k b → FragmentTaken numbers buffer fragment r' k' b' → (r ≡ r') × (k ≡ k') × (b ≡ b')
one_take_outcome a b = (
  same a.taken.its_number b.taken.its_number,
  same a.taken.its_numbers b.taken.its_numbers,
  same a.taken.its_buffer b.taken.its_buffer,
)

-- so are those of the two closing calls
pub one_close_outcome : {numbers buffer k k' w w' : List ℕ} {old-length r l r' l' : ℕ} →
    IntakeClosed numbers buffer old-length r w l k → IntakeClosed numbers buffer old-length r' w' l' k' → (r ≡ r') × (w ≡ w') × (l ≡ l') × (k ≡ k')
one_close_outcome a b = (
  same a.told.answered.its_number b.told.answered.its_number,
  same a.told.answered.its_location b.told.answered.its_location,
  same a.told.its_length b.told.its_length,
  same a.its_numbers b.its_numbers,
)

pub one_closing_rebuild_outcome : {numbers buffer old k k' w w' out out' : List ℕ} {old-length r l r' l' : ℕ} →
    IntakeRebuilt numbers buffer old old-length r w l out k → IntakeRebuilt numbers buffer old old-length r' w' l' out' k' →
    (r ≡ r') × (w ≡ w') × (l ≡ l') × (out ≡ out') × (k ≡ k')
one_closing_rebuild_outcome a b =
    let made = one_written_outcome a.written b.written in
    (made.0, made.1, made.2, made.3, same a.its_numbers b.its_numbers)

-- two outcomes of a turn of the dispatcher are equal: the number, what the lent start holds, and every number of the state
pub one_turn_outcome : {turn : Turn} {old-start s s' d d' : List ℕ} {r r' : ℕ} →
    TurnTold turn old-start r s d → TurnTold turn old-start r' s' d' → (r ≡ r') × (s ≡ s') × (d ≡ d')
one_turn_outcome a b = (
  same a.told.its_number b.told.its_number,
  same a.told.its_start b.told.its_start,
  same a.its_numbers b.its_numbers,
)

-- so are those of `hv_begin`, with the location
pub one_begin_outcome : {image old-start w w' s s' d d' : List ℕ} {r r' : ℕ} →
    Begun image old-start r w s d → Begun image old-start r' w' s' d' → (r ≡ r') × (w ≡ w') × (s ≡ s') × (d ≡ d')
one_begin_outcome a b =
    let turn = one_turn_outcome a.turn_told b.turn_told in
    (turn.0, same a.its_location b.its_location, turn.1, turn.2)

-- and those of `hv_go_on`
pub one_go_on_outcome : (image old-state : List ℕ) (end : ℕ) {old-start s s' d d' : List ℕ} {r r' : ℕ} →
    GoneOn image old-state end old-start r s d → GoneOn image old-state end old-start r' s' d' → (r ≡ r') × (s ≡ s') × (d ≡ d')
one_go_on_outcome image old-state end = one_turn_outcome

-- DEMAND 1, hv_judge_set

module _ {n : ℕ} {numbers : List ℕ} {old-hyperperiod old-jobs r p h j : ℕ} (judged : SetJudged n numbers old-hyperperiod old-jobs r p h j) where
  -- returns 0, and leaves these figures, exactly where the set is good and they are its figures
  pub set_accepted_exactly : (f : Figures) → ((r ≡ 0) × (h ≡ f.hyperperiod) × (j ≡ f.jobs)) ↔ GoodInMemory (set_from n numbers 0) f
  set_accepted_exactly = face_sets.good_exactly judged

  -- with 0 the place is 0
  pub set_accepted_place : r ≡ 0 → p ≡ 0
  set_accepted_place = zero_place (face_sets.returned_set judged)

  -- returns another number and leaves a place exactly where the first test in the document's order refuses with them
  pub set_refused_exactly : (q : Refusal) → ((1 ≤ r) × (refusal r p ≡ q)) ↔ First (memory_tests (set_from n numbers 0)) (some q)
  set_refused_exactly q = Iff.trans (refusal_exactly (face_sets.returned_set judged) q) (sets.refused_exactly (set_from n numbers 0) (judge_set (set_from n numbers 0)) refl q)

  -- returns 0, or 5 to 9
  pub set_returns : (r ≡ 0) ⊎ ((5 ≤ r) × (r ≤ 9))
  set_returns = face_sets.set_numbers judged

  -- a refusal leaves the hyperperiod and the jobs as they were
  pub set_refused_keeps : 1 ≤ r → (h ≡ old-hyperperiod) × (j ≡ old-jobs)
  set_refused_keeps = face_sets.set_keeps judged

-- DEMANDS 1 AND 2, hv_check_timetable

module _ (image : List ℕ) {r : ℕ} {w : List ℕ} (checked : TimetableChecked image r w) where
  -- returns 0 exactly where the bytes are the image of a good set and a valid timetable
  pub timetable_accepted_exactly : Bytes image → (r ≡ 0) ↔ ((ts : Set) × (τ : List Entry) × TimetableImage image ts τ)
  timetable_accepted_exactly b = Iff.trans (zero_exactly (face_images.returned_timetable image checked)) (book.accepted_timetables image b)

  -- with 0 the place and the byte offset are 0
  pub timetable_accepted_location : r ≡ 0 → w ≡ 0 ∷ 0 ∷ []
  timetable_accepted_location = face_images.timetable_nowhere image checked

  -- returns another number and leaves a place exactly where the document's order comes to them first
  pub timetable_refused_exactly : (q : Refusal) → ((1 ≤ r) × (refusal r (slot w 0) ≡ q)) ↔ RefusesTimetableImage image q
  timetable_refused_exactly q = Iff.trans (refusal_exactly (face_images.returned_timetable image checked) q) (book.timetable_order image q)

  -- R-2: behind the place it leaves the byte at which the record begins that the place names, 0 where it names none
  pub timetable_tells_the_byte : Bytes image → TheByte 1 image r (slot w 0) (slot w 1)
  timetable_tells_the_byte = face_images.timetable_byte image checked

  -- returns 0 to 16
  pub timetable_returns : r ≤ 16
  timetable_returns = face_images.timetable_numbers image checked

-- DEMANDS 1 AND 2, hv_check_tables

module _ (image : List ℕ) {r : ℕ} {w : List ℕ} (checked : TablesChecked image r w) where
  -- returns 0 exactly where some valid timetable of a good set has those tables
  pub tables_accepted_exactly : Bytes image → (r ≡ 0) ↔ ((ts : Set) × (τ : List Entry) × TableImage image ts τ)
  tables_accepted_exactly b = Iff.trans (zero_exactly (face_images.returned_tables image checked)) (book.accepted_tables image b)

  -- with 0 the place and the byte offset are 0
  pub tables_accepted_location : r ≡ 0 → w ≡ 0 ∷ 0 ∷ []
  tables_accepted_location = face_images.tables_nowhere image checked

  -- returns another number and leaves a place exactly where the document's order comes to them first
  pub tables_refused_exactly : (q : Refusal) → ((1 ≤ r) × (refusal r (slot w 0) ≡ q)) ↔ RefusesTableImage image q
  tables_refused_exactly q = Iff.trans (refusal_exactly (face_images.returned_tables image checked) q) (book.table_order image q)

  -- R-2: behind the place it leaves the byte at which the record begins that the place names, 0 where it names none
  pub tables_tell_the_byte : Bytes image → TheByte 2 image r (slot w 0) (slot w 1)
  tables_tell_the_byte = face_images.tables_byte image checked

  -- returns 0 to 10, or 17 to 19
  pub tables_returns : (r ≤ 10) ⊎ ((17 ≤ r) × (r ≤ 19))
  tables_returns = face_images.tables_numbers image checked

-- that set and that timetable are the only ones
pub only_one_timetable : {image : List ℕ} {ts us : Set} {τ σ : List Entry} → TableImage image ts τ → TableImage image us σ → (ts ≡ us) × (τ ≡ σ)
only_one_timetable = book.only_one_timetable

-- DEMANDS 1 AND 2, hv_derive

module _ (image old : List ℕ) {old-length r l : ℕ} {w out : List ℕ} (derived : Derived image old old-length r w l out) where
  -- returns 0 exactly where the bytes are a timetable's image and the output has room for that of its tables
  pub derive_accepted_exactly : Bytes image → (r ≡ 0) ↔ ((result : List ℕ) × BothImages image result × (length result ≤ length old))
  derive_accepted_exactly = face_images.derive_zero image old derived

  -- with 0 the place and the byte offset are 0, the length is that of the tables' image, it fills the front of the output, and later bytes keep their values
  pub derive_writes_exactly : r ≡ 0 → {result : List ℕ} → BothImages image result →
      (w ≡ 0 ∷ 0 ∷ []) × (l ≡ length result) × (out ≡ result ++ drop (length result) old)
  derive_writes_exactly e both =
      let f = face_images.derive_fits image old derived both (face_images.derive_room image old derived e both) in (f.1, f.2, f.3)

  -- returns another number and leaves a place exactly where the document's order comes to them first, with 20 the last
  pub derive_refused_exactly : Bytes image → (q : Refusal) → ((1 ≤ r) × (refusal r (slot w 0) ≡ q)) ↔ RefusesDeriving image (length old) q
  derive_refused_exactly b q = Iff.trans (refusal_exactly (face_images.returned_derive image old derived) q) (book.derive_order image old b q)

  -- R-2: behind the place it leaves the byte at which the record begins that the place names, 0 where it names none
  pub derive_tells_the_byte : Bytes image → TheByte 1 image r (slot w 0) (slot w 1)
  derive_tells_the_byte = face_images.derive_byte image old derived

  -- returns 0 to 16, or 20
  pub derive_returns : (r ≤ 16) ⊎ (r ≡ 20)
  derive_returns = face_images.derive_numbers image old derived

  -- a refusal leaves the length and every byte of the output as they were
  pub derive_refused_keeps : 1 ≤ r → (l ≡ old-length) × (out ≡ old)
  derive_refused_keeps = face_images.derive_keeps image old derived

-- DEMANDS 1 AND 2, hv_rebuild

module _ (image old : List ℕ) {old-length r l : ℕ} {w out : List ℕ} (rebuilt : Rebuilt image old old-length r w l out) where
  -- returns 0 exactly where the bytes are the image of a timetable's tables and the output has room for the timetable's own
  pub rebuild_accepted_exactly : Bytes image → (r ≡ 0) ↔ ((result : List ℕ) × BothImages result image × (length result ≤ length old))
  rebuild_accepted_exactly = face_images.rebuild_zero image old rebuilt

  -- with 0 the place and the byte offset are 0, the length is that of the timetable's image, it fills the front of the output, and later bytes keep their values
  pub rebuild_writes_exactly : r ≡ 0 → {result : List ℕ} → BothImages result image →
      (w ≡ 0 ∷ 0 ∷ []) × (l ≡ length result) × (out ≡ result ++ drop (length result) old)
  rebuild_writes_exactly e both =
      let f = face_images.rebuild_fits image old rebuilt both (face_images.rebuild_room image old rebuilt e both) in (f.1, f.2, f.3)

  -- returns another number and leaves a place exactly where the document's order comes to them first, with 20 the last
  pub rebuild_refused_exactly : Bytes image → (q : Refusal) → ((1 ≤ r) × (refusal r (slot w 0) ≡ q)) ↔ RefusesRebuilding image (length old) q
  rebuild_refused_exactly b q = Iff.trans (refusal_exactly (face_images.returned_rebuild image old rebuilt) q) (book.rebuild_order image old b q)

  -- R-2: behind the place it leaves the byte at which the record begins that the place names, 0 where it names none
  pub rebuild_tells_the_byte : Bytes image → TheByte 2 image r (slot w 0) (slot w 1)
  rebuild_tells_the_byte = face_images.rebuild_byte image old rebuilt

  -- returns 0 to 10, or 17 to 20
  pub rebuild_returns : (r ≤ 10) ⊎ ((17 ≤ r) × (r ≤ 20))
  rebuild_returns = face_images.rebuild_numbers image old rebuilt

  -- a refusal leaves the length and every byte of the output as they were
  pub rebuild_refused_keeps : 1 ≤ r → (l ≡ old-length) × (out ≡ old)
  rebuild_refused_keeps = face_images.rebuild_keeps image old rebuilt

-- DEMAND 2, hv_derive and hv_rebuild: what each wrote is accepted

pub derived_accepted : (image old : List ℕ) {old-length l : ℕ} {w out : List ℕ} → Bytes image → Derived image old old-length 0 w l out →
    {r' : ℕ} {w' : List ℕ} → TablesChecked (take l out) r' w' → (r' ≡ 0) × (w' ≡ 0 ∷ 0 ∷ [])
derived_accepted = face_images.derived_accepted

pub rebuilt_accepted : (image old : List ℕ) {old-length l : ℕ} {w out : List ℕ} → Bytes image → Rebuilt image old old-length 0 w l out →
    {r' : ℕ} {w' : List ℕ} → TimetableChecked (take l out) r' w' → (r' ≡ 0) × (w' ≡ 0 ∷ 0 ∷ [])
rebuilt_accepted = face_images.rebuilt_accepted

-- DEMAND 2, hv_derive and hv_rebuild: what the one wrote the other turns back into the very bytes that the one was lent

pub rebuild_after_derive : (image old : List ℕ) {old-length l : ℕ} {w out : List ℕ} → Bytes image → Derived image old old-length 0 w l out →
    (other : List ℕ) {other_length r' l' : ℕ} {w' out' : List ℕ} → Rebuilt (take l out) other other_length r' w' l' out' → length image ≤ length other →
    (r' ≡ 0) × (w' ≡ 0 ∷ 0 ∷ []) × (l' ≡ length image) × (out' ≡ image ++ drop (length image) other)
rebuild_after_derive = face_images.there_and_back

pub derive_after_rebuild : (image old : List ℕ) {old-length l : ℕ} {w out : List ℕ} → Bytes image → Rebuilt image old old-length 0 w l out →
    (other : List ℕ) {other_length r' l' : ℕ} {w' out' : List ℕ} → Derived (take l out) other other_length r' w' l' out' → length image ≤ length other →
    (r' ≡ 0) × (w' ≡ 0 ∷ 0 ∷ []) × (l' ≡ length image) × (out' ≡ image ++ drop (length image) other)
derive_after_rebuild = face_images.back_and_there

-- `hv_figures`: the image at the front of the bytes is measured, and what follows its EN is left alone
module _ (images : List ℕ) (old : List ℤ) {old-count old-used r count used : ℕ} {w : List ℕ} {left : List ℤ}
    (told : Figured images old old-count old-used r w count used left) where
  -- 0 is returned exactly where that image is accepted and there is room for its figures, which are those that document 02 tells of
  pub figures_accepted_exactly : Bytes images → (r ≡ 0) ↔ ((fs : List ℤ) × FiguresOfImage images fs × (length fs ≤ length old))
  figures_accepted_exactly b = face_axes.figures_zero images old told b

  -- they are written in order, with their count and the bytes of their image, and later slots keep their values
  pub figures_writes_exactly : Bytes images → (fs : List ℤ) → FiguresOfImage images fs → length fs ≤ length old →
      (w ≡ 0 ∷ 0 ∷ []) × (count ≡ length fs) × (used ≡ length (front images)) × (left ≡ fs ++ drop (length fs) old)
  figures_writes_exactly b fs f room = face_axes.figures_written images old told b fs f room

  -- 20 is returned exactly where there is no room for them
  pub figures_too_many_exactly : Bytes images → (r ≡ 20) ↔ ((fs : List ℤ) × FiguresOfImage images fs × (length old < length fs))
  figures_too_many_exactly b = face_axes.figures_twenty images old told b

  -- with place and byte offset 0
  pub figures_too_many_location : Bytes images → r ≡ 20 → w ≡ 0 ∷ 0 ∷ []
  figures_too_many_location b t = face_axes.figures_nowhere images old told b t

  -- any other number is returned as of `hv_check_tables`, with the same place and byte
  pub figures_refused_as_checking : 1 ≤ r → (r ≡ 20 → ⊥) → TablesChecked (front images) r w
  figures_refused_as_checking one not-20 = face_axes.figures_checked images old told one not-20

  -- and on every refusal nothing else that was lent changes
  pub figures_refused_keeps : 1 ≤ r → (count ≡ old-count) × (used ≡ old-used) × (left ≡ old)
  figures_refused_keeps one = face_axes.figures_kept images old told one

-- an accepted image is the one at the front, whatever bytes follow it
pub front_image : {image : List ℕ} {ts : Set} {τ : List Entry} → TableImage image ts τ → (rest : List ℕ) → front (image ++ rest) ≡ image
front_image t rest = face_axes.front_first t rest

-- the figures of an image are one list
pub only_one_axis : {images : List ℕ} {x y : List ℤ} → Bytes images → FiguresOfImage images x → FiguresOfImage images y → x ≡ y
only_one_axis {images} b f g = face_axes.one_measure images b f g

-- DEMAND 1, R-1, hv_intake_take: any two numbers, any buffer and any fragment

module _ {numbers buffer fragment numbers' buffer' : List ℕ} {r : ℕ} (taken : FragmentTaken numbers buffer fragment r numbers' buffer') where
  -- returns 0 exactly where the intake is open and the fragment fits behind its count
  pub take_accepted_exactly : (r ≡ 0) ↔ Fits numbers buffer fragment
  take_accepted_exactly = face_intakes.take_zero taken

  -- with 0 the count is more by the fragment's length, the fragment stands behind the bytes that were held, and all other bytes keep their values
  pub take_writes_exactly : r ≡ 0 →
      (numbers' ≡ 1 ∷ (slot numbers 1 + length fragment) ∷ [])
      × (buffer' ≡ take (slot numbers 1) buffer ++ (fragment ++ drop (slot numbers 1 + length fragment) buffer))
  take_writes_exactly z = let done = face_intakes.fits_behind taken (take_accepted_exactly.0 z) in (done.1, done.2)

  -- returns 0 or 20
  pub take_returns : (r ≡ 0) ⊎ (r ≡ 20)
  take_returns = face_intakes.take_numbers taken

  -- a refusal leaves both numbers 0 and every byte of the buffer as it was
  pub take_refused_leaves : 1 ≤ r → (numbers' ≡ 0 ∷ 0 ∷ []) × (buffer' ≡ buffer)
  take_refused_leaves = face_intakes.take_leaves taken

-- DEMANDS 1 AND 2, R-1, hv_intake_close: any two numbers and any buffer

module _ {numbers buffer w numbers' : List ℕ} {old-length r l : ℕ} (closing : IntakeClosed numbers buffer old-length r w l numbers') where
  -- of the bytes that are held it returns, and leaves in the location, what `hv_check_tables` does
  pub close_returns_as_checking : Holds numbers buffer → TablesChecked (take (slot numbers 1) buffer) r w
  close_returns_as_checking = face_intakes.close_checks closing

  -- where none are held it returns 20, with place and byte offset 0
  pub close_of_nothing : (Holds numbers buffer → ⊥) → (r ≡ 20) × (w ≡ 0 ∷ 0 ∷ [])
  close_of_nothing = face_intakes.close_nothing closing

  -- with 0 the length is the count
  pub close_accepted_length : r ≡ 0 → l ≡ slot numbers 1
  close_accepted_length = face_intakes.close_length closing

  -- a refusal leaves the length as it was
  pub close_refused_keeps : 1 ≤ r → l ≡ old-length
  close_refused_keeps = face_intakes.close_keeps closing

  -- returns 0 to 10, or 17 to 20
  pub close_returns : (r ≤ 10) ⊎ ((17 ≤ r) × (r ≤ 20))
  close_returns = face_intakes.close_numbers closing

  -- whatever it returns, both numbers are 0
  pub close_shuts : numbers' ≡ 0 ∷ 0 ∷ []
  close_shuts = closing.its_numbers

-- DEMANDS 1 AND 2, R-1, hv_intake_rebuild: any two numbers, any buffer and any output

module _ {numbers buffer old w out numbers' : List ℕ} {old-length r l : ℕ} (closing : IntakeRebuilt numbers buffer old old-length r w l out numbers') where
  -- of the bytes that are held it returns, and leaves in all that was lent, what `hv_rebuild` does
  pub closing_returns_as_rebuilding : Holds numbers buffer → Rebuilt (take (slot numbers 1) buffer) old old-length r w l out
  closing_returns_as_rebuilding = face_intakes.closing_rebuilds closing

  -- where none are held it returns 20, with place and byte offset 0
  pub closing_rebuild_of_nothing : (Holds numbers buffer → ⊥) → (r ≡ 20) × (w ≡ 0 ∷ 0 ∷ [])
  closing_rebuild_of_nothing = face_intakes.closing_nothing closing

  -- a refusal leaves the length and every byte of the output as they were
  pub closing_rebuild_refused_keeps : 1 ≤ r → (l ≡ old-length) × (out ≡ old)
  closing_rebuild_refused_keeps = face_intakes.closing_keeps closing

  -- returns 0 to 10, or 17 to 20
  pub closing_rebuild_returns : (r ≤ 10) ⊎ ((17 ≤ r) × (r ≤ 20))
  closing_rebuild_returns = face_intakes.closing_numbers closing

  -- whatever it returns, both numbers are 0
  pub closing_rebuild_shuts : numbers' ≡ 0 ∷ 0 ∷ []
  closing_rebuild_shuts = closing.its_numbers

-- R-1, of every log of calls on an intake that has taken bytes: each fragment fitted, and no closing call was made since it was begun

module _ {bytes numbers buffer : List ℕ} (log : IntakeLog (gives bytes) numbers buffer) where
  -- it is open with their number, and they stand at the front of the buffer
  pub intake_holds : (numbers ≡ 1 ∷ length bytes ∷ []) × (take (length bytes) buffer ≡ bytes)
  intake_holds = ((fed.stands log).its_numbers, fed.log_front log)

  -- a fragment that fits is taken, and stands behind them; all other bytes keep their values
  pub intake_takes : {fragment numbers' buffer' : List ℕ} {r : ℕ} → FragmentTaken numbers buffer fragment r numbers' buffer' →
      length (bytes ++ fragment) ≤ length buffer →
      (r ≡ 0) × (numbers' ≡ 1 ∷ length (bytes ++ fragment) ∷ []) × (buffer' ≡ (bytes ++ fragment) ++ drop (length (bytes ++ fragment)) buffer)
  intake_takes taken = face_intakes.joins taken (fed.log_held log)

  -- one that does not is refused with 20, leaves every byte of the buffer as it was, and shuts the intake
  pub intake_refuses : {fragment numbers' buffer' : List ℕ} {r : ℕ} → FragmentTaken numbers buffer fragment r numbers' buffer' →
      length buffer < length (bytes ++ fragment) → (r ≡ 20) × (numbers' ≡ 0 ∷ 0 ∷ []) × (buffer' ≡ buffer)
  intake_refuses taken = face_intakes.overflows taken (fed.log_held log)

  -- closing returns, and leaves in the location, what `hv_check_tables` does of the joined bytes; the length is theirs where they are accepted, and else as it
  -- was
  pub closes_as_joined : {w numbers' : List ℕ} {old-length r l : ℕ} → IntakeClosed numbers buffer old-length r w l numbers' →
      TablesChecked bytes r w × (r ≡ 0 → l ≡ length bytes) × (1 ≤ r → l ≡ old-length)
  closes_as_joined closing = face_intakes.closes closing (fed.log_held log)

  -- closing with rebuilding returns, and leaves in all that was lent, what `hv_rebuild` does of the joined bytes
  pub rebuilds_as_joined : {old w out numbers' : List ℕ} {old-length r l : ℕ} → IntakeRebuilt numbers buffer old old-length r w l out numbers' →
      Rebuilt bytes old old-length r w l out
  rebuilds_as_joined closing = face_intakes.rebuilds closing (fed.log_held log)

  -- and where closing returned 0, `hv_begin` on the front of the buffer is `hv_begin` on the joined bytes
  pub begins_as_joined : {w numbers' : List ℕ} {old-length l : ℕ} → IntakeClosed numbers buffer old-length 0 w l numbers' →
      {old-start location start state : List ℕ} {r : ℕ} → Begun (take l buffer) old-start r location start state →
      Begun bytes old-start r location start state
  begins_as_joined closing begins =
      let front = ap (λ (n : ℕ). take n buffer) ((closes_as_joined closing).1 refl) ∙ intake_holds.1 in rw front at begins

-- R-1, of every log that came to a fragment that was refused or to a closing call, whatever was lent to that one, with no begin since: every fragment and
-- both closing calls return 20, and leave all but the location as it was and both numbers 0

module _ {q : Refusal} {numbers buffer : List ℕ} (log : IntakeLog (refuses q) numbers buffer) where
  pub intake_is_shut : numbers ≡ 0 ∷ 0 ∷ []
  intake_is_shut = (fed.stands log).its_numbers

  pub shut_refuses : {fragment numbers' buffer' : List ℕ} {r : ℕ} → FragmentTaken numbers buffer fragment r numbers' buffer' →
      (r ≡ 20) × (numbers' ≡ 0 ∷ 0 ∷ []) × (buffer' ≡ buffer)
  shut_refuses taken = face_intakes.refused_shut taken (fed.log_shut log)

  pub shut_closes : {w numbers' : List ℕ} {old-length r l : ℕ} → IntakeClosed numbers buffer old-length r w l numbers' →
      (r ≡ 20) × (w ≡ 0 ∷ 0 ∷ []) × (l ≡ old-length) × (numbers' ≡ 0 ∷ 0 ∷ [])
  shut_closes closing = let done = face_intakes.closes_shut closing (fed.log_shut log) in (done.0, done.1, done.2, closing.its_numbers)

  pub shut_rebuilds : {old w out numbers' : List ℕ} {old-length r l : ℕ} → IntakeRebuilt numbers buffer old old-length r w l out numbers' →
      (r ≡ 20) × (w ≡ 0 ∷ 0 ∷ []) × (l ≡ old-length) × (out ≡ old) × (numbers' ≡ 0 ∷ 0 ∷ [])
  shut_rebuilds closing =
      let done = face_intakes.rebuilds_shut closing (fed.log_shut log) in (done.0, done.1, done.2, done.3, closing.its_numbers)

-- R-1, however an image is cut into fragments, of whatever length, some of length 0: where it fits the buffer the log has taken exactly its bytes, and where
-- it does not the intake is shut

pub however_cut : {fragments : List (List ℕ)} {numbers buffer numbers' buffer' : List ℕ} → IntakeBegun numbers →
    Feeds fragments numbers buffer numbers' buffer' → length (whole fragments) ≤ length buffer → IntakeLog (gives (whole fragments)) numbers' buffer'
however_cut = fed.fed_whole

pub however_cut_too_long : {fragments : List (List ℕ)} {numbers buffer numbers' buffer' : List ℕ} → IntakeBegun numbers →
    Feeds fragments numbers buffer numbers' buffer' → length buffer < length (whole fragments) → IntakeLog (refuses (refusal 20 0)) numbers' buffer'
however_cut_too_long = fed.fed_too_long

-- not vacuous: every list of fragments can be fed
pub feeds_exist : (fragments : List (List ℕ)) (numbers buffer : List ℕ) → (numbers' : List ℕ) × (buffer' : List ℕ) × Feeds fragments numbers buffer numbers' buffer'
feeds_exist = fed.can_be_fed

-- DEMAND 1, hv_begin

module _ {image old-start : List ℕ} {r : ℕ} {w start state : List ℕ} (begun : Begun image old-start r w start state) where
  -- returns, and leaves in the location, what `hv_check_tables` does
  pub begin_returns_as_checking : Bytes image → TablesChecked image r w
  begin_returns_as_checking = face_turns.begin_checks begun

  -- so it returns 0 exactly where some valid timetable of a good set has those tables
  pub begin_accepted_exactly : Bytes image → (r ≡ 0) ↔ ((ts : Set) × (τ : List Entry) × TableImage image ts τ)
  begin_accepted_exactly b = tables_accepted_exactly image (begin_returns_as_checking b) b

  -- with 0 the place and the byte offset are 0
  pub begin_accepted_location : Bytes image → r ≡ 0 → w ≡ 0 ∷ 0 ∷ []
  begin_accepted_location b = tables_accepted_location image (begin_returns_as_checking b)

  -- returns another number and leaves a place exactly where the document's order comes to them first
  pub begin_refused_exactly : Bytes image → (q : Refusal) → ((1 ≤ r) × (refusal r (slot w 0) ≡ q)) ↔ RefusesTableImage image q
  begin_refused_exactly b = tables_refused_exactly image (begin_returns_as_checking b)

  -- R-2: behind the place it leaves the byte at which the record begins that the place names, 0 where it names none
  pub begin_tells_the_byte : Bytes image → TheByte 2 image r (slot w 0) (slot w 1)
  begin_tells_the_byte b = tables_tell_the_byte image (begin_returns_as_checking b) b

  -- returns 0 to 10, or 17 to 19
  pub begin_returns : Bytes image → (r ≤ 10) ⊎ ((17 ≤ r) × (r ≤ 19))
  begin_returns b = tables_returns image (begin_returns_as_checking b)

  -- a refusal leaves the start as it was, and all numbers of the record 0
  pub begin_refused_leaves : 1 ≤ r → (start ≡ old-start) × (state ≡ replicate number_count 0)
  begin_refused_leaves = face_turns.begin_leaves begun

-- R-1: on the front of a buffer whose close returned 0 it returns 0, so that an image that was accepted there runs
pub accepted_begins : {bytes numbers buffer : List ℕ} → Bytes bytes → IntakeLog (gives bytes) numbers buffer → {w numbers' : List ℕ} {old-length l : ℕ} →
    IntakeClosed numbers buffer old-length 0 w l numbers' → {old-start location start state : List ℕ} {r : ℕ} →
    Begun (take l buffer) old-start r location start state → r ≡ 0
accepted_begins {bytes} b log closing g =
    (begin_accepted_exactly (begins_as_joined log closing g) b).1 ((tables_accepted_exactly bytes (closes_as_joined log closing).0 b).0 refl)

-- DEMAND 1, hv_go_on

module _ (image old-state : List ℕ) (end : ℕ) {old-start start state : List ℕ} {r : ℕ}
    (gone-on : GoneOn image old-state end old-start r start state) where
  -- returns 0 exactly where no test refuses
  pub go_on_accepted_exactly : (r ≡ 0) ↔ First (going_tests image (state_from old-state) end) none
  go_on_accepted_exactly = face_turns.go_on_passes image old-state end gone-on

  -- returns another number exactly where it is that of the first of 23, 25, 21, 22, 24, 25 whose condition holds
  pub go_on_refused_exactly : (q : Refusal) → ((1 ≤ r) × (refusal r 0 ≡ q)) ↔ First (going_tests image (state_from old-state) end) (some q)
  go_on_refused_exactly = face_turns.go_on_refuses image old-state end gone-on

  -- returns 0, or 21 to 25
  pub go_on_returns : (r ≡ 0) ⊎ ((21 ≤ r) × (r ≤ 25))
  go_on_returns = face_turns.go_on_numbers image old-state end gone-on

  -- a refusal leaves the start as it was
  pub go_on_refused_keeps : 1 ≤ r → start ≡ old-start
  go_on_refused_keeps = face_turns.go_on_keeps_start image old-state end gone-on

  -- 21, 23 and 24 leave every number of the record as it was
  pub go_on_keeps_the_record : length old-state ≡ number_count → (r ≡ 21) ⊎ ((r ≡ 23) ⊎ (r ≡ 24)) → state ≡ old-state
  go_on_keeps_the_record = face_turns.go_on_keeps_state image old-state end gone-on

  -- 22 and 25 leave all numbers of the record 0
  pub go_on_stops_the_record : (r ≡ 22) ⊎ (r ≡ 25) → state ≡ replicate number_count 0
  go_on_stops_the_record = face_turns.go_on_stops image old-state end gone-on

-- DEMAND 3: an image is accepted where `hv_begin` returned 0 (`begin_accepted_exactly`), and its timetable is the one that `hv_rebuild` writes
-- (`rebuild_writes_exactly`): the set and the timetable that are read from what it wrote are the ones behind the image, and there are no others

pub reads_exactly : (image old : List ℕ) {old-length l : ℕ} {w out : List ℕ} → Bytes image → Rebuilt image old old-length 0 w l out →
    (ts : Set) (τ : List Entry) → (read_timetable (take l out) ≡ gives (record { set = ts; entries = τ })) ↔ TableImage image ts τ
reads_exactly = face_images.reads_exactly

-- DEMAND 3, of every log of `hv_begin` and `hv_go_on` on such an image, with the set and the timetable behind it

module _ (image : List ℕ) (are-bytes : Bytes image) (ts : Set) (τ : List Entry) (accepted : TableImage image ts τ) where
  -- the timetable has as many entries as a cycle has jobs, and at least one
  pub entries_are_jobs : (length τ ≡ all_jobs (hyperperiod ts) ts) × (1 ≤ length τ)
  entries_are_jobs = book.entries_are_jobs image are-bytes ts τ accepted

  -- never stuck: `hv_begin` returned 0, and `hv_go_on` returns 0 for every honest end until all jobs of the last cycle have started
  pub begins : {number : ℕ} {old-start location start state : List ℕ} → Begun image old-start number location start state → number ≡ 0
  begins g = (begin_accepted_exactly g are-bytes).1 (ts, τ, accepted)

  pub never_stuck : {k number : ℕ} {start state old-start start' state' : List ℕ} → Log image ts k start state → suc k < all_starts τ → (end : ℕ) →
      Honest ts start end → GoneOn image state end old-start number start' state' → number ≡ 0
  never_stuck log lt end honest g = (goes_on image are-bytes ts τ accepted lt (logged image are-bytes ts τ accepted log (omega arith)) end honest g).0

  -- the start told after k honest ends is the next entry, moved by whole hyperperiods: k mod length of cycle k / length
  pub serves : {k : ℕ} {start state : List ℕ} → Log image ts k start state → k < all_starts τ →
      start
      ≡ (entry_at τ (k % length τ)).task
      ∷ job_at τ (k % length τ)
      ∷ (k / length τ)
      ∷ (k / length τ * hyperperiod ts + (entry_at τ (k % length τ)).start)
      ∷ []
  serves log lt =
      let b = logged image are-bytes ts τ accepted log lt in
      b.its_start ∙ ap (λ (t : Told). t.values) (book.serves image are-bytes ts τ accepted b.log lt)

  -- it is released
  pub released : {k : ℕ} {start state : List ℕ} → Log image ts k start state → k < all_starts τ →
      slot start 2 * hyperperiod ts + release (task ts (slot start 0)) (slot start 1) ≤ slot start 3
  released log lt =
      let b = logged image are-bytes ts τ accepted log lt in rw b.its_start (book.released image are-bytes ts τ accepted b.log lt)

  -- and inside its deadline
  pub in_time : {k : ℕ} {start state : List ℕ} → Log image ts k start state → k < all_starts τ →
      slot start 3 + (task ts (slot start 0)).time ≤ slot start 2 * hyperperiod ts + due (task ts (slot start 0)) (slot start 1)
  in_time log lt =
      let b = logged image are-bytes ts τ accepted log lt in rw b.its_start (book.in_time image are-bytes ts τ accepted b.log lt)

  -- it is alone on the processor: not before the previous start + C, also across cycles
  pub alone : {k : ℕ} {start state start' state' : List ℕ} → Log image ts k start state → Log image ts (suc k) start' state' → suc k < all_starts τ →
      slot start 3 + (task ts (slot start 0)).time ≤ slot start' 3
  alone log log' lt =
      let b = logged image are-bytes ts τ accepted log (omega arith) in
      let b' = logged image are-bytes ts τ accepted log' lt in
      rw (b.its_start, b'.its_start) (book.alone image are-bytes ts τ accepted b.log b'.log lt)

  -- the starts don't depend on the reported ends
  pub starts_do_not_depend_on_ends : {k : ℕ} {start state start' state' : List ℕ} → Log image ts k start state → Log image ts k start' state' →
      k < all_starts τ → start ≡ start'
  starts_do_not_depend_on_ends log log' lt = same (serves log lt) (serves log' lt)

  -- an end before the start returns 21 and leaves the start and the state's numbers as they were, so that the call can be made again
  pub too_early_refused : {k number : ℕ} {start state old-start start' state' : List ℕ} → Log image ts k start state → k < all_starts τ → (end : ℕ) →
      end < slot start 3 → GoneOn image state end old-start number start' state' → (number ≡ 21) × (start' ≡ old-start) × (state' ≡ state)
  too_early_refused log lt = stays image are-bytes ts τ accepted lt (logged image are-bytes ts τ accepted log lt)

  -- after the last start of the last cycle an honest end returns 24 and leaves them as they were, so that it does so however often
  pub after_the_last : {k number : ℕ} {start state old-start start' state' : List ℕ} → Log image ts k start state → suc k ≡ all_starts τ → (end : ℕ) →
      Honest ts start end → GoneOn image state end old-start number start' state' → (number ≡ 24) × (start' ≡ old-start) × (state' ≡ state)
  after_the_last log last = ends image are-bytes ts τ accepted last (logged image are-bytes ts τ accepted log (omega arith))

  -- not vacuous: there is a log for every start
  pub logs_exist : (k : ℕ) → k < all_starts τ → (start : List ℕ) × (state : List ℕ) × Log image ts k start state
  logs_exist = a_log image are-bytes ts τ accepted

  -- and after all but the first one a call that reports the end 0 is such a call, refused with 21
  pub early_calls_exist : {k : ℕ} {start state : List ℕ} → Log image ts (suc k) start state → suc k < all_starts τ → (old-start : List ℕ) →
      (0 < slot start 3) × GoneOn image state 0 old-start 21 old-start state
  early_calls_exist = an_early_call image are-bytes ts τ accepted
