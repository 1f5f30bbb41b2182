-- Framing turn by turn: each way that one record can go, and that no answer depends on the number of turns. Assumes nothing.
use mathlib.Core.Path.{◌≡◌, refl, subst}
use mathlib.Core.Logic.{◌⊎◌, inl, inr}
use mathlib.Core.List.{List}
use mathlib.Core.Option.{none, some}
use Prim.Native.Nat.{ℕ, zero, suc, ◌+◌, ◌≤◌, ◌<◌}
use native.Mathlib.Omega.{arith}
use lib.Dec.{leb}
use lib.ListN.{length, drop, length-drop}
use borrow.Author.Tests.{leb-true, leb-false, le-leb, lt-leb, eq-eqb, ne_eqb}
use Rattle.rules.specs.declared.Place.{Place}
use Rattle.rules.specs.declared.Layout.{Layout}
use Rattle.rules.specs.declared.Refusal.{Refusal}
use Rattle.rules.specs.Refusals.{Judged, gives, refuses, refusal}
use Rattle.rules.specs.Priority.{slot}
use Rattle.rules.specs.Marks.{Mark, TS, TK, SL, ID, PV, EN, row, size, values}
use Rattle.rules.specs.Framing.{layout_at, Next, goes_on, ends, mark_at, head_fault, after_head, after_task, after_later, after, frame_from, frame_records}
use Rattle.rules.proofs.Cases.{by_bool, by_option, by_eq}

-- a case split that keeps the equation
by_next : {A : Type 0} (x : Next) → ((t : Place) → x ≡ goes_on t → A) → ((z : Judged Layout) → x ≡ ends z → A) → A
by_next (goes_on t) p q = p t refl
by_next (ends z) p q = q z refl

-- what is counted behind a record between the tasks and EN, by its class: one more that is listed, or one more inversion
pub data Counts (s : Place) (m : Mark) : ℕ → ℕ → Type 0 where
  one_listed : (m ≡ SL) ⊎ (m ≡ ID) → Counts s m (suc s.listed) s.inversions
  one_inversion : m ≡ PV → Counts s m s.listed (suc s.inversions)

-- one more record is counted, and none fewer that is listed
pub counted : {s : Place} {m : Mark} {listed inversions : ℕ} → Counts s m listed inversions →
    (listed + inversions ≡ suc (s.listed + s.inversions)) × (s.listed ≤ listed)
counted (one_listed e) = (omega arith, omega arith)
counted (one_inversion e) = (omega arith, omega arith)

-- what a record with an allowed mark leads to: a place to go on from, a layout, or a refusal of TS or EN
pub data After (kind : ℕ) (s : Place) : Mark → List ℕ → Next → Type 0 where
  past_head : {v : List ℕ} → head_fault kind s.index v ≡ none → After kind s TS v (goes_on (after_head TS s v))
  bad_head : {v : List ℕ} {r : Refusal} → head_fault kind s.index v ≡ some r → After kind s TS v (ends (refuses r))
  past_task : {v : List ℕ} → After kind s TK v (goes_on (after_task TK s))
  past_later : {m : Mark} {v : List ℕ} {listed inversions : ℕ} → 2 ≤ (row m).rank → (row m).rank < (row EN).rank → Counts s m listed inversions →
      After kind s m v (goes_on (after_later m s listed inversions))
  past_end : {v : List ℕ} → slot v 0 ≡ s.index → After kind s EN v (ends (gives (layout_at EN s)))
  bad_end : {v : List ℕ} → (slot v 0 ≡ s.index → ⊥) → After kind s EN v (ends (refuses (refusal 10 s.index)))

-- every record leads to one of these
after_is : (kind : ℕ) (s : Place) (m : Mark) (v : List ℕ) → After kind s m v (after kind s m v)
after_is kind s TS v = by_option (head_fault kind s.index v) (λ e. rw e (past_head e)) (λ r e. rw e (bad_head e))
after_is kind s TK v = past_task
after_is kind s SL v = past_later {m = SL} (omega arith) (omega arith) (one_listed (inl refl))
after_is kind s ID v = past_later {m = ID} (omega arith) (omega arith) (one_listed (inr refl))
after_is kind s PV v = past_later {m = PV} (omega arith) (omega arith) (one_inversion refl)
after_is kind s EN v = by_eq (slot v 0) s.index (λ e. rw (eq-eqb _ _ e) (past_end e)) (λ n. rw (ne_eqb _ _ n) (bad_end n))

-- and so to what it is known to lead to
pub by_after : (kind : ℕ) (s : Place) (m : Mark) (v : List ℕ) {x : Next} → after kind s m v ≡ x → After kind s m v x
by_after kind s m v e = subst (After kind s m v) e (after_is kind s m v)

-- a record that framing goes on behind moves the index by one and the offset by its bytes
pub moves : {kind : ℕ} {s : Place} {m : Mark} {v : List ℕ} {t : Place} → After kind s m v (goes_on t) →
    (t.index ≡ suc s.index) × (t.offset ≡ s.offset + size m)
moves (past_head h) = (refl, refl)
moves past_task = (refl, refl)
moves (past_later l e c) = (refl, refl)

-- a whole record with an allowed mark stands at the front
pub record WholeAllowed (kind : ℕ) (s : Place) (bytes : List ℕ) (m : Mark) : Type 0 where
  pub marked : mark_at kind s bytes ≡ some m
  pub not_cut : size m ≤ length bytes

-- how framing from a place comes to its answer: fewer than two bytes left, no allowed mark, a cut body, or a whole record that ends framing or goes on
pub data Frames (kind : ℕ) : Place → List ℕ → Judged Layout → Type 0 where
  too_short : {s : Place} {bytes : List ℕ} → length bytes < 2 → Frames kind s bytes (refuses (refusal 1 s.index))
  unmarked : {s : Place} {bytes : List ℕ} → 2 ≤ length bytes → mark_at kind s bytes ≡ none → Frames kind s bytes (refuses (refusal 2 s.index))
  cut_off : {s : Place} {bytes : List ℕ} {m : Mark} → 2 ≤ length bytes → mark_at kind s bytes ≡ some m → length bytes < size m →
      Frames kind s bytes (refuses (refusal 1 s.index))
  stops : {s : Place} {bytes : List ℕ} {m : Mark} {z : Judged Layout} → WholeAllowed kind s bytes m → after kind s m (values m bytes) ≡ ends z →
      Frames kind s bytes z
  goes : {s t : Place} {bytes : List ℕ} {m : Mark} {z : Judged Layout} → WholeAllowed kind s bytes m → after kind s m (values m bytes) ≡ goes_on t →
      Frames kind t (drop (size m) bytes) z → Frames kind s bytes z

-- with enough turns, framing comes to its answer in one of these ways
frames_from : (turns kind : ℕ) (s : Place) (bytes : List ℕ) → length bytes < turns → Frames kind s bytes (frame_from turns kind s bytes)
frames_from zero kind s bytes h = absurd (omega arith)
frames_from (suc turns) kind s bytes h =
    by_bool (leb 2 (length bytes))
    (λ two. by_option (mark_at kind s bytes) (λ e. rw (two, e, frame_from) (unmarked (leb-true _ _ two) e))
    (λ m e. by_bool (leb (size m) (length bytes))
    (λ w.
    let here : WholeAllowed kind s bytes m = record { marked = e; not_cut = leb-true _ _ w } in
    by_next (after kind s m (values m bytes))
    (λ t a. rw (two, e, w, a, frame_from) (goes here a (frames_from turns kind t (drop (size m) bytes) (omega (arith, length-drop (size m) bytes)))))
    (λ z a. rw (two, e, w, a, frame_from) (stops here a)))
    (λ w. rw (two, e, w, frame_from) (cut_off (leb-true _ _ two) e (leb-false _ _ w)))))
    (λ two. rw (two, frame_from) (too_short (leb-false _ _ two)))

-- so does framing up to EN
pub frames : (kind : ℕ) (s : Place) (bytes : List ℕ) → Frames kind s bytes (frame_records kind s bytes)
unfolding frame_records
frames kind s bytes = frames_from (suc (length bytes)) kind s bytes (omega arith)

-- what is come to in these ways is the answer in any number of turns that is enough
from_frames : {kind : ℕ} {s : Place} {bytes : List ℕ} {z : Judged Layout} → Frames kind s bytes z → (turns : ℕ) → length bytes < turns →
    frame_from turns kind s bytes ≡ z
from_frames f zero h = absurd (omega arith)
from_frames (too_short {bytes = bytes} l) (suc turns) h = rw (lt-leb 2 (length bytes) l, frame_from)
from_frames (unmarked {bytes = bytes} l e) (suc turns) h = rw (le-leb 2 (length bytes) l, e, frame_from)
from_frames (cut_off {bytes = bytes} {m = m} l e c) (suc turns) h = rw (le-leb 2 (length bytes) l, e, lt-leb (size m) (length bytes) c, frame_from)
from_frames (stops {bytes = bytes} {m = m} w a) (suc turns) h =
    rw (le-leb 2 (length bytes) (omega (arith, w.not_cut)), w.marked, le-leb (size m) (length bytes) w.not_cut, a, frame_from)
from_frames {kind = kind} {s = s} {bytes = bytes} {z = z} (goes {t = t} {m = m} w a f) (suc turns) h =
    rw (le-leb 2 (length bytes) (omega (arith, w.not_cut)), w.marked, le-leb (size m) (length bytes) w.not_cut, a, frame_from)
    (from_frames {s = t} f turns (omega (arith, w.not_cut, length-drop (size m) bytes)))

-- and the answer of framing up to EN
pub framed : {kind : ℕ} {s : Place} {bytes : List ℕ} {z : Judged Layout} → Frames kind s bytes z → frame_records kind s bytes ≡ z
unfolding frame_records
framed {bytes = bytes} f = from_frames f (suc (length bytes)) (omega arith)

-- no answer depends on the number of turns
pub frame_enough : (turns kind : ℕ) (s : Place) (bytes : List ℕ) → length bytes < turns → frame_from turns kind s bytes ≡ frame_records kind s bytes
frame_enough turns kind s bytes h = from_frames (frames kind s bytes) turns h

module _ (kind : ℕ) (s : Place) (bytes : List ℕ) where
  -- fewer than two bytes left
  pub frame_too_short : length bytes < 2 → frame_records kind s bytes ≡ refuses (refusal 1 s.index)
  frame_too_short h = framed (too_short h)

  -- no allowed mark
  pub frame_unmarked : 2 ≤ length bytes → mark_at kind s bytes ≡ none → frame_records kind s bytes ≡ refuses (refusal 2 s.index)
  frame_unmarked h e = framed (unmarked h e)

  module _ (m : Mark) where
    -- a cut body
    pub frame_cut_off : 2 ≤ length bytes → mark_at kind s bytes ≡ some m → length bytes < size m →
        frame_records kind s bytes ≡ refuses (refusal 1 s.index)
    frame_cut_off h e c = framed (cut_off h e c)

    -- a whole record that ends framing
    pub frame_stops : (z : Judged Layout) → WholeAllowed kind s bytes m → after kind s m (values m bytes) ≡ ends z → frame_records kind s bytes ≡ z
    frame_stops z w a = framed (stops w a)

    -- a whole record behind which framing goes on
    pub frame_goes : (t : Place) → WholeAllowed kind s bytes m → after kind s m (values m bytes) ≡ goes_on t →
        frame_records kind s bytes ≡ frame_records kind t (drop (size m) bytes)
    frame_goes t w a = framed (goes w a (frames kind t (drop (size m) bytes)))
