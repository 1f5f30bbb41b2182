-- A walk over the SL records of a timetable's image: each whole one leads to the next place of framing, and where none stands, the image lists no more.
-- Assumes nothing.
use mathlib.Core.Path.{◌≡◌, refl, sym, ◌∙◌, ap}
use mathlib.Core.Logic.{inl, inr}
use mathlib.Core.Bool.{true, false}
use mathlib.Core.List.{List}
use Prim.Native.Nat.{ℕ, suc, ◌≤◌}
use native.Mathlib.Omega.{arith}
use borrow.Author.Tests.{le-leb, eq-eqb}
use lib.ListN.{length, drop}
use Rattle.rules.specs.declared.Place.{Place}
use Rattle.rules.specs.declared.Layout.{Layout}
use Rattle.rules.specs.Refusals.{Judged, gives}
use Rattle.rules.specs.Marks.{Mark, TS, TK, SL, row, size, values}
use Rattle.rules.specs.Framing.{after_later, goes_on, ends, Allowed, frame_records, frame}
use Rattle.rules.proofs.Cases.{differ, both_in}
use Rattle.rules.proofs.Marked.{due_turn, found_allowed}
use Rattle.rules.proofs.FramingTurns as turns
use Rattle.rules.proofs.Shapes.{in_later_turn}
use Rattle.images.specs.Table.{stands_at}
use Rattle.framing.specs.Frames.{Reached}
use Rattle.framing.proofs.Runs.{past_record}
use Rattle.framing.proofs.FromPlace.{frame_given, ended_at, listed_from}

-- where no SL stands, no record of a timetable goes on behind the tasks
none_after : {s : Place} {m : Mark} {v : List ℕ} {t : Place} (rest : List ℕ) → 2 ≤ s.rank → (m ≡ SL → ⊥) → Allowed 1 s rest m →
    turns.After 1 s m v (goes_on t) → ⊥
none_after {s = s} rest behind other a (turns.past_head e) = omega (arith, due_turn s.rank (row TS).rank (omega arith) a.its_turn)
none_after {s = s} rest behind other a turns.past_task = omega (arith, due_turn s.rank (row TK).rank (omega arith) a.its_turn)
none_after rest behind other a (turns.past_later l e (turns.one_listed (inl is))) = other is
none_after rest behind other a (turns.past_later l e (turns.one_listed (inr is))) = differ (sym (rw is at a.of_kind))
none_after rest behind other a (turns.past_later l e (turns.one_inversion is)) = differ (sym (rw is at a.of_kind))

-- so the layout lists what the place lists
none_from : {s : Place} {bytes : List ℕ} {z : Judged Layout} → turns.Frames 1 s bytes z → (l : Layout) → z ≡ gives l → 2 ≤ s.rank →
    (size SL ≤ length bytes → Allowed 1 s bytes SL → ⊥) → l.listed ≡ s.listed
none_from (turns.too_short c) l e behind other = cc
none_from (turns.unmarked c d) l e behind other = cc
none_from (turns.cut_off c d f) l e behind other = cc
none_from (turns.stops {s = s} {bytes = bytes} {m = m} w a) l e behind other =
    (ended_at (turns.by_after 1 s m (values m bytes) (a ∙ ap ends e))).1
none_from (turns.goes {s = s} {bytes = bytes} {m = m} w a f) l e behind other =
    let here = found_allowed 1 s bytes m w.marked in
    absurd (none_after bytes behind (λ is. other (rw is at w.not_cut) (rw is at here)) here (turns.by_after 1 s m (values m bytes) a))

-- a place behind the tasks of a timetable's image, where an SL may stand
module _ {bytes : List ℕ} {s : Place} (re : Reached 1 bytes s) (behind : 2 ≤ s.rank) (low : s.rank ≤ (row SL).rank) where
  -- the bytes from the place on
  abbrev rest : List ℕ
  rest = drop s.offset bytes

  -- the image is framed as it is from the place on
  from_here : (l : Layout) → frame 1 bytes ≡ gives l → frame_records 1 s rest ≡ gives l
  from_here l e = sym re.same ∙ frame_given 1 bytes l e

  -- framing comes to the place behind an entry
  abbrev behind_entry : Place
  behind_entry = after_later SL s (suc s.listed) s.inversions

  past_entry : stands_at bytes s.offset SL ≡ true → Reached 1 bytes behind_entry
  past_entry e = past_record SL re refl (in_later_turn s.rank (row SL).rank behind low) e behind_entry refl

  -- behind which one more is listed
  pub entry_counted : stands_at bytes s.offset SL ≡ true → (l : Layout) → frame 1 bytes ≡ gives l → suc s.listed ≤ l.listed
  entry_counted e l g =
      let f : frame_records 1 behind_entry (drop behind_entry.offset bytes) ≡ gives l = sym (past_entry e).same ∙ frame_given 1 bytes l g in
      (listed_from (turns.frames 1 behind_entry (drop behind_entry.offset bytes)) l f (omega arith)).1

  -- where none stands, no more is listed
  pub no_entry_more : stands_at bytes s.offset SL ≡ false → (l : Layout) → frame 1 bytes ≡ gives l → l.listed ≡ s.listed
  unfolding stands_at
  no_entry_more e l g =
      none_from (turns.frames 1 s rest) l (from_here l g) behind
      (λ whole a. differ
      (sym (both_in _ _ (le-leb (size SL) (length rest) whole)
      (both_in _ _ (eq-eqb _ _ a.first_byte) (eq-eqb _ _ a.second_byte))) ∙ e))

  -- the image has the tasks of the place
  pub same_tasks : (l : Layout) → frame 1 bytes ≡ gives l → l.tasks ≡ s.tasks
  same_tasks l g = (listed_from (turns.frames 1 s rest) l (from_here l g) behind).0
