-- Framing from a place on: behind the tasks it keeps their number and lists no fewer records than the place has, and it refuses no record before the
-- place. Assumes nothing.
use mathlib.Core.Path.{◌≡◌, refl, ◌∙◌, ap}
use mathlib.Core.Bool.{true}
use mathlib.Core.List.{List}
use Prim.Native.Nat.{ℕ, ◌≤◌}
use native.Mathlib.Omega.{arith}
use Rattle.rules.specs.declared.Place.{Place}
use Rattle.rules.specs.declared.Layout.{Layout}
use Rattle.rules.specs.declared.Refusal.{Refusal}
use Rattle.rules.specs.Refusals.{Judged, gives, refuses, or_else, unless}
use Rattle.rules.specs.Marks.{Mark, TS, TK, row, values}
use Rattle.rules.specs.Framing.{start_place, may_follow, goes_on, ends, nothing_follows, index_of_end, frame_records, frame}
use Rattle.rules.proofs.Cases.{then_gives, or_else_gives}
use Rattle.rules.proofs.Marked.{not_lower, due_turn, found_allowed}
use Rattle.rules.proofs.FramingTurns as turns
use Rattle.framing.proofs.PlaceLaws.{refused_place}

-- an image that is framed is framed up to EN, with that layout
pub frame_given : (kind : ℕ) (bytes : List ℕ) (l : Layout) → frame kind bytes ≡ gives l → frame_records kind start_place bytes ≡ gives l
frame_given kind bytes l e =
    then_gives (frame_records kind start_place bytes) (λ (k : Layout). or_else (unless (nothing_follows bytes k) 10 (index_of_end k)) (gives k)) l e
    (λ k u g. u ∙ (or_else_gives (unless (nothing_follows bytes k) 10 (index_of_end k)) (gives k) l g).1)

-- a record behind the tasks leaves their number, and takes no listed record back
listed_after : {kind : ℕ} {s : Place} {m : Mark} {v : List ℕ} {t : Place} → 2 ≤ s.rank → may_follow s.rank (row m).rank ≡ true →
    turns.After kind s m v (goes_on t) → (t.tasks ≡ s.tasks) × (s.listed ≤ t.listed) × (2 ≤ t.rank)
listed_after {s = s} behind turn (turns.past_head e) = absurd (omega (arith, due_turn s.rank (row TS).rank (omega arith) turn))
listed_after {s = s} behind turn turns.past_task = absurd (omega (arith, due_turn s.rank (row TK).rank (omega arith) turn))
listed_after {s = s} {m = m} behind turn (turns.past_later l e c) = (refl, omega (arith, turns.counted c), omega (arith, not_lower (row m)))

-- EN's layout is the place's
pub ended_at : {kind : ℕ} {s : Place} {m : Mark} {v : List ℕ} {l : Layout} → turns.After kind s m v (ends (gives l)) →
    (l.tasks ≡ s.tasks) × (l.listed ≡ s.listed)
ended_at (turns.past_end e) = (refl, refl)

-- so has the layout of what is framed from the place on
pub listed_from : {kind : ℕ} {s : Place} {bytes : List ℕ} {z : Judged Layout} → turns.Frames kind s bytes z → (l : Layout) → z ≡ gives l → 2 ≤ s.rank →
    (l.tasks ≡ s.tasks) × (s.listed ≤ l.listed)
listed_from (turns.too_short c) l e behind = cc
listed_from (turns.unmarked c d) l e behind = cc
listed_from (turns.cut_off c d f) l e behind = cc
listed_from {kind} (turns.stops {s = s} {bytes = bytes} {m = m} w a) l e behind =
    let r = ended_at (turns.by_after kind s m (values m bytes) (a ∙ ap ends e)) in
    (r.0, omega (arith, r.1))
listed_from {kind} (turns.goes {s = s} {bytes = bytes} {m = m} w a f) l e behind =
    let past = listed_after behind (found_allowed kind s bytes m w.marked).its_turn (turns.by_after kind s m (values m bytes) a) in
    let r = listed_from f l e past.2 in
    (r.0 ∙ past.0, omega (arith, r.1, past.1))

-- and a refusal is that of a record from the place on
pub refused_from : {kind : ℕ} {s : Place} {bytes : List ℕ} {z : Judged Layout} → turns.Frames kind s bytes z → (r : Refusal) → z ≡ refuses r →
    s.index ≤ r.place
refused_from (turns.too_short {s = s} c) r e = let here : s.index ≡ r.place = cc in omega arith
refused_from (turns.unmarked {s = s} c d) r e = let here : s.index ≡ r.place = cc in omega arith
refused_from (turns.cut_off {s = s} c d f) r e = let here : s.index ≡ r.place = cc in omega arith
refused_from {kind} (turns.stops {s = s} {bytes = bytes} {m = m} w a) r e =
    omega (arith, refused_place (turns.by_after kind s m (values m bytes) (a ∙ ap ends e)))
refused_from {kind} (turns.goes {s = s} {bytes = bytes} {m = m} w a f) r e =
    omega (arith, refused_from f r e, (turns.moves (turns.by_after kind s m (values m bytes) a)).0)
