-- However an input is cut into pieces, the drive over them writes the report of the whole; and what the turns write up to a read that fails is the front of
-- the report, whatever would have come. Assumes nothing.
use mathlib.Core.Path.{◌≡◌, refl, sym, ◌∙◌, ap}
use mathlib.Core.Bool.{true, false}
use mathlib.Core.List.{List, [], ◌∷◌, ◌++◌, append_assoc, append-nil}
use Prim.Native.Nat.{ℕ, zero, suc, ◌+◌, ◌<◌}
use native.Mathlib.Omega.{arith}
use lib.ListN.{length, drop, length-append, length-drop}
use lib.Seq.{drop-append-le}
use Rattle.rules.proofs.Cases.{clash, differ}
use Rattle.reporting.specs.Report.{waits, goes_on, stops, turn, report_in, joined, drive}
use Rattle.reporting.specs.Turns.{written}
use Rattle.reporting.proofs.NoFurther.{by_turn, Goes, turn_goes, turn_waits, no_further}

-- a turn of the report over bytes that are held and what follows them: as over those that are held, where that does not wait
module _ (held behind : List ℕ) (images : ℕ) where
  stops_same : (text : List ℕ) → turn held true images ≡ stops text → turn (held ++ behind) false images ≡ stops text
  stops_same text e = no_further held behind false images (λ w. clash (cc)) ∙ e

  goes_same : (text : List ℕ) (used : ℕ) → turn held true images ≡ goes_on text used → turn (held ++ behind) false images ≡ goes_on text used
  goes_same text used e = no_further held behind false images (λ w. clash (cc)) ∙ e

  -- what is left then is fewer bytes
  module _ (used : ℕ) (g : Goes held images used) where
    rest_is : drop used (held ++ behind) ≡ drop used held ++ behind
    rest_is = drop-append-le used held behind g.inside

    fewer : length (drop used held ++ behind) < length (held ++ behind)
    fewer = omega (arith, g.some, g.inside, length-append (drop used held) behind, length-append held behind, length-drop used held)

-- once the end is known
ended_is : (turns fuel : ℕ) (held : List ℕ) (images : ℕ) → length held < turns → length held < fuel →
    drive turns held [] false images ≡ report_in fuel held images
ended_is zero fuel held images l k = absurd (omega arith)
ended_is (suc turns) zero held images l k = absurd (omega arith)
ended_is (suc turns) (suc fuel) held images l k =
    by_turn (turn held false images) (λ e. differ (sym (turn_waits held false images e).0))
    (λ text used e.
    let g = turn_goes held false images text used e in
    let less : length (drop used held) < length held = omega (arith, g.some, g.inside, length-drop used held) in
    rw (e, drive, report_in) (ap (λ (x : List ℕ). text ++ x) (ended_is turns fuel (drop used held) (suc images) (omega arith) (omega arith))))
    (λ text e. rw (e, drive, report_in))

-- bytes and pieces that are left bound the turns
abbrev pub left : List ℕ → List (List ℕ) → ℕ
left held pieces = length (held ++ joined pieces) + length pieces + 1

-- so many turns over pieces write what so much of the report has
abbrev pub DriveIs : ℕ → ℕ → ℕ → List ℕ → List (List ℕ) → Type 0
DriveIs turns fuel images held pieces =
    left held pieces < turns → length (held ++ joined pieces) < fuel → drive turns held pieces true images ≡ report_in fuel (held ++ joined pieces) images

-- where a turn waits, a piece more is held, or the end is known
waits_is : (turns fuel : ℕ) (held : List ℕ) (pieces : List (List ℕ)) (images : ℕ) → turn held true images ≡ waits →
    ((next : List ℕ) (rest : List (List ℕ)) → DriveIs turns fuel images next rest) → DriveIs (suc turns) fuel images held pieces
waits_is turns fuel held [] images e next l k =
    let all : held ++ [] ≡ held = append-nil held in
    rw (e, all, drive) (ended_is turns fuel held images (omega (arith, ap length all)) (omega (arith, ap length all)))
waits_is turns fuel held (piece ∷ pieces) images e next l k =
    let all : (held ++ piece) ++ joined pieces ≡ held ++ (piece ++ joined pieces) = append_assoc held piece (joined pieces) in
    rw (e, ← all, drive) (next (held ++ piece) pieces (omega (arith, ap length all)) (omega (arith, ap length all)))

pub drive_is : (turns fuel images : ℕ) (held : List ℕ) (pieces : List (List ℕ)) → DriveIs turns fuel images held pieces
drive_is zero fuel images held pieces l k = absurd (omega arith)
drive_is (suc turns) zero images held pieces l k = absurd (omega arith)
drive_is (suc turns) (suc fuel) images held pieces l k =
    by_turn (turn held true images) (λ e. waits_is turns (suc fuel) held pieces images e (drive_is turns (suc fuel) images) l k)
    (λ text used e.
    let behind = joined pieces in
    let g = turn_goes held true images text used e in
    let less = fewer held behind images used g in
    rw (e, goes_same held behind images text used e, rest_is held behind images used g, drive, report_in)
    (ap (λ (x : List ℕ). text ++ x) (drive_is turns fuel (suc images) (drop used held) pieces (omega arith) (omega arith))))
    (λ text e. rw (e, stops_same held (joined pieces) images text e, drive, report_in))

-- what so many turns write over pieces is the front of what so much of the report has, whatever follows
abbrev pub FrontOf : ℕ → ℕ → List ℕ → ℕ → List ℕ → List (List ℕ) → Type 0
FrontOf turns fuel behind images held pieces =
    length (held ++ (joined pieces ++ behind)) < fuel →
    (rest : List ℕ) × (report_in fuel (held ++ (joined pieces ++ behind)) images ≡ written turns held pieces images ++ rest)

waits_front : (turns fuel : ℕ) (behind held : List ℕ) (pieces : List (List ℕ)) (images : ℕ) → turn held true images ≡ waits →
    ((next : List ℕ) (rest : List (List ℕ)) → FrontOf turns fuel behind images next rest) → FrontOf (suc turns) fuel behind images held pieces
waits_front turns fuel behind held [] images e next k = rw (e, written) (report_in fuel (held ++ behind) images, refl)
waits_front turns fuel behind held (piece ∷ pieces) images e next k =
    let all : (held ++ piece) ++ (joined pieces ++ behind) ≡ held ++ ((piece ++ joined pieces) ++ behind) =
    append_assoc held piece (joined pieces ++ behind) ∙ ap (λ (x : List ℕ). held ++ x) (sym (append_assoc piece (joined pieces) behind)) in
    rw (e, ← all, written) (next (held ++ piece) pieces (omega (arith, ap length all)))

pub written_front : (turns fuel : ℕ) (behind : List ℕ) (images : ℕ) (held : List ℕ) (pieces : List (List ℕ)) → FrontOf turns fuel behind images held pieces
written_front zero fuel behind images held pieces k = (report_in fuel (held ++ (joined pieces ++ behind)) images, refl)
written_front (suc turns) zero behind images held pieces k = absurd (omega arith)
written_front (suc turns) (suc fuel) behind images held pieces k =
    let all = joined pieces ++ behind in
    by_turn (turn held true images)
    (λ e. waits_front turns (suc fuel) behind held pieces images e (written_front turns (suc fuel) behind images) k)
    (λ text used e.
    let g = turn_goes held true images text used e in
    let less = fewer held all images used g in
    let w = written_front turns fuel behind (suc images) (drop used held) pieces (omega arith) in
    rw (e, goes_same held all images text used e, rest_is held all images used g, report_in, written)
    (w.0, ap (λ (x : List ℕ). text ++ x) w.1 ∙ sym (append_assoc text (written turns (drop used held) pieces (suc images)) w.0)))
    (λ text e. rw (e, stops_same held all images text e, report_in, written) ([], sym (append-nil text)))
