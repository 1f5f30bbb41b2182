-- The image at the front of bytes: framing looks no further than the record that decides it, so that what follows is left alone. Assumes nothing.
use mathlib.Core.Path.{◌≡◌, refl, sym, ◌∙◌, ap}
use mathlib.Core.List.{List, [], ◌∷◌, ◌++◌}
use Prim.Native.Nat.{ℕ, ◌+◌, ◌≤◌}
use native.Mathlib.Omega.{arith}
use lib.ListN.{length, take, drop, length-append, length-drop, length-take}
use lib.IntN.{ℤ}
use lib.Seq.{take-append-le, drop-append-le, take_at}
use Rattle.fields.specs.Number.{Bytes}
use Rattle.fields.specs.Body.{total, values_in}
use Rattle.rules.specs.declared.Place.{Place}
use Rattle.rules.specs.declared.Layout.{Layout}
use Rattle.rules.specs.declared.Refusal.{Refusal}
use Rattle.rules.specs.Refusals.{Judged, gives, refuses, refusal, then}
use Rattle.rules.specs.Marks.{Mark, row, size, front_mark, values}
use Rattle.rules.specs.Image.{image}
use Rattle.rules.specs.Framing.{start_place, if_allowed, ends, after, frame_records, frame}
use Rattle.rules.specs.Located.{located, Begins, at_the_front, behind_a_record}
use Rattle.rules.specs.Operations.{Timed, rebuilt}
use Rattle.rules.specs.Axis.{front_by, front, figures_in, measured}
use Rattle.rules.proofs.Cases.{clash, by_judged}
use Rattle.rules.proofs.FramingTurns.{by_after, moves, WholeAllowed, Frames, too_short, unmarked, cut_off, stops, goes, frames, framed}
use Rattle.rules.proofs.Framed.{parsed, runs_ended, frame_runs, last_ended}
use Rattle.rules.proofs.RecordOffsets.{begins_offset, framing_begins}

-- the values of a whole body do not depend on what follows it
values_more : (ws bytes rest : List ℕ) → total ws ≤ length bytes → values_in ws (bytes ++ rest) ≡ values_in ws bytes
values_more [] bytes rest l = refl
values_more (w ∷ ws) bytes rest l =
    rw (take-append-le w bytes rest (omega arith), drop-append-le w bytes rest (omega arith), values_more ws (drop w bytes) rest (omega (arith, length-drop w bytes)))

-- nor does a mark
mark_more : (bytes rest : List ℕ) → 2 ≤ length bytes → front_mark (bytes ++ rest) ≡ front_mark bytes
mark_more [] rest l = absurd (omega arith)
mark_more (a ∷ []) rest l = absurd (omega arith)
mark_more (a ∷ b ∷ bytes) rest l = refl

module _ (m : Mark) (bytes rest : List ℕ) (l : size m ≤ length bytes) where
  record_more : values m (bytes ++ rest) ≡ values m bytes
  record_more =
      ap (values_in (row m).widths) (drop-append-le 2 bytes rest (omega arith))
      ∙ values_more (row m).widths (drop 2 bytes) rest (omega (arith, length-drop 2 bytes))

  whole_more : {kind : ℕ} {s : Place} → WholeAllowed kind s bytes m → WholeAllowed kind s (bytes ++ rest) m
  whole_more {kind} {s} w = record {
    marked = ap (if_allowed kind s) (mark_more bytes rest (omega arith)) ∙ w.marked;
    not_cut = omega (arith, length-append bytes rest);
  }

-- an answer that is not 1 does not depend on what follows
frames_more : {kind : ℕ} {s : Place} {bytes : List ℕ} {z : Judged Layout} → Frames kind s bytes z → (rest : List ℕ) →
    ((place : ℕ) → z ≡ refuses (refusal 1 place) → ⊥) → Frames kind s (bytes ++ rest) z
frames_more (too_short {s = s} l) rest n = absurd (n s.index refl)
frames_more {kind} (unmarked {s = s} {bytes = bytes} l e) rest n =
    unmarked {bytes = bytes ++ rest} (omega (arith, length-append bytes rest)) (ap (if_allowed kind s) (mark_more bytes rest l) ∙ e)
frames_more (cut_off {s = s} l e c) rest n = absurd (n s.index refl)
frames_more {kind} (stops {s = s} {bytes = bytes} {m = m} w a) rest n =
    stops (whole_more m bytes rest w.not_cut w) (ap (after kind s m) (record_more m bytes rest w.not_cut) ∙ a)
frames_more {kind} (goes {s = s} {t = t} {bytes = bytes} {m = m} {z = z} w a f) rest n =
    let behind : Frames kind t (drop (size m) (bytes ++ rest)) z = rw (drop-append-le (size m) bytes rest w.not_cut) (frames_more f rest n) in
    goes (whole_more m bytes rest w.not_cut w) (ap (after kind s m) (record_more m bytes rest w.not_cut) ∙ a) behind

-- EN ends inside the bytes
ended_inside : {kind : ℕ} {s : Place} {bytes : List ℕ} {z : Judged Layout} → Frames kind s bytes z → (l : Layout) → z ≡ gives l →
    l.ended ≤ s.offset + length bytes
ended_inside (too_short c) l e = clash (cc)
ended_inside (unmarked c d) l e = clash (cc)
ended_inside (cut_off c d f) l e = clash (cc)
ended_inside {kind} (stops {s = s} {bytes = bytes} {m = m} w a) l e =
    omega (arith, last_ended {l = l} (by_after kind s m (values m bytes) (a ∙ ap ends e)), w.not_cut)
ended_inside {kind} (goes {s = s} {bytes = bytes} {m = m} w a f) l e =
    omega (arith, ended_inside f l e, (moves (by_after kind s m (values m bytes) a)).1, length-drop (size m) bytes, w.not_cut)

-- records that stand before a byte still do
begins_more : {bytes : List ℕ} {j at : ℕ} → Begins bytes j at → (rest : List ℕ) → Begins (bytes ++ rest) j at
begins_more at_the_front rest = at_the_front
begins_more {bytes} (behind_a_record {at = at} m b e w) rest =
    let behind = drop-append-le at bytes rest (omega arith) in
    behind_a_record m (begins_more b rest) (ap front_mark behind ∙ mark_more (drop at bytes) rest (omega (arith, length-drop at bytes)) ∙ e)
    (omega (arith, length-append bytes rest))

-- bytes that are not framed up to EN are refused as a whole
pub refused_whole : (bytes : List ℕ) (r : Refusal) → frame_records 2 start_place bytes ≡ refuses r → (frame 2 bytes ≡ refuses r) × (front bytes ≡ bytes)
unfolding front
refused_whole bytes r e = (rw e, rw e)

refused_measured : (bytes : List ℕ) (r : Refusal) → frame_records 2 start_place bytes ≡ refuses r → measured bytes ≡ refuses r
refused_measured bytes r e = let w = refused_whole bytes r e in rw (w.1, w.0)

-- the image at the front of bytes that are framed up to EN
module _ (bytes : List ℕ) (l : Layout) (e : frame_records 2 start_place bytes ≡ gives l) where
  pub front_taken : front bytes ≡ take l.ended bytes
  unfolding front
  front_taken = ap (λ (z : Judged Layout). front_by z bytes) e

  pub front_ended : l.ended ≤ length bytes
  front_ended = omega (arith, ended_inside (frames 2 start_place bytes) l e)

  -- it is framed with nothing behind it
  pub front_framed : Bytes bytes → frame 2 (front bytes) ≡ gives l
  front_framed b =
      let p = parsed (frames 2 start_place bytes) l e b in
      let its_end : length (image p.records) ≡ l.ended = omega (arith, runs_ended p.run) in
      let taken : take l.ended bytes ≡ image p.records = ap (take l.ended) p.is ∙ take_at (image p.records) p.rest l.ended its_end in
      ap (frame 2) (front_taken ∙ taken) ∙ frame_runs 2 p.records l p.run

  front_more : (rest : List ℕ) → front (bytes ++ rest) ≡ front bytes
  unfolding front
  front_more rest =
      let more = framed (frames_more (rw e at (frames 2 start_place bytes)) rest (λ p u. clash (cc))) in
      ap (λ (z : Judged Layout). front_by z (bytes ++ rest)) more ∙ take-append-le l.ended bytes rest front_ended ∙ sym front_taken

-- it lies inside the bytes
pub front_inside : (bytes : List ℕ) → length (front bytes) ≤ length bytes
front_inside bytes =
    by_judged (frame_records 2 start_place bytes)
    (λ l e. rw (front_taken bytes l e) (omega (arith, length-take l.ended bytes)))
    (λ r e. rw (refused_whole bytes r e).1 (omega arith))

-- and is not empty where it has figures
some_bytes : (bytes : List ℕ) (fs : List ℤ) → then (rebuilt bytes) (λ (i : Timed). gives (figures_in i)) ≡ gives fs → 1 ≤ length bytes
unfolding frame_records
some_bytes [] fs e = clash (cc)
some_bytes (a ∷ bytes) fs e = omega arith

pub front_some : (bytes : List ℕ) (fs : List ℤ) → measured bytes ≡ gives fs → 1 ≤ length (front bytes)
front_some bytes fs e = some_bytes (front bytes) fs e

-- what follows an image does not change what is told of it, unless a byte is needed that is not there
pub record FrontsMore (bytes rest : List ℕ) : Type 0 where
  pub same : measured (bytes ++ rest) ≡ measured bytes
  pub same_front : (fs : List ℤ) → measured bytes ≡ gives fs → front (bytes ++ rest) ≡ front bytes
  pub same_located : (r : Refusal) → measured bytes ≡ refuses r → located (front (bytes ++ rest)) r ≡ located (front bytes) r

pub fronts_more : (bytes rest : List ℕ) → ((place : ℕ) → measured bytes ≡ refuses (refusal 1 place) → ⊥) → FrontsMore bytes rest
fronts_more bytes rest n =
    by_judged (frame_records 2 start_place bytes)
    (λ l e.
    let f = front_more bytes l e rest in
    record {
      same = ap (λ (image : List ℕ). then (rebuilt image) (λ (i : Timed). gives (figures_in i))) f;
      same_front = λ fs u. f;
      same_located = λ r u. ap (λ (image : List ℕ). located image r) f;
    })
    (λ r e.
    let m = refused_measured bytes r e in
    let e' : frame_records 2 start_place (bytes ++ rest) ≡ refuses r =
    framed (frames_more (rw e at (frames 2 start_place bytes)) rest (λ p u. n p (m ∙ ap refuses (cc)))) in
    let m' = refused_measured (bytes ++ rest) r e' in
    let here = refused_whole bytes r e in
    let there = refused_whole (bytes ++ rest) r e' in
    record {
      same = m' ∙ sym m;
      same_front = λ fs u. clash (cc);
      same_located = λ q u.
          (let same : r ≡ q = cc in
          let at = begins_offset (begins_more (framing_begins 2 bytes r here.0) rest) in
          rw (here.1, there.1, ← same, at));
    })
