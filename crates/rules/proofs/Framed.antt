-- Framed bytes are records: framing takes exactly the bytes of records that may stand one after the other up to EN, with nothing behind them.
-- Assumes nothing.
use mathlib.Core.Path.{◌≡◌, refl, sym, ◌∙◌, ap}
use mathlib.Core.Bool.{true}
use mathlib.Core.List.{List, [], ◌∷◌, ◌++◌, append_assoc, append-nil}
use Prim.Native.Nat.{ℕ, ◌+◌, ◌≤◌}
use native.Mathlib.Omega.{arith}
use lib.ListN.{length, get_or, drop, length-append, length-drop, take-append-drop}
use lib.Seq.{drop_at}
use borrow.Author.Tests.{leb-true, le-leb}
use Rattle.fields.specs.Number.{Bytes}
use Rattle.fields.specs.Body.{total, body, values_in, Fit}
use Rattle.fields.proofs.Laws.{bytes_append, bytes_drop}
use Rattle.fields.proofs.Bodies.{body_length, body_bytes, values_body, body_values, values_fit}
use Rattle.rules.specs.declared.Place.{Place}
use Rattle.rules.specs.declared.Layout.{Layout}
use Rattle.rules.specs.Refusals.{Judged, gives, or_else, unless}
use Rattle.rules.specs.Marks.{Mark, row, size, values}
use Rattle.rules.specs.Image.{Record, record_of, written, image}
use Rattle.rules.specs.Framing.{start_place, allowed, if_allowed, goes_on, ends, after, frame_records, index_of_end, nothing_follows, frame}
use Rattle.rules.proofs.Cases.{clash, then_gives, or_else_gives, unless_none, gives_in, both_in}
use Rattle.rules.proofs.Marked.{mark_found, mark_bytes, found_allowed}
use Rattle.rules.proofs.FramingTurns.{After, past_end, by_after, moves, WholeAllowed, Frames, too_short, unmarked, cut_off, stops, goes, frames, framed}

-- a record has the bytes of its mark and its body
pub written_length : (m : Mark) (v : List ℕ) → length (written (record_of m v)) ≡ size m
written_length m v = omega (arith, body_length (row m).widths v)

-- its values are read as they were written
pub values_written : (m : Mark) (v rest : List ℕ) → Fit (row m).widths v → values m (written (record_of m v) ++ rest) ≡ v
values_written m v rest f = values_body (row m).widths v rest f

-- what follows it stands behind it
pub behind_written : (m : Mark) (v rest : List ℕ) → drop (size m) (written (record_of m v) ++ rest) ≡ rest
behind_written m v rest = drop_at (body (row m).widths v) rest (total (row m).widths) (body_length (row m).widths v)

-- images are bytes
pub image_bytes : (rs : List Record) → Bytes (image rs)
image_bytes [] = tt
image_bytes (r ∷ rs) =
    let b = mark_bytes r.mark in
    bytes_append (written r) (image rs) (b.0, (b.1, body_bytes (row r.mark).widths r.values)) (image_bytes rs)

-- a record that may stand at a place
pub record Stands (kind : ℕ) (s : Place) (m : Mark) (v : List ℕ) : Type 0 where
  pub may : allowed kind s m ≡ true
  pub fits : Fit (row m).widths v

-- records from a place up to EN, and the layout that they have
pub data Runs (kind : ℕ) : Place → List Record → Layout → Type 0 where
  last : {s : Place} {m : Mark} {v : List ℕ} {l : Layout} → Stands kind s m v → after kind s m v ≡ ends (gives l) → Runs kind s (record_of m v ∷ []) l
  more : {s t : Place} {m : Mark} {v : List ℕ} {rs : List Record} {l : Layout} → Stands kind s m v → after kind s m v ≡ goes_on t → Runs kind t rs l →
      Runs kind s (record_of m v ∷ rs) l

-- a record that may stand at a place is framed there
stands_whole : {kind : ℕ} {s : Place} (m : Mark) (v rest : List ℕ) → Stands kind s m v → WholeAllowed kind s (written (record_of m v) ++ rest) m
stands_whole m v rest o = record {
  marked = rw (mark_found m, o.may, if_allowed);
  not_cut = omega (arith, length-append (written (record_of m v)) rest, written_length m v);
}

-- records that run are framed, whatever follows them
pub runs_frames : {kind : ℕ} {s : Place} {rs : List Record} {l : Layout} → Runs kind s rs l → (rest : List ℕ) → Frames kind s (image rs ++ rest) (gives l)
runs_frames {kind} (last {s = s} {m = m} {v = v} o e) rest =
    rw (append_assoc (written (record_of m v)) [] rest)
    (stops (stands_whole m v rest o) (ap (after kind s m) (values_written m v rest o.fits) ∙ e))
runs_frames {kind} (more {s = s} {t = t} {m = m} {v = v} {rs = rs} {l = l} o e w) rest =
    let more_bytes = image rs ++ rest in
    let behind : Frames kind t (drop (size m) (written (record_of m v) ++ more_bytes)) (gives l) =
    rw (behind_written m v more_bytes) (runs_frames w rest) in
    rw (append_assoc (written (record_of m v)) (image rs) rest)
    (goes (stands_whole m v more_bytes o) (ap (after kind s m) (values_written m v more_bytes o.fits) ∙ e) behind)

-- the bytes of a record that has its mark and its length
record_bytes : (m : Mark) (bytes : List ℕ) → Bytes bytes → size m ≤ length bytes → get_or bytes 0 0 ≡ (row m).byte₁ → get_or bytes 1 0 ≡ (row m).byte₂ →
    bytes ≡ written (record_of m (values m bytes)) ++ drop (size m) bytes
record_bytes m [] h l p q = absurd (omega arith)
record_bytes m (a ∷ []) h l p q = absurd (omega arith)
record_bytes m (a ∷ b ∷ bytes) h l p q =
    let ws : List ℕ = (row m).widths in
    let e : bytes ≡ body ws (values_in ws bytes) ++ drop (total ws) bytes =
    sym (take-append-drop (total ws) bytes) ∙ ap (λ (x : List ℕ). x ++ drop (total ws) bytes) (sym (body_values ws bytes h.1.1 (omega arith))) in
    cc

module _ {kind : ℕ} {s : Place} (bytes : List ℕ) (m : Mark) (h : Bytes bytes) (w : WholeAllowed kind s bytes m) where
  -- a whole record at the front of bytes is written as it was read
  front_is : bytes ≡ written (record_of m (values m bytes)) ++ drop (size m) bytes
  front_is = let a = found_allowed kind s bytes m w.marked in record_bytes m bytes h w.not_cut a.first_byte a.second_byte

  -- and may stand there
  front_stands : Stands kind s m (values m bytes)
  front_stands =
      let a = found_allowed kind s bytes m w.marked in
      record {
        may = both_in _ _ a.of_kind a.its_turn;
        fits = values_fit (row m).widths (drop 2 bytes) (bytes_drop 2 bytes h) (omega (arith, length-drop 2 bytes, w.not_cut));
      }

-- bytes that are records from a place up to EN, and what follows
pub record Parsed (kind : ℕ) (s : Place) (bytes : List ℕ) (l : Layout) : Type 0 where
  pub records : List Record
  pub rest : List ℕ
  pub is : bytes ≡ image records ++ rest
  pub run : Runs kind s records l

-- bytes that are framed up to EN are such
pub parsed : {kind : ℕ} {s : Place} {bytes : List ℕ} {z : Judged Layout} → Frames kind s bytes z → (l : Layout) → z ≡ gives l → Bytes bytes →
    Parsed kind s bytes l
parsed (too_short c) l e h = clash (cc)
parsed (unmarked c d) l e h = clash (cc)
parsed (cut_off c d f) l e h = clash (cc)
parsed {kind} (stops {s = s} {bytes = bytes} {m = m} w a) l e h = record {
  records = record_of m (values m bytes) ∷ [];
  rest = drop (size m) bytes;
  is = front_is bytes m h w ∙ sym (append_assoc (written (record_of m (values m bytes))) [] (drop (size m) bytes));
  run = last (front_stands bytes m h w) (a ∙ ap ends e);
}
parsed {kind} (goes {s = s} {bytes = bytes} {m = m} w a f) l e h =
    let i = parsed f l e (bytes_drop (size m) bytes h) in
    let r = written (record_of m (values m bytes)) in
    record {
      records = record_of m (values m bytes) ∷ i.records;
      rest = i.rest;
      is = front_is bytes m h w ∙ ap (λ (x : List ℕ). r ++ x) i.is ∙ sym (append_assoc r (image i.records) i.rest);
      run = more (front_stands bytes m h w) a i.run;
    }

-- EN's layout ends behind EN
pub last_ended : {kind : ℕ} {s : Place} {m : Mark} {v : List ℕ} {l : Layout} → After kind s m v (ends (gives l)) → l.ended ≡ s.offset + size m
last_ended (past_end e) = refl

-- the layout says where the records end
pub runs_ended : {kind : ℕ} {s : Place} {rs : List Record} {l : Layout} → Runs kind s rs l → l.ended ≡ s.offset + length (image rs)
runs_ended {kind} (last {s = s} {m = m} {v = v} o e) =
    omega (arith, last_ended (by_after kind s m v e), length-append (written (record_of m v)) [], written_length m v)
runs_ended {kind} (more {s = s} {m = m} {v = v} {rs = rs} o e w) =
    omega (arith, (moves (by_after kind s m v e)).1, runs_ended w, length-append (written (record_of m v)) (image rs), written_length m v)

-- an image of records that run from the start is framed
pub frame_runs : (kind : ℕ) (rs : List Record) (l : Layout) → Runs kind start_place rs l → frame kind (image rs) ≡ gives l
frame_runs kind rs l w =
    let e : frame_records kind start_place (image rs) ≡ gives l = framed (rw append-nil at (runs_frames w [])) in
    let n : nothing_follows (image rs) l ≡ true = le-leb (length (image rs)) l.ended (omega (arith, runs_ended w)) in
    rw (e, n)

-- bytes that are an image of records that run from the start
pub record Parses (kind : ℕ) (bytes : List ℕ) (l : Layout) : Type 0 where
  pub records : List Record
  pub is : bytes ≡ image records
  pub run : Runs kind start_place records l

-- a list that is no longer than its front has nothing behind it
nothing_left : (a b : List ℕ) → length (a ++ b) ≤ length a → b ≡ []
nothing_left a [] h = refl
nothing_left a (x ∷ b) h = absurd (omega (arith, length-append a (x ∷ b)))

-- framed bytes are such an image
pub frame_parses : (kind : ℕ) (bytes : List ℕ) (l : Layout) → Bytes bytes → frame kind bytes ≡ gives l → Parses kind bytes l
frame_parses kind bytes l h e =
    then_gives (frame_records kind start_place bytes) (λ (k : Layout). or_else (unless (nothing_follows bytes k) 10 (index_of_end k)) (gives k)) l e
    (λ k u g.
    let o = or_else_gives (unless (nothing_follows bytes k) 10 (index_of_end k)) (gives k) l g in
    let same : k ≡ l = gives_in k l o.1 in
    let p = parsed (frames kind start_place bytes) l (u ∙ ap gives same) h in
    let short : length bytes ≤ k.ended = leb-true _ _ (unless_none (nothing_follows bytes k) 10 (index_of_end k) o.0) in
    let none_left : p.rest ≡ [] =
    nothing_left (image p.records) p.rest (omega (arith, runs_ended p.run, ap (λ (x : Layout). x.ended) same, ap length p.is)) in
    record {
      records = p.records;
      is = p.is ∙ ap (λ (x : List ℕ). image p.records ++ x) none_left ∙ append-nil (image p.records);
      run = p.run;
    })
