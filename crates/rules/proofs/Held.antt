-- What framed bytes hold: values that are laid out are framed and read back, and what is framed is laid out from the values that are read.
-- Assumes nothing.
use mathlib.Core.Path.{◌≡◌, refl, sym, ◌∙◌, ap, ap₂, subst₂}
use mathlib.Core.List.{List, [], ◌∷◌, ◌++◌}
use Prim.Native.Nat.{ℕ, zero, suc, ◌+◌, ◌*◌}
use native.Mathlib.Omega.{arith}
use lib.ListN.{length, drop}
use lib.Seq.{drop-drop}
use Rattle.fields.specs.Number.{Bytes}
use Rattle.rules.specs.declared.Layout.{Layout}
use Rattle.rules.specs.Refusals.{gives}
use Rattle.rules.specs.Marks.{Mark, TS, TK, PV, row, size, head_length_of, values}
use Rattle.rules.specs.Image.{Record, image, records, end_record, Each}
use Rattle.rules.specs.Framing.{frame, read, behind, behind_tasks}
use Rattle.rules.proofs.Framed.{values_written, behind_written, frame_runs, frame_parses}
use Rattle.rules.proofs.Shapes.{Kind, laid_out, layout_of, Holdable, shaped, shaped_runs}

-- records of one mark are read as they were written
pub read_records : (m : Mark) (vs : List (List ℕ)) (rest : List Record) → Each (row m).widths vs → read m (length vs) (image (records m vs ++ rest)) ≡ vs
read_records m [] rest f = refl
read_records m (v ∷ vs) rest f =
    let others = image (records m vs ++ rest) in
    ap₂ ◌∷◌ (values_written m v others f.0) (ap (read m (length vs)) (behind_written m v others) ∙ read_records m vs rest f.1)

-- and what follows them stands behind them
pub behind_records : (m : Mark) (vs : List (List ℕ)) (rest : List Record) → behind m (length vs) (image (records m vs ++ rest)) ≡ image rest
behind_records m [] rest = refl
behind_records m (v ∷ vs) rest =
    ap (behind m (length vs)) (behind_written m v (image (records m vs ++ rest))) ∙ behind_records m vs rest

-- so many records further is so many times their bytes further
pub behind_drop : (m : Mark) (many : ℕ) (bytes : List ℕ) → behind m many bytes ≡ drop (many * size m) bytes
behind_drop m zero bytes =
    let none_yet : 0 ≡ 0 * size m = omega arith in
    ap (λ (o : ℕ). drop o bytes) none_yet
behind_drop m (suc many) bytes =
    let one_more : size m + many * size m ≡ suc many * size m = omega arith in
    behind_drop m many (drop (size m) bytes) ∙ drop-drop (many * size m) (size m) bytes ∙ ap (λ (o : ℕ). drop o bytes) one_more

-- behind TS and n TK records is behind the head
behind_head : (n : ℕ) (bytes : List ℕ) → drop (head_length_of n) bytes ≡ behind TK n (drop (size TS) bytes)
behind_head n bytes = sym (behind_drop TK n (drop (size TS) bytes) ∙ drop-drop (n * size TK) (size TS) bytes)

pub behind_tasks_drop : (l : Layout) (bytes : List ℕ) → behind_tasks l bytes ≡ drop (head_length_of l.tasks) bytes
behind_tasks_drop l bytes = refl

-- records that are read are the first of them and those behind
pub read_both : (m : Mark) (many others : ℕ) (bytes : List ℕ) → read m (many + others) bytes ≡ read m many bytes ++ read m others (behind m many bytes)
read_both m zero others bytes =
    let none_yet : 0 + others ≡ others = omega arith in
    ap (λ (k : ℕ). read m k bytes) none_yet
read_both m (suc many) others bytes =
    let one_more : suc many + others ≡ suc (many + others) = omega arith in
    ap (λ (k : ℕ). read m k bytes) one_more ∙ ap (λ (x : List (List ℕ)). values m bytes ∷ x) (read_both m many others (drop (size m) bytes))

-- the values that are read from bytes of a layout
pub record ReadAs (m : Mark) (l : Layout) (bytes : List ℕ) (vs us ps : List (List ℕ)) : Type 0 where
  pub tasks_read : read TK l.tasks (drop (size TS) bytes) ≡ vs
  pub listed_read : read m l.listed (behind_tasks l bytes) ≡ us
  pub inversions_read : read PV l.inversions (behind m l.listed (behind_tasks l bytes)) ≡ ps

-- values that are laid out are read back
read_back : {kind : ℕ} {m : Mark} (vs us ps : List (List ℕ)) → Holdable kind m vs us ps →
    ReadAs m (layout_of m (length vs) (length us) (length ps)) (image (laid_out kind m vs us ps)) vs us ps
read_back {kind} {m} vs us ps h =
    let end = end_record (suc (length vs + (length us + length ps))) in
    let inversions = records PV ps ++ end in
    let listed = records m us ++ inversions in
    let bytes = image (laid_out kind m vs us ps) in
    let behind-TS : drop (size TS) bytes ≡ image (records TK vs ++ listed) =
    behind_written TS (1 ∷ kind ∷ length vs ∷ []) (image (records TK vs ++ listed)) in
    let behind-all-tasks : drop (head_length_of (length vs)) bytes ≡ image listed =
    behind_head (length vs) bytes ∙ ap (behind TK (length vs)) behind-TS ∙ behind_records TK vs listed in
    record {
      tasks_read = ap (read TK (length vs)) behind-TS ∙ read_records TK vs listed h.tasks_fit;
      listed_read = ap (read m (length us)) behind-all-tasks ∙ read_records m us inversions h.listed_fit;
      inversions_read = ap (read PV (length ps)) (ap (behind m (length us)) behind-all-tasks ∙ behind_records m us inversions)
          ∙ read_records PV ps end h.inversions_fit;
    }

-- bytes of a layout hold values: they are laid out from them, and the values are read from them
pub record Holds (kind : ℕ) (m : Mark) (bytes : List ℕ) (l : Layout) (vs us ps : List (List ℕ)) : Type 0 where
  pub is : bytes ≡ image (laid_out kind m vs us ps)
  pub holdable : Holdable kind m vs us ps
  pub reads : ReadAs m l bytes vs us ps

-- some values that bytes of a layout hold
pub record Held (kind : ℕ) (m : Mark) (bytes : List ℕ) (l : Layout) : Type 0 where
  pub task_values : List (List ℕ)
  pub listed_values : List (List ℕ)
  pub inversion_values : List (List ℕ)
  pub holds : Holds kind m bytes l task_values listed_values inversion_values

-- framed bytes hold values
pub held : {kind : ℕ} {m : Mark} → Kind kind m → (bytes : List ℕ) (l : Layout) → Bytes bytes → frame kind bytes ≡ gives l → Held kind m bytes l
held {kind} {m} K bytes l h e =
    let p = frame_parses kind bytes l h e in
    let s = shaped K p.run in
    let vs = s.task_values in
    let us = s.listed_values in
    let ps = s.inversion_values in
    let is : bytes ≡ image (laid_out kind m vs us ps) = p.is ∙ ap image s.is in
    let reads : ReadAs m l bytes vs us ps =
    subst₂ (λ (x : Layout) (y : List ℕ). ReadAs m x y vs us ps) (sym s.layout) (sym is) (read_back vs us ps s.holdable) in
    record {
      task_values = vs;
      listed_values = us;
      inversion_values = ps;
      holds = record { is = is; holdable = s.holdable; reads = reads };
    }

-- bytes are framed, and values are read from them
pub record Laid (kind : ℕ) (m : Mark) (bytes : List ℕ) (vs us ps : List (List ℕ)) : Type 0 where
  pub layout : Layout
  pub framed_so : frame kind bytes ≡ gives layout
  pub reads : ReadAs m layout bytes vs us ps

-- values that can be held are framed and read back where they are laid out
pub laid : {kind : ℕ} {m : Mark} → Kind kind m → (vs us ps : List (List ℕ)) → Holdable kind m vs us ps →
    Laid kind m (image (laid_out kind m vs us ps)) vs us ps
laid {kind} {m} K vs us ps h =
    let l = layout_of m (length vs) (length us) (length ps) in
    record { layout = l; framed_so = frame_runs kind (laid_out kind m vs us ps) l (shaped_runs K vs us ps h); reads = read_back vs us ps h }
