-- An image put into an output in pieces: records of one mark, one behind the other; and the set, the records behind the tasks, and EN.
-- Assumes nothing.
use mathlib.Core.Path.{◌≡◌, sym, ◌∙◌, ap, ap₂}
use mathlib.Core.List.{List, [], ◌∷◌, ◌++◌, map, map-append, append_assoc, append-nil}
use Prim.Native.Nat.{ℕ, suc, ◌+◌, ◌*◌, ◌≤◌, ◌<◌}
use native.Mathlib.Omega.{arith}
use lib.ListN.{length, get_or, take, drop, length-append, length-map}
use lib.Seq.{take-suc, length-take-le}
use Rattle.rules.specs.declared.Task.{Task}
use Rattle.rules.specs.Marks.{Mark, TS, TK, EN, size, head_length_of}
use Rattle.rules.specs.Image.{Record, record_of, written, image, records, head_records, end_record, of_task}
use Rattle.rules.specs.Tasks.{Set}
use Rattle.rules.proofs.Framed.{written_length}
use Rattle.rules.proofs.Images.{image_append, records_length, set_length}
use Rattle.writing.specs.Writing.{put_at, record_put}
use Rattle.writing.proofs.Puts.{put_fits, put_next}

-- bytes put behind the front of an output make the front longer
put_behind : (out front bytes : List ℕ) (at : ℕ) → length front ≡ at → length (front ++ bytes) ≤ length out →
    put_at (put_at out 0 front) at bytes ≡ put_at out 0 (front ++ bytes)
put_behind out front bytes at long room =
    let here : at ≡ 0 + length front = omega arith in rw here (put_next out 0 front bytes (omega arith))

-- one record alone
image_one : (r : Record) → image (r ∷ []) ≡ written r
image_one r = append-nil (written r)

-- the bytes of one record more
records_more : (m : Mark) (vs : List (List ℕ)) (v : List ℕ) → image (records m (vs ++ (v ∷ []))) ≡ image (records m vs) ++ written (record_of m v)
records_more m [] v = image_one (record_of m v)
records_more m (u ∷ vs) v =
    ap (λ (bytes : List ℕ). written (record_of m u) ++ bytes) (records_more m vs v)
    ∙ sym (append_assoc (written (record_of m u)) (image (records m vs)) (written (record_of m v)))

-- one record more put behind those before it
pub next_put : (m : Mark) (vs : List (List ℕ)) (v : List ℕ) (out : List ℕ) (from at : ℕ) → at ≡ from + length vs * size m → at + size m ≤ length out →
    record_put (put_at out from (image (records m vs))) at (record_of m v) ≡ put_at out from (image (records m (vs ++ (v ∷ []))))
next_put m vs v out from at at-is room =
    let before = image (records m vs) in
    let bytes = written (record_of m v) in
    let here : at ≡ from + length before = omega (arith, records_length m vs) in
    rw (records_more m vs v, here) (put_next out from before bytes (omega (arith, length-append before bytes, written_length m v)))

-- the bytes of tasks
abbrev pub tasks_bytes : List Task → List ℕ
tasks_bytes ts = image (records TK (map of_task ts))

-- a task put behind TS and the tasks before it
pub task_put : (out : List ℕ) (slots : List Task) (d : Task) (i : ℕ) → i < length slots → head_length_of (suc i) ≤ length out →
    record_put (put_at out (size TS) (tasks_bytes (take i slots))) (head_length_of i) (record_of TK (of_task (get_or slots i d)))
    ≡ put_at out (size TS) (tasks_bytes (take (suc i) slots))
task_put out slots d i l room =
    let many : length (map of_task (take i slots)) ≡ i = length-map (take i slots) of_task ∙ length-take-le i slots (omega arith) in
    next_put TK (map of_task (take i slots)) (of_task (get_or slots i d)) out (size TS) (head_length_of i) (omega arith) (omega arith)
    ∙ ap (λ (vs : List (List ℕ)). put_at out (size TS) (image (records TK vs)))
    (sym (ap (map of_task) (take-suc slots i d l) ∙ map-append of_task (take i slots) (get_or slots i d ∷ [])))

-- TS and all tasks put are the set
pub set_put : (out : List ℕ) (kind n : ℕ) (ts : Set) → length ts.tasks ≡ n → head_length_of n ≤ length out →
    put_at (record_put out 0 (record_of TS (1 ∷ kind ∷ n ∷ []))) (size TS) (tasks_bytes ts.tasks) ≡ put_at out 0 (image (head_records kind ts))
set_put out kind n ts many room =
    let head = written (record_of TS (1 ∷ kind ∷ n ∷ [])) in
    put_behind out head (tasks_bytes ts.tasks) (size TS) (written_length TS (1 ∷ kind ∷ n ∷ []))
    (omega (
      arith,
      length-append head (tasks_bytes ts.tasks),
      written_length TS (1 ∷ kind ∷ n ∷ []),
      records_length TK (map of_task ts.tasks),
      length-map ts.tasks of_task,
    ))
    ∙ ap (λ (k : ℕ). put_at out 0 (written (record_of TS (1 ∷ kind ∷ k ∷ [])) ++ tasks_bytes ts.tasks)) (sym many)

-- an image: the set, records behind the tasks, and EN
module _ (kind : ℕ) (ts : Set) (rs : List Record) (number : ℕ) where
  abbrev whole : List ℕ
  whole = image (head_records kind ts ++ (rs ++ end_record number))

  -- its bytes are those of the three pieces
  pieces : whole ≡ (image (head_records kind ts) ++ image rs) ++ written (record_of EN (number ∷ []))
  pieces =
      let set = head_records kind ts in
      let end = end_record number in
      ap image (sym (append_assoc set rs end))
      ∙ image_append (set ++ rs) end
      ∙ ap₂ ◌++◌ (image_append set rs) (image_one (record_of EN (number ∷ [])))

  -- where EN begins
  abbrev pub end_offset : ℕ
  end_offset = head_length_of (length ts.tasks) + length (image rs)

  front_length : length (image (head_records kind ts) ++ image rs) ≡ end_offset
  front_length = length-append (image (head_records kind ts)) (image rs) ∙ omega (arith, set_length kind ts)

  -- the three pieces put one behind the other are the image at the front of an output, and the rest is as it was
  pub image_put : (out : List ℕ) → length whole ≤ length out →
      record_put (put_at (put_at out 0 (image (head_records kind ts))) (head_length_of (length ts.tasks)) (image rs)) end_offset (record_of EN (number ∷ []))
      ≡ whole ++ drop (length whole) out
  image_put out room =
      let set = image (head_records kind ts) in
      let end = written (record_of EN (number ∷ [])) in
      let fits : length ((set ++ image rs) ++ end) ≤ length out = omega (arith, ap length pieces) in
      let from_zero : 0 + length whole ≡ length whole = omega arith in
      ap (λ (o : List ℕ). put_at o end_offset end)
      (put_behind out set (image rs) (head_length_of (length ts.tasks)) (set_length kind ts) (omega (arith, length-append (set ++ image rs) end)))
      ∙ put_behind out (set ++ image rs) end end_offset front_length fits
      ∙ ap (put_at out 0) (sym pieces)
      ∙ put_fits out 0 whole (omega arith)
      ∙ ap (λ (k : ℕ). whole ++ drop k out) from_zero
