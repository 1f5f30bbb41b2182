-- A table image put into an output in three pieces: the set, the tables, and EN. Assumes nothing.
use mathlib.Core.Path.{◌≡◌, sym, ◌∙◌, ap}
use mathlib.Core.List.{List, [], ◌∷◌, ◌++◌, map, append_assoc}
use Prim.Native.Nat.{ℕ, ◌+◌, ◌*◌, ◌≤◌}
use native.Mathlib.Omega.{arith}
use lib.ListN.{length, drop, length-map}
use Rattle.rules.specs.declared.Idle.{Idle}
use Rattle.rules.specs.declared.Inversion.{Inversion}
use Rattle.rules.specs.Tasks.{Set}
use Rattle.rules.specs.Setting.{Tables}
use Rattle.rules.specs.Marks.{ID, PV, EN, size, head_length_of}
use Rattle.rules.specs.Image.{Record, record_of, image, records, head_records, end_record, of_idle, of_inversion, table_image}
use Rattle.rules.proofs.Images.{records_length, both_lengths, records_before}
use Rattle.writing.specs.Writing.{put_at, record_put}
use Rattle.writing.proofs.ImagePut.{image_put}
use Rattle.derivation.specs.Parts.{tables_bytes}

-- how long tables are
pub tables_length : (idles : List Idle) (p : List Inversion) → length (tables_bytes idles p) ≡ length idles * size ID + length p * size PV
tables_length idles p =
    both_lengths (records ID (map of_idle idles)) (records PV (map of_inversion p))
    ∙ omega (arith, records_length ID (map of_idle idles), records_length PV (map of_inversion p), length-map idles of_idle, length-map p of_inversion)

module _ (ts : Set) (X : Tables) (out : List ℕ) (room : length (table_image ts X) ≤ length out) where
  -- where EN begins
  abbrev pub end_offset : ℕ
  end_offset = head_length_of (length ts.tasks) + length X.idles * size ID + length X.inversions * size PV

  -- the set, the tables and EN put one behind the other are the table image, and the rest is as it was
  pub table_put : record_put (put_at (put_at out 0 (image (head_records 2 ts))) (head_length_of (length ts.tasks)) (tables_bytes X.idles X.inversions)) end_offset
      (record_of EN (records_before ts X ∷ []))
      ≡ table_image ts X ++ drop (length (table_image ts X)) out
  table_put =
      let idles = records ID (map of_idle X.idles) in
      let inversions = records PV (map of_inversion X.inversions) in
      let number : ℕ = records_before ts X in
      let same : image (head_records 2 ts ++ ((idles ++ inversions) ++ end_record number)) ≡ table_image ts X =
      ap (λ (rs : List Record). image (head_records 2 ts ++ rs)) (append_assoc idles inversions (end_record number)) in
      let here : head_length_of (length ts.tasks) + length (tables_bytes X.idles X.inversions) ≡ end_offset = omega (arith, tables_length X.idles X.inversions) in
      ap (λ (at : ℕ). record_put (put_at (put_at out 0 (image (head_records 2 ts))) (head_length_of (length ts.tasks)) (tables_bytes X.idles X.inversions)) at (record_of EN (number ∷ [])))
      (sym here)
      ∙ image_put 2 ts (idles ++ inversions) number out (omega (arith, ap length same))
      ∙ ap (λ (bytes : List ℕ). bytes ++ drop (length bytes) out) same
