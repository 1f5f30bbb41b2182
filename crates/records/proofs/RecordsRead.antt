-- ID and PV records read one behind the other: with one left the first is at the offset and the others are behind it. Assumes nothing.
use mathlib.Core.Path.{◌≡◌, refl, ◌∙◌, ap, ap₂}
use mathlib.Core.List.{List, [], ◌∷◌, map}
use Prim.Native.Nat.{ℕ, suc, ◌+◌, ◌*◌, ◌-◌, ◌≤◌, ◌<◌}
use native.Mathlib.Omega.{arith}
use lib.ListN.{length, drop, length-map}
use lib.Seq.{drop-drop}
use Rattle.rules.specs.declared.Layout.{Layout}
use Rattle.rules.specs.Marks.{ID, PV, size, head_length_of}
use Rattle.rules.specs.Image.{to_idle, to_inversion}
use Rattle.rules.specs.Framing.{read, behind, behind_tasks, tables_in}
use Rattle.rules.proofs.Arrays.{read_length}
use Rattle.rules.proofs.Held.{behind_drop, behind_tasks_drop}
use Rattle.records.specs.Tables.{inversions_offset, idle_in, inversion_in, idles_at, inversions_at, tables_at}

module _ (bytes : List ℕ) (at many : ℕ) where
  -- so many ID records are read
  pub idles_length : length (idles_at bytes at many) ≡ many
  unfolding idles_at
  idles_length = length-map (read ID many (drop at bytes)) to_idle ∙ read_length ID many (drop at bytes)

  -- so many PV records are read
  pub inversions_length : length (inversions_at bytes at many) ≡ many
  unfolding inversions_at
  inversions_length = length-map (read PV many (drop at bytes)) to_inversion ∙ read_length PV many (drop at bytes)

  -- one and more ID records
  pub idles_more : idles_at bytes at (suc many) ≡ idle_in bytes at ∷ idles_at bytes (at + size ID) many
  unfolding idles_at
  idles_more = ap (λ (rest : List ℕ). idle_in bytes at ∷ map to_idle (read ID many rest)) (drop-drop (size ID) at bytes)

  -- one and more PV records
  pub inversions_more : inversions_at bytes at (suc many) ≡ inversion_in bytes at ∷ inversions_at bytes (at + size PV) many
  unfolding inversions_at
  inversions_more = ap (λ (rest : List ℕ). inversion_in bytes at ∷ map to_inversion (read PV many rest)) (drop-drop (size PV) at bytes)

-- no ID records
pub no_idles : (bytes : List ℕ) (at : ℕ) → idles_at bytes at 0 ≡ []
unfolding idles_at
no_idles bytes at = refl

-- no PV records
pub no_inversions : (bytes : List ℕ) (at : ℕ) → inversions_at bytes at 0 ≡ []
unfolding inversions_at
no_inversions bytes at = refl

module _ (bytes : List ℕ) (at many j : ℕ) where
  -- with an ID record left, the first is at the offset
  pub idle_left : j < many → idles_at bytes at (many - j) ≡ idle_in bytes at ∷ idles_at bytes (at + size ID) (many - (j + 1))
  idle_left l = let e : many - j ≡ suc (many - (j + 1)) = omega arith in rw e (idles_more bytes at (many - (j + 1)))

  -- at the end none is left
  pub no_idle_left : many ≤ j → idles_at bytes at (many - j) ≡ []
  no_idle_left l = let e : many - j ≡ 0 = omega arith in rw e (no_idles bytes at)

  -- with a PV record left, the first is at the offset
  pub inversion_left : j < many → inversions_at bytes at (many - j) ≡ inversion_in bytes at ∷ inversions_at bytes (at + size PV) (many - (j + 1))
  inversion_left l = let e : many - j ≡ suc (many - (j + 1)) = omega arith in rw e (inversions_more bytes at (many - (j + 1)))

  -- at the end none is left
  pub no_inversion_left : many ≤ j → inversions_at bytes at (many - j) ≡ []
  no_inversion_left l = let e : many - j ≡ 0 = omega arith in rw e (no_inversions bytes at)

-- the tables that framing hands on are those that stand behind the tasks
pub tables_framed : (l : Layout) (bytes : List ℕ) → tables_in l bytes ≡ tables_at bytes l.tasks l.listed l.inversions
unfolding idles_at inversions_at
tables_framed l bytes =
    let behind_idles : behind ID l.listed (behind_tasks l bytes) ≡ drop (inversions_offset l.tasks l.listed) bytes =
    behind_drop ID l.listed (behind_tasks l bytes)
    ∙ ap (drop (l.listed * size ID)) (behind_tasks_drop l bytes)
    ∙ drop-drop (l.listed * size ID) (head_length_of l.tasks) bytes in
    ap₂ (λ (a b : List ℕ). record { idles = map to_idle (read ID l.listed a); inversions = map to_inversion (read PV l.inversions b) })
    (behind_tasks_drop l bytes) behind_idles
