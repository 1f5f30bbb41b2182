-- Bodies that stand whole in an image: what each reader answers is what the rule book reads there. Assumes nothing.
use mathlib.Core.Path.{◌≡◌, refl, sym, ◌∙◌, ap, ap₂}
use mathlib.Core.List.{List, [], ◌∷◌}
use Prim.Native.Nat.{ℕ, zero, suc, ◌+◌, ◌-◌, ◌≤◌}
use native.Mathlib.Nat.{sub-zero, zero-sub, suc-sub-suc}
use native.Mathlib.Omega.{arith}
use lib.ListN.{length, take, drop, length-drop}
use lib.Seq.{take-nil, drop-nil, drop-drop, length-take-le, take-take}
use Rattle.fields.specs.Number.{number, field_at}
use Rattle.fields.specs.Body.{total, values_in}
use Rattle.fields.proofs.Places.{field_at_whole}
use Rattle.rules.specs.Marks.{Mark, TS, TK, SL, ID, PV, EN, row, size, body_length, values}
use Rattle.rules.specs.Image.{to_task, to_entry, to_idle, to_inversion}
use Rattle.images.specs.Bodies.{part_of, head_of, task_of, entry_of, idle_of, inversion_of, end_of, to_head, to_end}

-- the fields of these widths, one after the other from a place on
abbrev fields_at : List ℕ → List ℕ → ℕ → List ℕ
fields_at [] body at = []
fields_at (w ∷ ws) body at = field_at w body at ∷ fields_at ws body (at + w)

-- fields that stand whole are the values of a body there
fields_whole : (ws body : List ℕ) (at : ℕ) → at + total ws ≤ length body → fields_at ws body at ≡ values_in ws (drop at body)
fields_whole [] body at h = refl
fields_whole (w ∷ ws) body at h =
    ap₂ ◌∷◌ (field_at_whole w body at (omega arith)) (rw (drop-drop w at body) (fields_whole ws body (at + w) (omega arith)))

-- the rest of a front is a front of the rest
drop_take : (w n : ℕ) (bytes : List ℕ) → drop w (take n bytes) ≡ take (n - w) (drop w bytes)
drop_take zero n bytes = rw (sub-zero n)
drop_take (suc w) zero bytes = rw (zero-sub (suc w))
drop_take (suc w) (suc n) [] = rw (take-nil, drop-nil)
drop_take (suc w) (suc n) (b ∷ bytes) = rw (suc-sub-suc n w) (drop_take w n bytes)

-- a body begins with the values of its fields, whatever follows them
values_front : (ws bytes : List ℕ) (n : ℕ) → total ws ≤ n → values_in ws (take n bytes) ≡ values_in ws bytes
values_front [] bytes n h = refl
values_front (w ∷ ws) bytes n h =
    ap₂ ◌∷◌ (ap number (take-take w n bytes (omega arith)))
    (ap (values_in ws) (drop_take w n bytes) ∙ values_front ws (drop w bytes) (n - w) (omega arith))

-- the fields of the part that a record's body is are the values that the rule book reads
values_read : (m : Mark) (bytes : List ℕ) (at : ℕ) → at + size m ≤ length bytes →
    fields_at (row m).widths (part_of bytes (at + 2) (body_length m)) 0 ≡ values m (drop at bytes)
values_read m bytes at h =
    let ws = (row m).widths in
    fields_whole ws (take (total ws) (drop (at + 2) bytes)) 0
    (omega (arith, length-take-le (total ws) (drop (at + 2) bytes) (omega (arith, length-drop (at + 2) bytes))))
    ∙ values_front ws (drop (at + 2) bytes) (total ws) (omega arith)
    ∙ ap (values_in ws) (sym (drop-drop 2 at bytes))

-- so each reader of a body answers what the rule book reads there
module _ (bytes : List ℕ) (at : ℕ) where
  abbrev body : Mark → List ℕ
  body m = part_of bytes (at + 2) (body_length m)

  pub head_body_is : at + size TS ≤ length bytes → head_of (body TS) ≡ to_head (values TS (drop at bytes))
  head_body_is h = ap to_head (values_read TS bytes at h)

  pub task_body_is : at + size TK ≤ length bytes → task_of (body TK) ≡ to_task (values TK (drop at bytes))
  task_body_is h = ap to_task (values_read TK bytes at h)

  pub entry_body_is : at + size SL ≤ length bytes → entry_of (body SL) ≡ to_entry (values SL (drop at bytes))
  entry_body_is h = ap to_entry (values_read SL bytes at h)

  pub idle_body_is : at + size ID ≤ length bytes → idle_of (body ID) ≡ to_idle (values ID (drop at bytes))
  idle_body_is h = ap to_idle (values_read ID bytes at h)

  pub inversion_body_is : at + size PV ≤ length bytes → inversion_of (body PV) ≡ to_inversion (values PV (drop at bytes))
  inversion_body_is h = ap to_inversion (values_read PV bytes at h)

  pub end_body_is : at + size EN ≤ length bytes → end_of (body EN) ≡ to_end (values EN (drop at bytes))
  end_body_is h = ap to_end (values_read EN bytes at h)
