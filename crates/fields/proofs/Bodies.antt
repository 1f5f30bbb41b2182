-- Bodies of fields: what is written is read, and what is read is written, over any widths. Assumes nothing.
use mathlib.Core.Path.{◌≡◌, refl, sym, ◌∙◌, ap, ap₂}
use mathlib.Core.List.{List, [], ◌∷◌, ◌++◌, append_assoc}
use Prim.Native.Nat.{ℕ, ◌+◌, ◌≤◌}
use native.Mathlib.Omega.{arith}
use lib.ListN.{length, take, drop, length-append, length-drop, drop_of_length-le}
use lib.Seq.{take_at, drop_at, take-add, length-take-le}
use Rattle.fields.specs.Number.{Bytes, big_endian, stored_at}
use Rattle.fields.specs.Body.{total, head₀, tail₀, body, values_in, Fit}
use Rattle.fields.proofs.Places.{stored_front}
use Rattle.fields.proofs.Laws.{big_endian_length, big_endian_bytes, number_below, read_written, written_read, bytes_append, bytes_take, bytes_drop}

-- a body has the bytes of its widths
pub body_length : (ws vs : List ℕ) → length (body ws vs) ≡ total ws
body_length [] vs = refl
body_length (w ∷ ws) vs =
    length-append (big_endian w (head₀ vs)) (body ws (tail₀ vs)) ∙ ap₂ ◌+◌ (big_endian_length w (head₀ vs)) (body_length ws (tail₀ vs))

-- a body is of bytes
pub body_bytes : (ws vs : List ℕ) → Bytes (body ws vs)
body_bytes [] vs = tt
body_bytes (w ∷ ws) vs =
    bytes_append (big_endian w (head₀ vs)) (body ws (tail₀ vs)) (big_endian_bytes w (head₀ vs)) (body_bytes ws (tail₀ vs))

-- values that fit are read as they were written, whatever follows the body
pub values_body : (ws vs rest : List ℕ) → Fit ws vs → values_in ws (body ws vs ++ rest) ≡ vs
values_body [] [] rest h = refl
values_body [] (v ∷ vs) rest h = absurd h
values_body (w ∷ ws) [] rest h = absurd h
values_body (w ∷ ws) (v ∷ vs) rest h =
    let e = big_endian_length w v in
    let more = body ws vs ++ rest in
    rw (append_assoc (big_endian w v) (body ws vs) rest, take_at (big_endian w v) more w e, drop_at (big_endian w v) more w e)
    (ap₂ ◌∷◌ (read_written w v h.0) (values_body ws vs rest h.1))

-- bytes are written as their values were read
pub body_values : (ws bs : List ℕ) → Bytes bs → total ws ≤ length bs → body ws (values_in ws bs) ≡ take (total ws) bs
body_values [] bs h l = refl
body_values (w ∷ ws) bs h l =
    ap₂ ◌++◌
    (written_read w (take w bs) (bytes_take w bs h) (length-take-le w bs (omega arith)))
    (body_values ws (drop w bs) (bytes_drop w bs h) (omega (arith, length-drop w bs)))
    ∙ sym (take-add w (total ws) bs)

-- values that are read fit their fields
pub values_fit : (ws bs : List ℕ) → Bytes bs → total ws ≤ length bs → Fit ws (values_in ws bs)
values_fit [] bs h l = tt
values_fit (w ∷ ws) bs h l = (
  rw (length-take-le w bs (omega arith)) at (number_below (take w bs) (bytes_take w bs h)),
  values_fit ws (drop w bs) (bytes_drop w bs h) (omega (arith, length-drop w bs)),
)

-- what code leaves that stores fields one after the other, from a place on
abbrev pub stored_fields : List ℕ → List ℕ → List ℕ → ℕ → List ℕ
stored_fields [] vs old at = old
stored_fields (w ∷ ws) vs old at = stored_fields ws (tail₀ vs) (stored_at w old at (head₀ vs)) (at + w)

-- fields stored behind a front, up to the end, are the front and a body
fields_stored : (ws vs p old : List ℕ) → length p + total ws ≡ length old → stored_fields ws vs (p ++ drop (length p) old) (length p) ≡ p ++ body ws vs
fields_stored [] vs p old h = ap (λ (r : List ℕ). p ++ r) (drop_of_length-le old (omega arith))
fields_stored (w ∷ ws) vs p old h =
    let x = head₀ vs in
    let front = p ++ big_endian w x in
    let e : length front ≡ length p + w = length-append p (big_endian w x) ∙ rw (big_endian_length w x) in
    rw (stored_front p old w x (omega arith), ← e) (fields_stored ws (tail₀ vs) front old (omega arith))
    ∙ append_assoc p (big_endian w x) (body ws (tail₀ vs))

-- fields stored over bytes of their length are a body
pub body_stored : (ws vs old : List ℕ) → length old ≡ total ws → stored_fields ws vs old 0 ≡ body ws vs
body_stored ws vs old h = fields_stored ws vs [] old (omega arith)
