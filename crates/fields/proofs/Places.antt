-- Fields at a place of a list: what a read gives and what a store leaves, over the width. Assumes nothing.
use mathlib.Core.Path.{◌≡◌, refl, sym, ◌∙◌, ap}
use mathlib.Core.Bool.{Bool, true, false}
use mathlib.Core.List.{List, [], ◌∷◌, ◌++◌, append_assoc}
use Prim.Native.Nat.{ℕ, zero, suc, ◌+◌, ◌^◌, ◌≤◌, ◌<◌}
use native.Mathlib.Nat.{add-zero, add-suc}
use native.Mathlib.Omega.{arith}
use borrow.Author.Tests.{leb-true, leb-false, le-leb, lt-leb}
use lib.ListN.{length, get_or, set, take, drop, length-append, length-drop}
use lib.Seq.{length-take-le, take-append_seam, take_at, drop_at, drop-append-add, drop-drop, drop-cons, sets, sets-eq}
use Rattle.fields.specs.Number.{number, big_endian, whole, field_at, stored_at}
use Rattle.fields.proofs.Laws.{big_endian_length, read_written}

-- a test holds, or it does not
by_test : {A : Type 0} (b : Bool) → (b ≡ true → A) → (b ≡ false → A) → A
by_test true p q = p refl
by_test false p q = q refl

-- a field stands whole, or it is cut off
pub by_whole : {A : Type 0} (w : ℕ) (bs : List ℕ) (at : ℕ) → (at + w ≤ length bs → A) → (length bs < at + w → A) → A
by_whole w bs at p q =
    by_test (whole w bs at) (λ e. p (leb-true (at + w) (length bs) e)) (λ e. q (leb-false (at + w) (length bs) e))

-- a field that stands whole is the number of its bytes
pub field_at_whole : (w : ℕ) (bs : List ℕ) (at : ℕ) → at + w ≤ length bs → field_at w bs at ≡ number (take w (drop at bs))
unfolding field_at
field_at_whole w bs at h = rw (le-leb (at + w) (length bs) h)

-- a field that is cut off is 0
pub field_at_cut : (w : ℕ) (bs : List ℕ) (at : ℕ) → length bs < at + w → field_at w bs at ≡ 0
unfolding field_at
field_at_cut w bs at h = rw (lt-leb (at + w) (length bs) h)

-- a store of a field that fits puts its bytes at the place, and leaves the others
pub stored_whole : (w : ℕ) (old : List ℕ) (at x : ℕ) → at + w ≤ length old
    → stored_at w old at x ≡ take at old ++ (big_endian w x ++ drop (at + w) old)
unfolding stored_at
stored_whole w old at x h = rw (le-leb (at + w) (length old) h)

-- a store of a field that does not fit leaves all as it was
pub stored_cut : (w : ℕ) (old : List ℕ) (at x : ℕ) → length old < at + w → stored_at w old at x ≡ old
unfolding stored_at
stored_cut w old at x h = rw (lt-leb (at + w) (length old) h)

-- a store keeps the length
pub stored_length : (w : ℕ) (old : List ℕ) (at x : ℕ) → length (stored_at w old at x) ≡ length old
stored_length w old at x =
    by_whole w old at
    (λ h.
    let e : length (take at old) ≡ at = length-take-le at old (omega arith) in
    rw (stored_whole w old at x h) (simp (length-append, length-drop, big_endian_length, e) (omega arith)))
    (λ h. rw (stored_cut w old at x h))

-- a number that its width has room for is read where it was stored
pub read_stored : (w : ℕ) (old : List ℕ) (at x : ℕ) → x < 256 ^ w → at + w ≤ length old → field_at w (stored_at w old at x) at ≡ x
read_stored w old at x l h =
    let rest = drop (at + w) old in
    let front : length (take at old) ≡ at = length-take-le at old (omega arith) in
    field_at_whole w (stored_at w old at x) at (rw (stored_length w old at x) h)
    ∙ rw (stored_whole w old at x h, drop_at (take at old) (big_endian w x ++ rest) at front, take_at (big_endian w x) rest w (big_endian_length w x))
    (read_written w x l)

-- a store right after a front makes the front longer
pub stored_front : (p old : List ℕ) (w x : ℕ) → length p + w ≤ length old
    → stored_at w (p ++ drop (length p) old) (length p) x ≡ (p ++ big_endian w x) ++ drop (length p + w) old
stored_front p old w x h =
    let rest = drop (length p) old in
    stored_whole w (p ++ rest) (length p) x (simp (length-append, length-drop) (omega arith))
    ∙ rw (take-append_seam p rest, drop-append-add p rest w, drop-drop w (length p) old)
    (sym (append_assoc p (big_endian w x) (drop (length p + w) old)))

-- the elements that code reads one by one, from a distance on after a place
abbrev pub loads : ℕ → List ℕ → ℕ → ℕ → List ℕ
loads zero bs at k = []
loads (suc w) bs at k = get_or bs (at + k) 0 ∷ loads w bs at (suc k)

-- what code leaves that stores elements one by one, from a distance on after a place
abbrev pub stores : List ℕ → ℕ → ℕ → List ℕ → List ℕ
stores old at k [] = old
stores old at k (b ∷ bs) = stores (set old (at + k) b) at (suc k) bs

-- elements read one by one are a part of the list
pub loads_part : (w : ℕ) (bs : List ℕ) (at k : ℕ) → at + k + w ≤ length bs → loads w bs at k ≡ take w (drop (at + k) bs)
loads_part zero bs at k h = refl
loads_part (suc w) bs at k h =
    rw (drop-cons bs (at + k) 0 (omega arith), ← add-suc at k)
    (ap (λ (r : List ℕ). get_or bs (at + k) 0 ∷ r) (loads_part w bs at (suc k) (omega arith)))

-- elements stored one by one are a run of stores
pub stores_run : (bs old : List ℕ) (at k : ℕ) → stores old at k bs ≡ sets old (at + k) bs
stores_run [] old at k = refl
stores_run (b ∷ bs) old at k = stores_run bs (set old (at + k) b) at (suc k) ∙ rw add-suc

-- bytes read one by one are the field
pub field_loads : (w : ℕ) (bs : List ℕ) (at : ℕ) → at + w ≤ length bs → number (loads w bs at 0) ≡ field_at w bs at
field_loads w bs at h =
    rw (loads_part w bs at 0 (omega arith), add-zero at) (sym (field_at_whole w bs at h))

-- bytes stored one by one store the field
pub stored_stores : (w : ℕ) (old : List ℕ) (at x : ℕ) → at + w ≤ length old → stores old at 0 (big_endian w x) ≡ stored_at w old at x
stored_stores w old at x h =
    let e = big_endian_length w x in
    stores_run (big_endian w x) old at 0
    ∙ rw (add-zero at) (sets-eq (big_endian w x) old at (rw e h) ∙ rw e (append_assoc (take at old) (big_endian w x) (drop (at + w) old)))
    ∙ sym (stored_whole w old at x h)
