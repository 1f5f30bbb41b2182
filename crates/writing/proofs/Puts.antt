-- Bytes put at a place of an output: what a put leaves, and what several leave. Assumes nothing.
use mathlib.Core.Path.{◌≡◌, refl, sym, ◌∙◌}
use mathlib.Core.List.{List, [], ◌∷◌, ◌++◌, append_assoc}
use Prim.Native.Nat.{ℕ, suc, ◌+◌, ◌-◌, ◌≤◌, ◌<◌}
use native.Mathlib.Nat.{add-zero, ne_of_lt}
use native.Mathlib.Numerals.{add-one}
use native.Mathlib.Omega.{arith}
use borrow.Rule.Slice.PartMut.{put_mid}
use borrow.Author.Tests.{le-leb, lt-leb}
use lib.ListN.{length, set, take, drop, length-append, take-append-drop}
use lib.Seq.{drop-drop, set_comm, sets, length-sets, sets-eq}
use Rattle.fields.proofs.Places.{by_whole}
use Rattle.fields.specs.Body.{body}
use Rattle.fields.proofs.Bodies.{body_length}
use Rattle.rules.specs.Marks.{Mark, row, size}
use Rattle.rules.specs.Image.{record_of}
use Rattle.rules.proofs.Framed.{written_length}
use Rattle.images.specs.declared.Mark.{Mark as CodeMark}
use Rattle.images.specs.declared.Row.{Row}
use Rattle.images.specs.Table.{mark_of, code_row}
use Rattle.writing.specs.Writing.{put_at, record_put}

-- bytes that fit stand at the place, and all others are as they were
pub put_fits : (old : List ℕ) (at : ℕ) (xs : List ℕ) → at + length xs ≤ length old
    → put_at old at xs ≡ take at old ++ (xs ++ drop (at + length xs) old)
unfolding put_at
put_fits old at xs h = rw (le-leb (at + length xs) (length old) h)

-- bytes that do not fit leave all as it was
pub put_cut : (old : List ℕ) (at : ℕ) (xs : List ℕ) → length old < at + length xs → put_at old at xs ≡ old
unfolding put_at
put_cut old at xs h = rw (lt-leb (at + length xs) (length old) h)

-- no bytes change nothing
pub put_none : (old : List ℕ) (at : ℕ) → at ≤ length old → put_at old at [] ≡ old
put_none old at l = put_fits old at [] (omega arith) ∙ rw (add-zero at) (take-append-drop at old)

-- bytes that fit are stored one by one
pub put_sets : (old : List ℕ) (at : ℕ) (xs : List ℕ) → at + length xs ≤ length old → put_at old at xs ≡ sets old at xs
put_sets old at xs h = put_fits old at xs h ∙ sym (sets-eq xs old at h ∙ append_assoc (take at old) xs (drop (at + length xs) old))

-- a put keeps the length
pub put_length : (old : List ℕ) (at : ℕ) (xs : List ℕ) → length (put_at old at xs) ≡ length old
put_length old at xs =
    by_whole (length xs) old at
    (λ h. rw (put_sets old at xs h) (length-sets old at xs))
    (λ h. rw (put_cut old at xs h))

-- a run of stores right after a run of stores is one run
sets_append : (xs ys l : List ℕ) (i : ℕ) → sets l i (xs ++ ys) ≡ sets (sets l i xs) (i + length xs) ys
sets_append [] ys l i = rw (add-zero i)
sets_append (x ∷ xs) ys l i =
    let e : suc i + length xs ≡ i + length (x ∷ xs) = omega arith in sets_append xs ys (set l i x) (suc i) ∙ rw e

-- bytes put right after bytes are one put of both
pub put_next : (old : List ℕ) (at : ℕ) (xs ys : List ℕ) → at + length (xs ++ ys) ≤ length old
    → put_at (put_at old at xs) (at + length xs) ys ≡ put_at old at (xs ++ ys)
put_next old at xs ys h =
    let n = length-append xs ys in
    put_sets (put_at old at xs) (at + length xs) ys (omega (arith, n, put_length old at xs))
    ∙ rw (put_sets old at xs (omega (arith, n))) (sym (sets_append xs ys old at))
    ∙ sym (put_sets old at (xs ++ ys) h)

-- a store before a run of stores may come after it
set_sets : (ys l : List ℕ) (i j x : ℕ) → i < j → set (sets l j ys) i x ≡ sets (set l i x) j ys
set_sets [] l i j x h = refl
set_sets (y ∷ ys) l i j x h = set_sets ys (set l j y) i (suc j) x (omega arith) ∙ rw (set_comm l i j x y (ne_of_lt h))

-- runs of stores apart may come in either order
sets_apart : (xs ys l : List ℕ) (i j : ℕ) → i + length xs ≤ j → sets (sets l i xs) j ys ≡ sets (sets l j ys) i xs
sets_apart [] ys l i j h = refl
sets_apart (x ∷ xs) ys l i j h =
    sets_apart xs ys (set l i x) (suc i) j (omega arith) ∙ rw (set_sets ys l i j x (omega arith))

-- puts at places apart may come in either order
pub put_apart : (old : List ℕ) (at : ℕ) (xs : List ℕ) (place : ℕ) (ys : List ℕ) → at + length xs ≤ place
    → put_at (put_at old at xs) place ys ≡ put_at (put_at old place ys) at xs
put_apart old at xs place ys l =
    by_whole (length ys) old place
    (λ h.
    rw (put_sets old at xs (omega arith), put_sets old place ys h)
    (put_sets (sets old at xs) place ys (rw (length-sets old at xs) h)
    ∙ sets_apart xs ys old at place l
    ∙ sym (put_sets (sets old place ys) at xs (rw (length-sets old place ys) (omega arith)))))
    (λ h. rw (put_cut old place ys h) (put_cut (put_at old at xs) place ys (rw (put_length old at xs) h)))

-- the row of a mark that is a record's has the record's size
pub row_size : (r : Row) (k m : CodeMark) → r ≡ code_row (mark_of k) → k ≡ m → r.size ≡ size (mark_of m)
row_size r k m read is = rw (read, is)

-- a record at a place: its mark, and its body in the part behind that
module _ (m : Mark) (vs old : List ℕ) (at : ℕ) where
  abbrev here : List ℕ
  here = body (row m).widths vs

  -- where it fits
  pub record_fits : at + size m ≤ length old → (k : ℕ) → k ≡ size m - 2 →
      put_mid (at + 2) k (set (set old at (row m).byte₁) (at + 1) (row m).byte₂) here ≡ record_put old at (record_of m vs)
  record_fits h k e =
      let mark = (row m).byte₁ ∷ (row m).byte₂ ∷ [] in
      let long : length here ≡ size m - 2 = omega (arith, body_length (row m).widths vs) in
      let marked : set (set old at (row m).byte₁) (at + 1) (row m).byte₂ ≡ put_at old at mark = rw add-one (sym (put_sets old at mark (omega arith))) in
      let behind = put_at old at mark in
      rw (marked, e, ← long, drop-drop (length here) (at + 2) behind) (sym (put_fits behind (at + 2) here (omega (arith, long, put_length old at mark))))
      ∙ put_next old at mark here (omega (arith, long))

  -- where it does not
  pub record_cut : length old < at + size m → old ≡ record_put old at (record_of m vs)
  record_cut h = sym (put_cut old at _ (omega (arith, written_length m vs)))
