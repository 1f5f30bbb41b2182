-- A turn looks no further than it has to: one that does not wait comes to the same whatever follows; one that waits has not too many bytes, and can get more;
-- and one that goes on has used some of those that are held. Assumes nothing.
use mathlib.Core.Path.{◌≡◌, refl, sym, ◌∙◌, ap}
use mathlib.Core.Bool.{Bool, true, false}
use mathlib.Core.List.{List, [], ◌++◌}
use Prim.Native.Nat.{ℕ, suc, ◌+◌, ◌-◌, ◌≤◌}
use native.Mathlib.Omega.{arith}
use lib.Dec.{ltb, eqb}
use lib.ListN.{length, take, length-append, length-take}
use lib.Seq.{take-append-le, take-append-add, take-take, take_all}
use borrow.Author.Tests.{ltb-false}
use Rattle.rules.specs.declared.Refusal.{Refusal}
use Rattle.rules.specs.declared.Located.{Located}
use Rattle.rules.specs.Refusals.{refuses, refusal}
use Rattle.rules.specs.Axis.{front, measured}
use Rattle.rules.proofs.Cases.{clash, by_bool, by_eq, by_le, by_judged}
use Rattle.rules.proofs.Fronts.{front_inside, front_some, fronts_more}
use Rattle.text.specs.Text.{refused_text, longest_input}
use Rattle.reporting.specs.Report.{Turn, waits, goes_on, stops, most_images, figure_lines, refused_turn, judged_turn, image_turn, turn}
use Rattle.reporting.proofs.TurnLaws.{refused_other, none_turn, last_turn, held_turn, long_turn, whole_turn}

pub by_turn : {A : Type 0} (t : Turn) → (t ≡ waits → A) → ((text : List ℕ) (used : ℕ) → t ≡ goes_on text used → A) → ((text : List ℕ) → t ≡ stops text → A) → A
by_turn waits p q r = p refl
by_turn (goes_on text used) p q r = q text used refl
by_turn (stops text) p q r = r text refl

-- a refusal never goes on, and waits where it is 1, no bytes are beyond and more can come
refused_stays : {A : Type 0} (more beyond : Bool) (image : List ℕ) (r : Refusal) (text : List ℕ) (used : ℕ) →
    refused_turn more beyond image r ≡ goes_on text used → A
refused_stays more beyond image r text used e =
    by_bool (eqb r.number 1)
    (λ one. by_bool beyond (λ b. clash (cc)) (λ b. by_bool more (λ m. clash (cc)) (λ m. clash (cc)))) (λ one. clash (cc))

refused_waits : (more beyond : Bool) (image : List ℕ) (r : Refusal) → refused_turn more beyond image r ≡ waits → (more ≡ true) × (beyond ≡ false)
refused_waits more beyond image r e =
    by_bool (eqb r.number 1)
    (λ one. by_bool beyond (λ b. clash (cc)) (λ b. by_bool more (λ m. (m, b)) (λ m. clash (cc)))) (λ one. clash (cc))

module _ (more beyond : Bool) (bytes : List ℕ) where
  image_goes : (text : List ℕ) (used : ℕ) → image_turn more beyond bytes ≡ goes_on text used → (1 ≤ used) × (used ≤ length bytes)
  image_goes text used e =
      by_judged (measured bytes)
      (λ fs f.
      let same : ◌≡◌ {A = Turn} (goes_on (figure_lines fs) (length (front bytes))) (goes_on text used) =
      sym (ap (judged_turn more beyond (front bytes)) f) ∙ e in
      let many : length (front bytes) ≡ used = cc in
      (omega (arith, front_some bytes fs f), omega (arith, front_inside bytes)))
      (λ r f. refused_stays more beyond (front bytes) r text used (sym (ap (judged_turn more beyond (front bytes)) f) ∙ e))

  image_waits : image_turn more beyond bytes ≡ waits → (more ≡ true) × (beyond ≡ false)
  image_waits e =
      by_judged (measured bytes)
      (λ fs f.
      let never : ◌≡◌ {A = Turn} (goes_on (figure_lines fs) (length (front bytes))) waits = sym (ap (judged_turn more beyond (front bytes)) f) ∙ e in
      clash (cc))
      (λ r f. refused_waits more beyond (front bytes) r (sym (ap (judged_turn more beyond (front bytes)) f) ∙ e))

  -- where there are bytes beyond, it does not matter whether more can come
  image_beyond : image_turn more true bytes ≡ image_turn true true bytes
  image_beyond =
      by_judged (measured bytes)
      (λ fs f. ap (judged_turn more true (front bytes)) f ∙ sym (ap (judged_turn true true (front bytes)) f))
      (λ r f. ap (judged_turn more true (front bytes)) f ∙ sym (ap (judged_turn true true (front bytes)) f))

  -- an image that does not wait comes to the same whatever follows
  image_same : (rest : List ℕ) → (image_turn true false bytes ≡ waits → ⊥) → image_turn more beyond (bytes ++ rest) ≡ image_turn true false bytes
  image_same rest n =
      let not-one : (place : ℕ) → measured bytes ≡ refuses (refusal 1 place) → ⊥ = λ place e. n (ap (judged_turn true false (front bytes)) e) in
      let f = fronts_more bytes rest not-one in
      by_judged (measured bytes)
      (λ fs e.
      ap (judged_turn more beyond (front (bytes ++ rest))) (f.same ∙ e)
      ∙ ap (λ (image : List ℕ). goes_on (figure_lines fs) (length image)) (f.same_front fs e)
      ∙ sym (ap (judged_turn true false (front bytes)) e))
      (λ r e.
      let k : r.number ≡ 1 → ⊥ = λ one. not-one r.place (e ∙ ap (λ (number : ℕ). refuses (refusal number r.place)) one) in
      ap (judged_turn more beyond (front (bytes ++ rest))) (f.same ∙ e)
      ∙ refused_other more beyond (front (bytes ++ rest)) r k
      ∙ ap (λ (l : Located). stops (refused_text l)) (f.same_located r e)
      ∙ sym (refused_other true false (front bytes) r k)
      ∙ sym (ap (judged_turn true false (front bytes)) e))

-- no bytes never go on, and wait where more can come
none_stays : {A : Type 0} (more : Bool) (images : ℕ) (text : List ℕ) (used : ℕ) → turn [] more images ≡ goes_on text used → A
unfolding turn
none_stays true images text used e = clash (cc)
none_stays false images text used e =
    by_bool (eqb images 0) (λ z. let never = rw z at e in clash (cc)) (λ z. let never = rw z at e in clash (cc))

none_waits : (more : Bool) (images : ℕ) → turn [] more images ≡ waits → more ≡ true
unfolding turn
none_waits true images e = refl
none_waits false images e =
    by_bool (eqb images 0) (λ z. let never = rw z at e in clash (cc)) (λ z. let never = rw z at e in clash (cc))

-- a turn that goes on
pub record Goes (held : List ℕ) (images used : ℕ) : Type 0 where
  pub some : 1 ≤ used
  pub inside : used ≤ length held
  pub not_last : images ≡ most_images → ⊥

module _ (held : List ℕ) (more : Bool) (images : ℕ) where
  pub turn_goes : (text : List ℕ) (used : ℕ) → turn held more images ≡ goes_on text used → Goes held images used
  turn_goes text used e =
      by_le 1 (length held)
      (λ l.
      by_eq images most_images (λ last. let never = sym (last_turn held more images l last) ∙ e in clash (cc))
      (λ n.
      let w = image_goes more (ltb longest_input (length held)) (take longest_input held) text used (sym (held_turn held more images l n) ∙ e) in
      record { some = w.0; inside = omega (arith, w.1, length-take longest_input held); not_last = n }))
      (λ l. none_stays more images text used (sym (none_turn held more images (omega arith)) ∙ e))

  -- one that waits
  pub turn_waits : turn held more images ≡ waits → (more ≡ true) × (length held ≤ longest_input)
  turn_waits e =
      by_le 1 (length held)
      (λ l.
      by_eq images most_images (λ last. let never = sym (last_turn held more images l last) ∙ e in clash (cc))
      (λ n.
      let w = image_waits more (ltb longest_input (length held)) (take longest_input held) (sym (held_turn held more images l n) ∙ e) in
      (w.0, ltb-false longest_input (length held) w.1)))
      (λ l. (none_waits more images (sym (none_turn held more images (omega arith)) ∙ e), omega arith))

  -- the first 65,537 bytes decide what a turn comes to
  pub first_bytes_decide : turn (take (suc longest_input) held) more images ≡ turn held more images
  first_bytes_decide =
      by_le (suc longest_input) (length held)
      (λ l.
      let many = length-take (suc longest_input) held in
      by_eq images most_images
      (λ last. last_turn (take (suc longest_input) held) more images (omega arith) last ∙ sym (last_turn held more images (omega arith) last))
      (λ n.
      long_turn (take (suc longest_input) held) more images (omega arith) n (omega arith)
      ∙ ap (image_turn more true) (take-take longest_input (suc longest_input) held (omega arith))
      ∙ sym (long_turn held more images (omega arith) n (omega arith))))
      (λ l. ap (λ (bytes : List ℕ). turn bytes more images) (take_all (suc longest_input) held (omega arith)))

-- so many bytes, of one list and of what follows it
take_behind : (m : ℕ) (bytes rest : List ℕ) → length bytes ≤ m → take m (bytes ++ rest) ≡ bytes ++ take (m - length bytes) rest
take_behind m bytes rest l =
    let e : m ≡ length bytes + (m - length bytes) = omega arith in
    ap (λ (k : ℕ). take k (bytes ++ rest)) e ∙ take-append-add bytes rest (m - length bytes)

-- a turn that does not wait comes to the same with whatever follows, and whether more can come or not
pub no_further : (held rest : List ℕ) (more : Bool) (images : ℕ) → (turn held true images ≡ waits → ⊥) → turn (held ++ rest) more images ≡ turn held true images
unfolding turn
no_further held rest more images n =
    let many = length-append held rest in
    by_le 1 (length held)
    (λ l.
    by_eq images most_images
    (λ last. last_turn (held ++ rest) more images (omega arith) last ∙ sym (last_turn held true images l last))
    (λ k.
    by_le (suc longest_input) (length held)
    (λ long.
    long_turn (held ++ rest) more images (omega arith) k (omega arith)
    ∙ ap (image_turn more true) (take-append-le longest_input held rest (omega arith))
    ∙ image_beyond more true (take longest_input held)
    ∙ sym (long_turn held true images l k (omega arith)))
    (λ short.
    let whole = whole_turn held true images l k (omega arith) in
    held_turn (held ++ rest) more images (omega arith) k
    ∙ ap (image_turn more (ltb longest_input (length (held ++ rest)))) (take_behind longest_input held rest (omega arith))
    ∙ image_same more (ltb longest_input (length (held ++ rest))) held (take (longest_input - length held) rest) (λ w. n (whole ∙ w))
    ∙ sym whole)))
    (λ l. absurd (n (none_turn held true images (omega arith))))
