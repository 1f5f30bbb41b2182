-- Tables put into an output record by record in the order of entries, each at the place of its part: what is left to put from here comes to the whole.
-- Assumes nothing.
use mathlib.Core.Path.{◌≡◌, refl, sym, ◌∙◌, ap}
use mathlib.Core.List.{List, [], ◌∷◌, ◌++◌, map, map-append}
use Prim.Native.Nat.{ℕ, zero, suc, ◌+◌, ◌*◌, ◌≤◌, ◌<◌}
use native.Mathlib.Omega.{arith}
use lib.ListN.{length, get_or, set, length-map}
use lib.Seq.{get_or-set_same, get_or-set_other}
use Rattle.rules.specs.declared.Idle.{Idle}
use Rattle.rules.specs.declared.Inversion.{Inversion}
use Rattle.rules.specs.Marks.{Mark, ID, PV, size}
use Rattle.rules.specs.Image.{Record, record_of, written, image, records, of_idle, of_inversion}
use Rattle.rules.proofs.Cases.{by_nat}
use Rattle.rules.proofs.Framed.{written_length}
use Rattle.rules.proofs.Images.{image_append, records_length}
use Rattle.writing.specs.Writing.{put_at, record_put}
use Rattle.derivation.specs.Parts.{joined, LeftToPut, idles_bytes, inversions_bytes, parts_of, places_of, sum_first, tables_bytes}
use Rattle.derivation.proofs.Parts.{puts_same, rest_left, none_left, last_length, line_apart, one_put}

module _ {n : ℕ} {whole : List ℕ} (idle_at : ℕ) (offsets out : List ℕ) where
  -- an idle put at its place
  pub idle_put : (r : Idle) (idles : List Idle) (inversions : ℕ → List Inversion) →
      LeftToPut (suc n) whole (places_of idle_at offsets) (parts_of (r ∷ idles) inversions) out →
      LeftToPut (suc n) whole (places_of (idle_at + size ID) offsets) (parts_of idles inversions) (record_put out idle_at (record_of ID (of_idle r)))
  idle_put r idles inversions z =
      rest_left (suc n) (length out) 0 (places_of idle_at offsets) (places_of (idle_at + size ID) offsets) (parts_of (r ∷ idles) inversions)
      (parts_of idles inversions) (written (record_of ID (of_idle r))) z.apart (omega arith) refl (rw (written_length ID (of_idle r)))
      (λ k other. by_nat k (λ e. absurd (other e)) (λ i e. rw e (refl, refl))) out refl z.comes_to

  -- an inversion put at its task's place
  pub inversion_put : (i : ℕ) (r : Inversion) (idles : List Idle) (inversions later : ℕ → List Inversion) → i < n → i < length offsets →
      inversions i ≡ r ∷ later i → ((k : ℕ) → (k ≡ i → ⊥) → inversions k ≡ later k) →
      LeftToPut (suc n) whole (places_of idle_at offsets) (parts_of idles inversions) out →
      LeftToPut (suc n) whole (places_of idle_at (set offsets i (get_or offsets i 0 + size PV))) (parts_of idles later)
      (record_put out (get_or offsets i 0) (record_of PV (of_inversion r)))
  inversion_put i r idles inversions later a_task a_slot here others z =
      let moved : List ℕ = set offsets i (get_or offsets i 0 + size PV) in
      rest_left (suc n) (length out) (suc i) (places_of idle_at offsets) (places_of idle_at moved) (parts_of idles inversions)
      (parts_of idles later) (written (record_of PV (of_inversion r))) z.apart (omega arith)
      (ap inversions_bytes here)
      (get_or-set_same offsets i _ 0 a_slot ∙ rw (written_length PV (of_inversion r)))
      (λ k other. by_nat k (λ e. rw e (refl, refl))
      (λ j e. let n : j ≡ i → ⊥ = λ q. other (e ∙ ap suc q) in
      rw e (sym (get_or-set_other offsets i j _ 0 n), ap inversions_bytes (others j n)))) out refl z.comes_to

  -- the same tables are left
  pub same_left : (idles idles' : List Idle) (inversions later : ℕ → List Inversion) → idles ≡ idles' → ((k : ℕ) → inversions k ≡ later k) →
      LeftToPut (suc n) whole (places_of idle_at offsets) (parts_of idles inversions) out →
      LeftToPut (suc n) whole (places_of idle_at offsets) (parts_of idles' later) out
  same_left idles idles' inversions later e f z =
      let same : (k : ℕ) → parts_of idles inversions k ≡ parts_of idles' later k =
      λ k. by_nat k (λ q. rw q (ap idles_bytes e))
      (λ j q. rw q (ap inversions_bytes (f j))) in
      record {
        comes_to =
            sym (puts_same (suc n) 0 (places_of idle_at offsets) (places_of idle_at offsets) (parts_of idles inversions) (parts_of idles' later) out (λ k l. (refl, same k)))
            ∙ z.comes_to;
        apart = record {
          in_order = λ j k lt a_part. rw (← (same j)) (z.apart.in_order j k lt a_part);
          inside = λ k a_part. rw (← (same k)) (z.apart.inside k a_part);
        };
      }

  -- with none left, the output is the whole
  pub all_put : (inversions : ℕ → List Inversion) → ((k : ℕ) → inversions k ≡ []) →
      LeftToPut (suc n) whole (places_of idle_at offsets) (parts_of [] inversions) out → out ≡ whole
  all_put inversions none z =
      sym (none_left (suc n) 0 (places_of idle_at offsets) (parts_of [] inversions) out
      (λ k lo hi. (
        omega (arith, z.apart.inside k (omega arith)),
        by_nat k (λ e. rw e) (λ i e. rw (e, none i)),
      )))
      ∙ z.comes_to

-- records of one mark behind others
records_append : (m : Mark) (vs ws : List (List ℕ)) → records m (vs ++ ws) ≡ records m vs ++ records m ws
records_append m [] ws = refl
records_append m (v ∷ vs) ws = ap (λ (rs : List Record). record_of m v ∷ rs) (records_append m vs ws)

-- the bytes of inversions, task by task
inversions_joined : (many i : ℕ) (idles : List Idle) (inversions : ℕ → List Inversion) →
    joined many (suc i) (parts_of idles inversions) ≡ inversions_bytes (joined many i inversions)
inversions_joined zero i idles inversions = refl
inversions_joined (suc many) i idles inversions =
    ap (λ (l : List ℕ). parts_of idles inversions (suc i) ++ l) (inversions_joined many (suc i) idles inversions)
    ∙ sym
    (ap image (ap (records PV) (map-append of_inversion (inversions i) (joined many (suc i) inversions)) ∙ records_append PV (map of_inversion (inversions i)) _)
    ∙ image_append (records PV (map of_inversion (inversions i))) _)

-- the bytes of tables, part by part
parts_joined : (n : ℕ) (idles : List Idle) (inversions : ℕ → List Inversion) →
    joined (suc n) 0 (parts_of idles inversions) ≡ tables_bytes idles (joined n 0 inversions)
parts_joined n idles inversions =
    ap (λ (l : List ℕ). idles_bytes idles ++ l) (inversions_joined n 0 idles inversions)
    ∙ sym (image_append (records ID (map of_idle idles)) _)

-- how long the part of the idles and the first k parts of inversions are
parts_length : (idles : List Idle) (inversions : ℕ → List Inversion) (counts : List ℕ) (n : ℕ) → ((k : ℕ) → k < n → get_or counts k 0 ≡ length (inversions k)) →
    (k : ℕ) → k ≤ n → length (joined (suc k) 0 (parts_of idles inversions)) ≡ length idles * size ID + sum_first k counts * size PV
parts_length idles inversions counts n counted zero l =
    last_length (parts_of idles inversions) 0 ∙ omega (arith, records_length ID (map of_idle idles), length-map idles of_idle)
parts_length idles inversions counts n counted (suc k) l =
    last_length (parts_of idles inversions) (suc k)
    ∙ omega (
      arith,
      parts_length idles inversions counts n counted k (omega arith),
      records_length PV (map of_inversion (inversions k)),
      length-map (inversions k) of_inversion,
      counted k l,
    )

module _ (n at : ℕ) (idles : List Idle) (inversions : ℕ → List Inversion) (counts offsets out : List ℕ)
    (counted : (k : ℕ) → k < n → get_or counts k 0 ≡ length (inversions k))
    (first : (k : ℕ) → k < n → get_or offsets k 0 ≡ at + length idles * size ID + sum_first k counts * size PV)
    (fits : at + length (tables_bytes idles (joined n 0 inversions)) ≤ length out) where
  -- before the first entry all of the tables are left
  pub all_left : LeftToPut (suc n) (put_at out at (tables_bytes idles (joined n 0 inversions))) (places_of at offsets) (parts_of idles inversions) out
  all_left =
      let all = parts_joined n idles inversions in
      let in-line : (k : ℕ) → k < suc n → places_of at offsets k ≡ at + length (joined k 0 (parts_of idles inversions)) =
      λ k l. by_nat k (λ e. rw e (omega arith))
      (λ j e. rw e (omega (arith, first j (omega arith), parts_length idles inversions counts n counted j (omega arith)))) in
      let room : at + length (joined (suc n) 0 (parts_of idles inversions)) ≤ length out = rw all fits in
      record {
        comes_to = one_put (parts_of idles inversions) (suc n) at (places_of at offsets) in-line out room ∙ ap (put_at out at) all;
        apart = line_apart (parts_of idles inversions) (suc n) at (places_of at offsets) in-line out room;
      }
