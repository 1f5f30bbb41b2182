-- Parts of an output that stand apart: a put at the front of one part leaves the rest of it to put, and parts that stand one behind the other are one put.
-- Assumes nothing.
use mathlib.Core.Path.{◌≡◌, refl, sym, ◌∙◌, ap}
use mathlib.Core.List.{List, [], ◌++◌, append_assoc, append-nil}
use Prim.Native.Nat.{ℕ, zero, suc, ◌+◌, ◌≤◌, ◌<◌}
use native.Mathlib.Omega.{arith}
use lib.ListN.{length, length-append}
use Rattle.rules.proofs.Cases.{by_eq}
use Rattle.writing.specs.Writing.{put_at}
use Rattle.derivation.specs.Parts.{joined, puts, Apart, LeftToPut}
use Rattle.writing.proofs.Puts.{put_none, put_length, put_next, put_apart}

-- the same parts at the same places
pub puts_same : (many i : ℕ) (places places' : ℕ → ℕ) (parts parts' : ℕ → List ℕ) (out : List ℕ) →
    ((k : ℕ) → i ≤ k → (places k ≡ places' k) × (parts k ≡ parts' k)) → puts many i places parts out ≡ puts many i places' parts' out
puts_same zero i places places' parts parts' out same = refl
puts_same (suc many) i places places' parts parts' out same =
    rw ((same i (omega arith)).0, (same i (omega arith)).1)
    (puts_same many (suc i) places places' parts parts' (put_at out (places' i) (parts' i)) (λ k l. same k (omega arith)))

-- a part of which the first bytes are put, and the place moves behind them
module _ (many room i : ℕ) (places places' : ℕ → ℕ) (parts parts' : ℕ → List ℕ) (bytes : List ℕ) (apart : Apart many places parts room)
    (is-part : i < many) (here : parts i ≡ bytes ++ parts' i) (moved : places' i ≡ places i + length bytes)
    (others : (k : ℕ) → (k ≡ i → ⊥) → (places k ≡ places' k) × (parts k ≡ parts' k)) where
  -- then all parts put are the same
  first_put : (left from : ℕ) → from + left ≡ many → from ≤ i → (out : List ℕ) → length out ≡ room →
      puts left from places' parts' (put_at out (places i) bytes) ≡ puts left from places parts out
  first_put zero from all lo out long = absurd (omega arith)
  first_put (suc left) from all lo out long =
      by_eq from i
      (λ same.
      let fits : places i + length (bytes ++ parts' i) ≤ length out = omega (arith, apart.inside i is-part, ap length here) in
      rw (same, moved, put_next out (places i) bytes (parts' i) fits, ← here)
      (sym (puts_same left (suc i) places places' parts parts' (put_at out (places i) (parts i)) (λ k l. others k (omega arith)))))
      (λ other.
      let p : places' from ≡ places from = sym (others from other).0 in
      let q : parts' from ≡ parts from = sym (others from other).1 in
      rw (p, q, ← (put_apart out (places from) (parts from) (places i) bytes (apart.in_order from i (omega arith) is-part)))
      (first_put left (suc from) (omega arith) (omega arith) (put_at out (places from) (parts from)) (put_length out (places from) (parts from) ∙ long)))

  -- and they still stand apart
  still_apart : Apart many places' parts' room
  still_apart =
      let long : length (parts i) ≡ length bytes + length (parts' i) = ap length here ∙ length-append bytes (parts' i) in
      let ends : (k : ℕ) → places' k + length (parts' k) ≡ places k + length (parts k) =
      λ k. by_eq k i (λ e. rw e (omega arith)) (λ n. omega (arith, (others k n).0, ap length (others k n).1)) in
      let begins : (k : ℕ) → places k ≤ places' k = λ k. by_eq k i (λ e. rw e (omega arith)) (λ n. omega (arith, (others k n).0)) in
      record {
        in_order = λ j k lt a_part. omega (arith, ends j, begins k, apart.in_order j k lt a_part);
        inside = λ k a_part. omega (arith, ends k, apart.inside k a_part);
      }

  -- with the first bytes of a part put, the rest of it is left
  pub rest_left : {whole : List ℕ} (out : List ℕ) → length out ≡ room → puts many 0 places parts out ≡ whole → LeftToPut many whole places' parts' (put_at out (places i) bytes)
  rest_left out long all = record {
    comes_to = first_put many 0 (omega arith) (omega arith) out long ∙ all;
    apart = rw (put_length out (places i) bytes, long) still_apart;
  }

-- parts with nothing in them leave all as it is
pub none_left : (many i : ℕ) (places : ℕ → ℕ) (parts : ℕ → List ℕ) (out : List ℕ) → ((k : ℕ) → i ≤ k → k < i + many → (places k ≤ length out) × (parts k ≡ [])) →
    puts many i places parts out ≡ out
none_left zero i places parts out none = refl
none_left (suc many) i places parts out none =
    let here = none i (omega arith) (omega arith) in
    rw (here.1, put_none out (places i) here.0) (none_left many (suc i) places parts out (λ k lo hi. none k (omega arith) (omega arith)))

module _ (parts : ℕ → List ℕ) where
  -- one part more stands behind the others
  joined_last : (many i k : ℕ) → i + many ≡ k → joined (suc many) i parts ≡ joined many i parts ++ parts k
  joined_last zero i k e = append-nil (parts i) ∙ ap parts (omega arith)
  joined_last (suc many) i k e =
      ap (λ (l : List ℕ). parts i ++ l) (joined_last many (suc i) k (omega arith)) ∙ sym (append_assoc (parts i) (joined many (suc i) parts) (parts k))

  -- and the bytes are more by its own
  pub last_length : (many : ℕ) → length (joined (suc many) 0 parts) ≡ length (joined many 0 parts) + length (parts many)
  last_length many = ap length (joined_last many 0 many (omega arith)) ∙ length-append (joined many 0 parts) (parts many)

  -- more parts have more bytes
  joined_grows : (many more i : ℕ) → many ≤ more → length (joined many i parts) ≤ length (joined more i parts)
  joined_grows zero more i le = omega arith
  joined_grows (suc many) zero i le = absurd (omega arith)
  joined_grows (suc many) (suc more) i le =
      omega (
        arith,
        length-append (parts i) (joined many (suc i) parts),
        length-append (parts i) (joined more (suc i) parts),
        joined_grows many more (suc i) (omega arith),
      )

  -- parts that stand one behind the other from a place on
  module _ (many at : ℕ) (places : ℕ → ℕ) (in-line : (k : ℕ) → k < many → places k ≡ at + length (joined k 0 parts)) (out : List ℕ)
      (fits : at + length (joined many 0 parts) ≤ length out) where
    -- stand apart
    pub line_apart : Apart many places parts (length out)
    line_apart =
        let ends : (k : ℕ) → k < many → places k + length (parts k) ≡ at + length (joined (suc k) 0 parts) =
        λ k l. omega (arith, in-line k l, last_length k) in
        record {
          in_order = λ j k lt a_part. omega (arith, ends j (omega arith), in-line k a_part, joined_grows (suc j) k 0 lt);
          inside = λ k a_part. omega (arith, ends k a_part, joined_grows (suc k) many 0 a_part);
        }

    -- from any part on, those before it being put, they are one put
    one_put_from : (left i : ℕ) → i + left ≡ many → puts left i places parts (put_at out at (joined i 0 parts)) ≡ put_at out at (joined many 0 parts)
    one_put_from zero i all = let same : i ≡ many = omega arith in rw same
    one_put_from (suc left) i all =
        let last = joined_last i 0 i (omega arith) in
        let room : at + length (joined i 0 parts ++ parts i) ≤ length out = omega (arith, ap length last, joined_grows (suc i) many 0 (omega arith)) in
        ap (puts left (suc i) places parts)
        (ap (λ (k : ℕ). put_at (put_at out at (joined i 0 parts)) k (parts i)) (in-line i (omega arith))
        ∙ put_next out at (joined i 0 parts) (parts i) room
        ∙ ap (put_at out at) (sym last))
        ∙ one_put_from left (suc i) (omega arith)

    -- are one put
    pub one_put : puts many 0 places parts out ≡ put_at out at (joined many 0 parts)
    one_put = ap (puts many 0 places parts) (sym (put_none out at (omega arith))) ∙ one_put_from many 0 (omega arith)
