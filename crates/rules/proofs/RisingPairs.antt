-- Tables of inversions by their records: which records a table has, strictly rising pairs by positions, and that rising tables with the same records
-- are the same. Assumes nothing.
use mathlib.Core.Path.{◌≡◌, refl, sym, ◌∙◌}
use mathlib.Core.Logic.{◌↔◌, ◌⊎◌, inl, inr}
use mathlib.Core.Bool.{Bool, true}
use mathlib.Core.List.{List, [], ◌∷◌, Memᴰ}
use mathlib.Core.Option.{some}
use Prim.Native.Nat.{ℕ, zero, suc, ◌<◌}
use native.Mathlib.Omega.{arith}
use lib.ListN.{length}
use Rattle.rules.specs.declared.Inversion.{Inversion}
use Rattle.rules.specs.Irregularities.{at_most, insert}
use Rattle.rules.specs.Decision.{delay_of}
use Rattle.rules.specs.Order.{PairRises}
use Rattle.rules.proofs.Cases.{by_bool, by_pair, clash}
use Rattle.rules.proofs.Theory.{Pairs}
use Rattle.rules.proofs.Pairs.{at_most_lt, at_most_le, at_most_true, at_most_zero, at_most_next, above_ne, delay_here, delay_there, inversion_path}
use Rattle.rules.proofs.Derived.{Every}

-- a record of a table is its first or a later one
by_cons : {A : Type 0} {r s : Inversion} {p : List Inversion} → Memᴰ r (s ∷ p) → (r ≡ s → A) → (Memᴰ r p → A) → A
by_cons (mathlib.Core.List.Memᴰ.head q) is-first is_later = is-first q
by_cons (mathlib.Core.List.Memᴰ.tail m) is-first is_later = is_later m

-- a record is in the table that it was inserted into
pub inserted : {r : Inversion} (e : Inversion) (p : List Inversion) → r ≡ e → Memᴰ r (insert e p)
inserted e [] q = mathlib.Core.List.Memᴰ.head q
inserted e (s ∷ p) q =
    by_bool (at_most e.task e.job s.task s.job) (λ b. rw (b, insert) (mathlib.Core.List.Memᴰ.head q))
    (λ b. rw (b, insert) (mathlib.Core.List.Memᴰ.tail (inserted e p q)))

-- and so are the records that were there
pub kept : {r : Inversion} (e : Inversion) (p : List Inversion) → Memᴰ r p → Memᴰ r (insert e p)
kept {r = r} e [] m = elim m [ ]
kept e (s ∷ p) (mathlib.Core.List.Memᴰ.head q) =
    by_bool (at_most e.task e.job s.task s.job) (λ b. rw (b, insert) (mathlib.Core.List.Memᴰ.tail (mathlib.Core.List.Memᴰ.head q)))
    (λ b. rw (b, insert) (mathlib.Core.List.Memᴰ.head q))
kept e (s ∷ p) (mathlib.Core.List.Memᴰ.tail m) =
    by_bool (at_most e.task e.job s.task s.job) (λ b. rw (b, insert) (mathlib.Core.List.Memᴰ.tail (mathlib.Core.List.Memᴰ.tail m)))
    (λ b. rw (b, insert) (mathlib.Core.List.Memᴰ.tail (kept e p m)))

-- and no other
pub by_insert : {A : Type 0} {r : Inversion} (e : Inversion) (p : List Inversion) → Memᴰ r (insert e p) → (r ≡ e → A) → (Memᴰ r p → A) → A
by_insert e [] (mathlib.Core.List.Memᴰ.head q) is-new was-there = is-new q
by_insert e [] (mathlib.Core.List.Memᴰ.tail m) is-new was-there = was-there m
by_insert {A} {r} e (s ∷ p) m is-new was-there =
    by_bool (at_most e.task e.job s.task s.job)
    (λ b. let m' : Memᴰ r (e ∷ s ∷ p) = rw (b, insert) at m in
    by_cons m' is-new was-there)
    (λ b. let m' : Memᴰ r (s ∷ insert e p) = rw (b, insert) at m in
    by_cons m' (λ q. was-there (mathlib.Core.List.Memᴰ.head q)) (λ n. by_insert e p n is-new (λ l. was-there (mathlib.Core.List.Memᴰ.tail l))))

-- pairs that rise from a pair on strictly rise by positions
pub pairs_rise : (i k : ℕ) (p : List Inversion) → Pairs i k p → (j : ℕ) → j < length p → PairRises p j
pairs_rise i k p z zero lt = tt
pairs_rise i k [] z (suc j) lt = absurd (omega arith)
pairs_rise i k (r ∷ []) z (suc j) lt = absurd (omega arith)
pairs_rise i k (r ∷ s ∷ p) z (suc zero) lt =
    at_most_true r.task (suc r.job) s.task s.job z.1.0 (λ above. inl above) (λ same above. inr (same, above))
pairs_rise i k (r ∷ s ∷ p) z (suc (suc j)) lt = pairs_rise r.task (suc r.job) (s ∷ p) z.1 (suc j) (omega arith)

-- what rises by positions does so behind the first record
later_rise : (r : Inversion) (p : List Inversion) → ((j : ℕ) → j < length (r ∷ p) → PairRises (r ∷ p) j) → (j : ℕ) → j < length p → PairRises p j
later_rise r p rises zero lt = tt
later_rise r p rises (suc j) lt = rises (suc (suc j)) (omega arith)

-- a pair above another is at or above the one next to it
above_pair : (i k j l : ℕ) → (i < j) ⊎ ((i ≡ j) × (k < l)) → at_most i (suc k) j l ≡ true
above_pair i k j l (inl lt) = at_most_lt i (suc k) j l lt
above_pair i k j l (inr same) = at_most_le i (suc k) j l same.0 same.1

-- the records behind the first rise from the pair next to the first's
rise_after : (r : Inversion) (p : List Inversion) → ((j : ℕ) → j < length (r ∷ p) → PairRises (r ∷ p) j) → Pairs r.task (suc r.job) p
rise_after r [] rises = tt
rise_after r (s ∷ p) rises = (
  above_pair r.task r.job s.task s.job (rises 1 (omega arith)),
  rise_after s p (later_rise r (s ∷ p) rises),
)

-- what strictly rises by positions rises from the lowest pair on
pub rise_pairs : (p : List Inversion) → ((j : ℕ) → j < length p → PairRises p j) → Pairs 0 0 p
rise_pairs [] rises = tt
rise_pairs (r ∷ p) rises = (at_most_zero r.task r.job, rise_after r p rises)

-- a record of a table is not below the table's bound
pub not_below : {r : Inversion} (a b : ℕ) (p : List Inversion) → Pairs a b p → Memᴰ r p → at_most a b r.task r.job ≡ true
not_below {r = r} a b [] z m = elim m [ ]
not_below a b (s ∷ p) z (mathlib.Core.List.Memᴰ.head q) = rw q z.0
not_below {r} a b (s ∷ p) z (mathlib.Core.List.Memᴰ.tail m) =
    at_most_next a b s.task s.job r.task r.job z.0 (not_below s.task (suc s.job) p z.1 m)

-- a record behind the first of a table is another than the first
not_first : {r : Inversion} (s : Inversion) (p : List Inversion) → Pairs s.task (suc s.job) p → Memᴰ r p → r ≡ s → ⊥
not_first s p z m q =
    above_ne s.task s.job _ _ (not_below s.task (suc s.job) p z m) (rw q) (rw q)

-- rising tables with the same records are the same
pub same_records : (a b c d : ℕ) (p q : List Inversion) → Pairs a b p → Pairs c d q → ((r : Inversion) → Memᴰ r p ↔ Memᴰ r q) → p ≡ q
same_records a b c d [] [] y z same = refl
same_records a b c d [] (s ∷ q) y z same = absurd (mathlib.Core.List.Memᴰ.not-nil ((same s).1 (mathlib.Core.List.Memᴰ.head refl)))
same_records a b c d (r ∷ p) [] y z same = absurd (mathlib.Core.List.Memᴰ.not-nil ((same r).0 (mathlib.Core.List.Memᴰ.head refl)))
same_records a b c d (r ∷ p) (s ∷ q) y z same =
    let firsts : r ≡ s =
    by_cons ((same r).0 (mathlib.Core.List.Memᴰ.head refl)) (λ e. e)
    (λ m. by_cons ((same s).1 (mathlib.Core.List.Memᴰ.head refl)) (λ e. sym e)
    (λ n. absurd
    (above_ne s.task s.job s.task s.job
    (at_most_next s.task (suc s.job) r.task r.job s.task s.job (not_below s.task (suc s.job) q z.1 m)
    (not_below r.task (suc r.job) p y.1 n)) refl refl))) in
    rw (
      firsts,
      same_records r.task (suc r.job) s.task (suc s.job) p q y.1 z.1 (λ m. (
        λ n. by_cons ((same m).0 (mathlib.Core.List.Memᴰ.tail n)) (λ e. absurd (not_first r p y.1 n (e ∙ sym firsts))) (λ l. l),
        λ n. by_cons ((same m).1 (mathlib.Core.List.Memᴰ.tail n)) (λ e. absurd (not_first s q z.1 n (e ∙ firsts))) (λ l. l),
      )),
    )

-- what every record of a table passes, one that it has passes
pub member_passes : {r : Inversion} (passes : Inversion → Bool) (p : List Inversion) → Every passes p → Memᴰ r p → passes r ≡ true
member_passes {r = r} passes [] z m = elim m [ ]
member_passes passes (s ∷ p) z (mathlib.Core.List.Memᴰ.head q) = rw q z.0
member_passes passes (s ∷ p) z (mathlib.Core.List.Memᴰ.tail m) = member_passes passes p z.1 m

-- the delay that a table has for a job is a record of it
pub delay_has : (p : List Inversion) (i k d : ℕ) → delay_of p i k ≡ some d → Memᴰ (record { task = i; job = k; delay = d }) p
delay_has [] i k d e = clash (cc)
delay_has (s ∷ p) i k d e =
    by_pair s.task i s.job k
    (λ u v. let g : some s.delay ≡ some d = sym (delay_here s p i k u v) ∙ e in mathlib.Core.List.Memᴰ.head (inversion_path _ s (sym u) (sym v) (cc)))
    (λ n. mathlib.Core.List.Memᴰ.tail (delay_has p i k d (sym (delay_there s p i k n) ∙ e)))

-- and of a rising table every record is the delay of its job
pub has_delay : {r : Inversion} (a b : ℕ) (p : List Inversion) → Pairs a b p → Memᴰ r p → delay_of p r.task r.job ≡ some r.delay
has_delay {r = r} a b [] z m = elim m [ ]
has_delay {r} a b (s ∷ p) z (mathlib.Core.List.Memᴰ.head q) = delay_here s p r.task r.job (rw q) (rw q) ∙ rw q
has_delay {r} a b (s ∷ p) z (mathlib.Core.List.Memᴰ.tail m) =
    delay_there s p r.task r.job (above_ne s.task s.job r.task r.job (not_below s.task (suc s.job) p z.1 m))
    ∙ has_delay s.task (suc s.job) p z.1 m
