-- Inversion records: the order of pairs (task, job), and a table's delay for a job. Assumes nothing.
use mathlib.Core.Path.{◌≡◌, refl, sym, ◌∙◌}
use mathlib.Core.Bool.{true, false}
use mathlib.Core.List.{List, [], ◌∷◌}
use mathlib.Core.Option.{none, some}
use Prim.Native.Nat.{ℕ, suc, ◌≤◌, ◌<◌}
use native.Mathlib.Omega.{arith}
use lib.ListN.{length}
use borrow.Author.Tests.{ltb-true, ltb-false, leb-true, leb-false, lt-ltb, le-leb, eq-eqb, ne_eqb}
use Rattle.rules.specs.declared.Idle.{Idle}
use Rattle.rules.specs.declared.Inversion.{Inversion}
use Rattle.rules.specs.Irregularities.{at_most, insert}
use Rattle.rules.specs.Decision.{is_of, delay_of}
use Rattle.rules.proofs.Theory.{Pairs}
use Rattle.rules.proofs.Cases.{by_bool, by_eq, by_pair, differ, clash}

-- inversion tables
pub delay_here : (r : Inversion) (p : List Inversion) (i k : ℕ) → r.task ≡ i → r.job ≡ k → delay_of (r ∷ p) i k ≡ some r.delay
delay_here r p i k h g = rw (eq-eqb _ _ h, eq-eqb _ _ g, delay_of)

pub delay_there : (r : Inversion) (p : List Inversion) (i k : ℕ) → (r.task ≡ i → r.job ≡ k → ⊥) → delay_of (r ∷ p) i k ≡ delay_of p i k
delay_there r p i k h =
    by_eq r.task i (λ e. by_eq r.job k (λ g. absurd (h e g)) (λ g. simp (eq-eqb _ _ e, ne_eqb _ _ g, delay_of)))
    (λ e. simp (ne_eqb _ _ e, delay_of))

not_at_most : (i k j l : ℕ) → at_most i k j l ≡ false → j ≡ i → l ≡ k → ⊥
not_at_most i k j l b u v =
    let w : at_most i k j l ≡ true = simp (eq-eqb i j (sym u), at_most) (le-leb k l (omega arith)) in
    differ (sym w ∙ b)

pub delay_insert_same : (e : Inversion) (p : List Inversion) → delay_of (insert e p) e.task e.job ≡ some e.delay
delay_insert_same e [] = delay_here e [] _ _ refl refl
delay_insert_same e (r ∷ p) =
    by_bool (at_most e.task e.job r.task r.job) (λ b. rw (b, insert) (delay_here e (r ∷ p) _ _ refl refl))
    (λ b. rw (b, insert) (delay_there r (insert e p) _ _ (not_at_most e.task e.job r.task r.job b) ∙ delay_insert_same e p))

pub delay_insert_other : (e : Inversion) (p : List Inversion) (i k : ℕ) → (e.task ≡ i → e.job ≡ k → ⊥) → delay_of (insert e p) i k ≡ delay_of p i k
delay_insert_other e [] i k h = delay_there e [] i k h
delay_insert_other e (r ∷ p) i k h =
    by_bool (at_most e.task e.job r.task r.job) (λ b. rw (b, insert) (delay_there e (r ∷ p) i k h))
    (λ b. rw (b, insert)
    (by_bool (is_of r i k) (λ c. simp (c, delay_of))
    (λ c. rw (c, delay_of) (delay_insert_other e p i k h))))

-- the order of pairs
pub at_most_lt : (i k j l : ℕ) → i < j → at_most i k j l ≡ true
at_most_lt i k j l h = rw (ne_eqb i j (omega arith), at_most) (lt-ltb i j h)

pub at_most_le : (i k j l : ℕ) → i ≡ j → k ≤ l → at_most i k j l ≡ true
at_most_le i k j l e h = rw (eq-eqb i j e, at_most) (le-leb k l h)

pub at_most_true : {A : Type 0} (i k j l : ℕ) → at_most i k j l ≡ true → (i < j → A) → (i ≡ j → k ≤ l → A) → A
at_most_true i k j l b lt le =
    by_eq i j (λ e. le e (leb-true k l (rw (eq-eqb i j e, at_most) at b))) (λ e. lt (ltb-true i j (rw (ne_eqb i j e, at_most) at b)))

pub at_most_false : {A : Type 0} (i k j l : ℕ) → at_most i k j l ≡ false → (j < i → A) → (i ≡ j → l < k → A) → A
at_most_false i k j l b lt le =
    by_eq i j (λ e. le e (leb-false k l (rw (eq-eqb i j e, at_most) at b)))
    (λ e. let h : j ≤ i = ltb-false i j (rw (ne_eqb i j e, at_most) at b) in lt (omega arith))

pub at_most_zero : (i k : ℕ) → at_most 0 0 i k ≡ true
at_most_zero i k = by_eq 0 i (λ e. at_most_le 0 0 i k e (omega arith)) (λ e. at_most_lt 0 0 i k (omega arith))

pub at_most_next : (a b i k j l : ℕ) → at_most a b i k ≡ true → at_most i (suc k) j l ≡ true → at_most a b j l ≡ true
at_most_next a b i k j l p q =
    at_most_true a b i k p
    (λ u. at_most_true i (suc k) j l q (λ v. at_most_lt a b j l (omega arith)) (λ v w. at_most_lt a b j l (omega arith)))
    (λ u y. at_most_true i (suc k) j l q (λ v. at_most_lt a b j l (omega arith)) (λ v w. at_most_le a b j l (omega arith) (omega arith)))

pub at_most_trans : (a b i k j l : ℕ) → at_most a b i k ≡ true → at_most i k j l ≡ true → at_most a b j l ≡ true
at_most_trans a b i k j l p q =
    at_most_true a b i k p
    (λ u. at_most_true i k j l q (λ v. at_most_lt a b j l (omega arith)) (λ v w. at_most_lt a b j l (omega arith)))
    (λ u y. at_most_true i k j l q (λ v. at_most_lt a b j l (omega arith)) (λ v w. at_most_le a b j l (omega arith) (omega arith)))

pub above_ne : (a b i k : ℕ) → at_most a (suc b) i k ≡ true → a ≡ i → b ≡ k → ⊥
above_ne a b i k h u w = at_most_true a (suc b) i k h (λ y. omega arith) (λ y v. omega arith)

-- a record insert into a table that has none for its pair
pub insert_pairs : (a b : ℕ) (e : Inversion) (p : List Inversion) → Pairs a b p → at_most a b e.task e.job ≡ true → delay_of p e.task e.job ≡ none →
    Pairs a b (insert e p)
insert_pairs a b e [] z h n = (h, tt)
insert_pairs a b e (r ∷ p) z h n =
    let other : r.task ≡ e.task → r.job ≡ e.job → ⊥ =
    λ u v. let g : some r.delay ≡ none = sym (delay_here r p e.task e.job u v) ∙ n in
    let c : ◌≡◌ {A = ℕ} 0 1 = cc in omega arith in
    by_bool (at_most e.task e.job r.task r.job)
    (λ c. rw (c, insert) (
      h,
      (
        at_most_true e.task e.job r.task r.job c (λ lt. at_most_lt e.task (suc e.job) r.task r.job lt)
            (λ u v. at_most_le e.task (suc e.job) r.task r.job u (by_eq r.job e.job (λ y. absurd (other (sym u) y)) (λ y. omega arith))),
        z.1,
      ),
    ))
    (λ c. rw (c, insert) (
      z.0,
      insert_pairs r.task (suc r.job) e p z.1
          (at_most_false e.task e.job r.task r.job c (λ lt. at_most_lt r.task (suc r.job) e.task e.job lt)
          (λ u v. at_most_le r.task (suc r.job) e.task e.job (sym u) v))
          (sym (delay_there r p e.task e.job other) ∙ n),
    ))

-- the pair of a record that a table has is not below the table's bound
pub delay_bound : (a b : ℕ) (p : List Inversion) → Pairs a b p → (i k d : ℕ) → delay_of p i k ≡ some d → at_most a b i k ≡ true
delay_bound a b [] z i k d g = let c : ◌≡◌ {A = ℕ} 0 1 = cc in absurd (omega arith)
delay_bound a b (r ∷ p) z i k d g =
    let next : at_most r.task (suc r.job) i k ≡ true → at_most a b i k ≡ true = at_most_next a b r.task r.job i k z.0 in
    by_eq r.task i
    (λ u. by_eq r.job k (λ v. rw (← u, ← v) z.0)
    (λ v. next (delay_bound r.task (suc r.job) p z.1 i k d (sym (delay_there r p i k (λ _ y. v y)) ∙ g))))
    (λ u. next (delay_bound r.task (suc r.job) p z.1 i k d (sym (delay_there r p i k (λ y _. u y)) ∙ g)))

-- one list within another, in order
pub data Sub {A : Type 0} : List A → List A → Type 0 where
  sub_nil : Sub [] []
  sub_skip : {a : A} {p q : List A} → Sub p q → Sub p (a ∷ q)
  sub_same : {a : A} {p q : List A} → Sub p q → Sub (a ∷ p) (a ∷ q)

pub sub_none : {A : Type 0} (q : List A) → Sub [] q
sub_none [] = sub_nil
sub_none (a ∷ q) = sub_skip (sub_none q)

pub sub_length : {A : Type 0} {p q : List A} → Sub p q → length p ≤ length q
sub_length sub_nil = omega arith
sub_length (sub_skip s) = omega (arith, sub_length s)
sub_length (sub_same s) = omega (arith, sub_length s)

pub inversion_path : (r s : Inversion) → r.task ≡ s.task → r.job ≡ s.job → r.delay ≡ s.delay → r ≡ s
inversion_path r s a b c = λ i. record { task = a i; job = b i; delay = c i }

pub idle_path : (r s : Idle) → r.start ≡ s.start → r.length ≡ s.length → r ≡ s
idle_path r s a b = λ i. record { start = a i; length = b i }

-- of two tables in order, the one whose records the other has is within it
pub sub_of : (a b c d : ℕ) (p q : List Inversion) → Pairs a b p → Pairs c d q → ((i k v : ℕ) → delay_of q i k ≡ some v → delay_of p i k ≡ some v) → Sub q p
sub_of a b c d p [] y z h = sub_none p
sub_of a b c d [] (s ∷ q) y z h =
    let g : none ≡ some s.delay = h s.task s.job s.delay (delay_here s q s.task s.job refl refl) in clash (cc)
sub_of a b c d (r ∷ p) (s ∷ q) y z h =
    let g : delay_of (r ∷ p) s.task s.job ≡ some s.delay = h s.task s.job s.delay (delay_here s q s.task s.job refl refl) in
    by_pair r.task s.task r.job s.job
    (λ u w.
    let g' : delay_of (r ∷ p) s.task s.job ≡ some r.delay = delay_here r p s.task s.job u w in
    let v : r.delay ≡ s.delay = cc in
    rw (inversion_path r s u w v)
    (sub_same
    (sub_of r.task (suc r.job) s.task (suc s.job) p q y.1 z.1
    (λ i k v m.
    let n : s.task ≡ i → s.job ≡ k → ⊥ = above_ne s.task s.job i k (delay_bound s.task (suc s.job) q z.1 i k v m) in
    sym (delay_there r p i k (λ e f. n (sym u ∙ e) (sym w ∙ f))) ∙ h i k v (delay_there s q i k n ∙ m)))))
    (λ n. sub_skip
    (sub_of r.task (suc r.job) c d p (s ∷ q) y.1 z
    (λ i k v m.
    let lo : at_most r.task (suc r.job) s.task s.job ≡ true =
    delay_bound r.task (suc r.job) p y.1 s.task s.job s.delay (sym (delay_there r p s.task s.job n) ∙ g) in
    let hi : at_most s.task s.job i k ≡ true =
    delay_bound s.task s.job (s ∷ q) (at_most_le s.task s.job s.task s.job refl (omega arith), z.1) i k v m in
    sym (delay_there r p i k (above_ne r.task r.job i k (at_most_trans r.task (suc r.job) s.task s.job i k lo hi))) ∙ h i k v m)))
