-- One start more: what it adds to what replay gives, to what has started, and to the inversions that are derived. Assumes nothing.
use mathlib.Core.Path.{◌≡◌, refl, sym, ◌∙◌, ap}
use mathlib.Core.List.{List, [], ◌∷◌, ◌++◌}
use Prim.Native.Nat.{ℕ, zero, suc, ◌+◌, ◌≤◌}
use native.Mathlib.Omega.{arith}
use lib.ListN.{length, take, drop}
use borrow.Author.Tests.{eq-eqb, ne_eqb}
use Rattle.fields.specs.Body.{tail₀}
use Rattle.rules.specs.declared.Task.{Task}
use Rattle.rules.specs.declared.Entry.{Entry}
use Rattle.rules.specs.Tasks.{Set}
use Rattle.rules.specs.Refusals.{Judged, gives, refuses, refusal}
use Rattle.rules.specs.Timetable.{count}
use Rattle.rules.specs.Setting.{Setting}
use Rattle.rules.specs.Priority.{slot, start_job, setting_of}
use Rattle.rules.specs.Irregularities.{runs, inversion_of, inversions}
use Rattle.rules.specs.Decision.{delay_of, start_before}
use Rattle.rules.proofs.Cases.{by_bool, by_eq, by_pair, by_judged, clash}
use Rattle.rules.proofs.Pairs.{delay_insert_same}
use Rattle.rules.proofs.RoundTrip.{inversion_of_rest}
use Rattle.rules.proofs.PriorityLaws.{slot_start_same, slot_start_other}
use Rattle.rules.proofs.ValidTimetables.{jobs_left}
use Rattle.rules.proofs.Slots.{Same}

-- starts put before what replay goes on with; a refusal's place is counted from the first of them
abbrev pub starts_before : List Entry → Judged (List Entry) → Judged (List Entry)
starts_before [] z = z
starts_before (e ∷ σ) z = start_before e (starts_before σ z)

-- one start more before what replay goes on with
pub starts_before_more : (σ : List Entry) (e : Entry) (z : Judged (List Entry)) → starts_before (σ ++ (e ∷ [])) z ≡ starts_before σ (start_before e z)
starts_before_more [] e z = refl
starts_before_more (d ∷ σ) e z = ap (start_before d) (starts_before_more σ e z)

-- starts before no more of them are those starts
pub starts_before_end : (σ : List Entry) → starts_before σ (gives []) ≡ gives σ
starts_before_end [] = refl
starts_before_end (e ∷ σ) = ap (start_before e) (starts_before_end σ)

-- a refusal behind starts has its place moved by their number
pub starts_before_refusal : (σ : List Entry) (number : ℕ) → starts_before σ (refuses (refusal number 0)) ≡ refuses (refusal number (length σ))
starts_before_refusal [] number = refl
starts_before_refusal (e ∷ σ) number = ap (start_before e) (starts_before_refusal σ number)

-- where the first starts of a timetable stand before what replay goes on with and give it, replay goes on with the rest
pub starts_given : (r : ℕ) (τ : List Entry) (z : Judged (List Entry)) → starts_before (take r τ) z ≡ gives τ → z ≡ gives (drop r τ)
starts_given zero τ z e = e
starts_given (suc r) [] z e = e
starts_given (suc r) (d ∷ τ) z e =
    by_judged (starts_before (take r τ) z)
    (λ υ q. let g : gives (d ∷ υ) ≡ gives (d ∷ τ) = rw (q, start_before) at e in
    let same : υ ≡ τ = cc in
    starts_given r τ z (q ∙ ap gives same))
    (λ n q. let g : refuses (refusal n.number (suc n.place)) ≡ gives (d ∷ τ) = rw (q, start_before) at e in clash (cc))

-- what a start before the others gives begins with it
pub start_given : (d e : Entry) (z : Judged (List Entry)) (τ : List Entry) → start_before d z ≡ gives (e ∷ τ) → d ≡ e
start_given d e (gives υ) τ g = cc
start_given d e (refuses n) τ g = clash (cc)

-- what has started after starts in turn
abbrev pub after_starts : List ℕ → List Entry → List ℕ
after_starts x [] = x
after_starts x (e ∷ σ) = after_starts (start_job x e.task) σ

-- after one start more
pub after_one_more : (x : List ℕ) (σ : List Entry) (e : Entry) → after_starts x (σ ++ (e ∷ [])) ≡ start_job (after_starts x σ) e.task
after_one_more x [] e = refl
after_one_more x (d ∷ σ) e = after_one_more (start_job x d.task) σ e

-- next job numbers count the starts
pub after_counts : (x : List ℕ) (σ : List Entry) (i : ℕ) → slot (after_starts x σ) i ≡ slot x i + count i σ
after_counts x [] i = omega arith
after_counts x (e ∷ σ) i =
    by_eq e.task i
    (λ u. let own : slot (start_job x e.task) i ≡ suc (slot x i) = rw u (slot_start_same x i) in
    rw (eq-eqb e.task i u) (omega (arith, after_counts (start_job x e.task) σ i)))
    (λ u. rw (ne_eqb e.task i u) (omega (arith, after_counts (start_job x e.task) σ i, slot_start_other x e.task i (λ q. u (sym q)))))

-- a start moves no next job number back
start_forward : (x : List ℕ) (j i : ℕ) → slot x i ≤ slot (start_job x j) i
start_forward x j i =
    by_eq i j (λ u. rw u (omega (arith, slot_start_same x j))) (λ u. omega (arith, slot_start_other x j i u))

-- and so do starts in turn
after_forward : (x : List ℕ) (σ : List Entry) (i : ℕ) → slot x i ≤ slot (after_starts x σ) i
after_forward x [] i = omega arith
after_forward x (e ∷ σ) i = omega (arith, start_forward x e.task i, after_forward (start_job x e.task) σ i)

-- the jobs not yet started depend only on the slots of the set's tasks
pub jobs_left_same : (h : ℕ) (ts : List Task) (x y : List ℕ) → Same (length ts) x y → jobs_left h ts x ≡ jobs_left h ts y
jobs_left_same h [] x y s = refl
jobs_left_same h (t ∷ ts) x y s =
    omega (arith, s 0 (omega arith), jobs_left_same h ts (tail₀ x) (tail₀ y) (λ i l. s (suc i) (omega arith)))

module _ (ts : Set) (h : ℕ) where
  abbrev G : Setting
  G = setting_of ts h

  -- one start more leaves the derived records of other jobs as they are
  pub inversions_other : (x : List ℕ) (σ : List Entry) (e : Entry) (i k : ℕ) → (e.task ≡ i → slot (after_starts x σ) e.task ≡ k → ⊥) →
      delay_of (inversions G x (σ ++ (e ∷ []))) i k ≡ delay_of (inversions G x σ) i k
  inversions_other x [] e i k n = inversion_of_rest G x e [] i k n
  inversions_other x (d ∷ σ) e i k n =
      let y : List ℕ = start_job x d.task in
      let rest = inversions_other y σ e i k n in
      by_pair d.task i (slot x d.task) k
      (λ u v. by_bool (runs (G.baseline x d.start) d.task) (λ b. rw b rest)
      (λ b. rw (b, ← u, ← v)
      (delay_insert_same (inversion_of G x d) (inversions G y (σ ++ (e ∷ []))) ∙ sym (delay_insert_same (inversion_of G x d) (inversions G y σ)))))
      (λ m. inversion_of_rest G x d (σ ++ (e ∷ [])) i k m ∙ rest ∙ sym (inversion_of_rest G x d σ i k m))

  -- and the derived record of its own job is the one derived from there
  pub inversions_own : (x : List ℕ) (σ : List Entry) (e : Entry) →
      delay_of (inversions G x (σ ++ (e ∷ []))) e.task (slot (after_starts x σ) e.task)
      ≡ delay_of (inversions G (after_starts x σ) (e ∷ [])) e.task (slot (after_starts x σ) e.task)
  inversions_own x [] e = refl
  inversions_own x (d ∷ σ) e =
      let y : List ℕ = start_job x d.task in
      inversion_of_rest G x d (σ ++ (e ∷ [])) e.task (slot (after_starts y σ) e.task)
      (λ u v. let a : slot y d.task ≤ slot (after_starts y σ) d.task = after_forward y σ d.task in
      let b : slot (after_starts y σ) e.task ≡ slot (after_starts y σ) d.task = rw u in
      omega (arith, slot_start_same x d.task))
      ∙ inversions_own y σ e
