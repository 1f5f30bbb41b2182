-- Appearances of a task in a timetable: each is an entry, and no two are one job. Assumes nothing.
use mathlib.Core.Path.{◌≡◌, refl, sym, ◌∙◌, ap}
use mathlib.Core.List.{List, [], ◌∷◌}
use Prim.Native.Nat.{ℕ, zero, suc, ◌<◌}
use native.Mathlib.Omega.{arith}
use lib.ListN.{length, take, length-take}
use lib.Seq.{get_or-take, take-take}
use borrow.Author.Tests.{eq-eqb, ne_eqb}
use Rattle.rules.specs.declared.Entry.{Entry}
use Rattle.rules.specs.Timetable.{entry_at, count, job_at}
use Rattle.rules.proofs.Cases.{by_eq, by_nat}

-- a first entry is one more appearance of its task
pub count_first : (e : Entry) (τ : List Entry) (i : ℕ) → e.task ≡ i → count i (e ∷ τ) ≡ suc (count i τ)
count_first e τ i p = rw (eq-eqb e.task i p)

-- and none of another
pub count_rest : (e : Entry) (τ : List Entry) (i : ℕ) → (e.task ≡ i → ⊥) → count i (e ∷ τ) ≡ count i τ
count_rest e τ i n = rw (ne_eqb e.task i n)

-- an entry's job is below the appearances of its task
pub job_below : (τ : List Entry) (i j : ℕ) → j < length τ → (entry_at τ j).task ≡ i → job_at τ j < count i τ
job_below [] i j l t = absurd (omega arith)
job_below (e ∷ τ) i zero l t = omega (arith, count_first e τ i t)
job_below (e ∷ τ) i (suc j) l t =
    let k : ℕ = (entry_at τ j).task in
    by_eq e.task k (λ p. omega (arith, job_below τ i j (omega arith) t, count_first e τ i (p ∙ t), count_first e (take j τ) k p))
    (λ n. omega (arith, job_below τ i j (omega arith) t, count_rest e τ i (λ p. n (p ∙ sym t)), count_rest e (take j τ) k n))

-- every appearance of a task is an entry
pub appearance : (τ : List Entry) (i k : ℕ) → k < count i τ → (j : ℕ) × (j < length τ) × ((entry_at τ j).task ≡ i) × (job_at τ j ≡ k)
appearance [] i k l = absurd (omega arith)
appearance (e ∷ τ) i k l =
    by_eq e.task i
    (λ p. by_nat k (λ z. (0, omega arith, p, sym z))
    (λ m z. let a = appearance τ i m (omega (arith, count_first e τ i p)) in
    (suc a.0, omega (arith, a.1), a.2, count_first e (take a.0 τ) _ (p ∙ sym a.2) ∙ ap suc a.3 ∙ sym z)))
    (λ n. let a = appearance τ i k (omega (arith, count_rest e τ i n)) in
    (suc a.0, omega (arith, a.1), a.2, count_rest e (take a.0 τ) _ (λ y. n (y ∙ a.2)) ∙ a.3))

-- two entries of one task with one job number are one entry
pub one_entry : (τ : List Entry) (j k : ℕ) → j < length τ → k < length τ → (entry_at τ j).task ≡ (entry_at τ k).task → job_at τ j ≡ job_at τ k → j ≡ k
one_entry [] j k l m t n = absurd (omega arith)
one_entry (e ∷ τ) zero zero l m t n = refl
one_entry (e ∷ τ) zero (suc k) l m t n = absurd (omega (arith, count_first e (take k τ) (entry_at τ k).task t))
one_entry (e ∷ τ) (suc j) zero l m t n = absurd (omega (arith, count_first e (take j τ) (entry_at τ j).task (sym t)))
one_entry (e ∷ τ) (suc j) (suc k) l m t n =
    let i : ℕ = (entry_at τ j).task in
    let i' : ℕ = (entry_at τ k).task in
    ap suc (one_entry τ j k (omega arith) (omega arith) t
    (by_eq e.task i (λ p. omega (arith, count_first e (take j τ) i p, count_first e (take k τ) i' (p ∙ t)))
    (λ d. omega (arith, count_rest e (take j τ) i d, count_rest e (take k τ) i' (λ p. d (p ∙ sym t))))))

-- the first entries of a timetable have its jobs
taken_job : (τ : List Entry) (j k : ℕ) → k < j → (entry_at (take j τ) k ≡ entry_at τ k) × (job_at (take j τ) k ≡ job_at τ k)
taken_job τ j k l =
    let e : entry_at (take j τ) k ≡ entry_at τ k = get_or-take j τ k _ l in
    (e, rw (e, take-take k j τ (omega arith)))

-- an earlier entry's job is among those that have started
pub earlier_job : (τ : List Entry) (j k i : ℕ) → k < j → k < length τ → (entry_at τ k).task ≡ i → job_at τ k < count i (take j τ)
earlier_job τ j k i l m t =
    let e = taken_job τ j k l in
    let b = job_below (take j τ) i k (omega (arith, length-take j τ)) (ap (λ (d : Entry). d.task) e.0 ∙ t) in
    omega (arith, e.1)

-- and each of those is an earlier entry's
pub started_job : {A : Type 0} (τ : List Entry) (j i k : ℕ) → k < count i (take j τ) →
    ((m : ℕ) → m < j → m < length τ → (entry_at τ m).task ≡ i → job_at τ m ≡ k → A) → A
started_job τ j i k l go =
    let a = appearance (take j τ) i k l in
    let m : a.0 < j = omega (arith, a.1, length-take j τ) in
    let e = taken_job τ j a.0 m in
    go a.0 m (omega (arith, a.1, length-take j τ)) (sym (ap (λ (d : Entry). d.task) e.0) ∙ a.2) (sym e.1 ∙ a.3)
