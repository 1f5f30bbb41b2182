-- Refusals located in an image: the refusal is told by its number and its place, a refusal that is told is located as judging came to it, what an operation
-- answers is the refusal that judging came to or said of what it gave, and a refusal of a record among several of one mark is located where these begin.
-- Assumes nothing.
use mathlib.Core.Path.{◌≡◌, refl, sym, ◌∙◌, ap}
use mathlib.Core.Bool.{true}
use mathlib.Core.List.{List}
use Prim.Native.Nat.{ℕ, ◌+◌, ◌*◌, ◌≤◌}
use Rattle.rules.specs.declared.Refusal.{Refusal}
use Rattle.rules.specs.declared.Located.{Located}
use Rattle.std.specs.Prelude.{Ok, Err}
use Rattle.rules.specs.Refusals.{Judged, gives, refuses, refusal}
use Rattle.rules.specs.Marks.{Mark, size}
use Rattle.rules.specs.Located.{offset_of, names_record, located, bare, RefusedAt, RunBegins}
use Rattle.rules.specs.Operations.{answer_by}
use Rattle.rules.proofs.Cases.{clash}

-- located alike in one image, two refusals are the same
pub one_located : (bytes : List ℕ) (r s : Refusal) → located bytes r ≡ located bytes s → r ≡ s
one_located bytes r s e = ap bare e

-- judging that comes to a refusal is told it, located
pub refused_at : {A : Type 0} (bytes : List ℕ) (s : Refusal) (r : Located) → located bytes s ≡ r → RefusedAt {A = A} bytes (refuses s) r
refused_at bytes s r e = record {
  judged = ap (λ (x : Located). refuses (bare x)) e;
  there = sym e ∙ ap (λ (x : Located). located bytes (bare x)) e;
}

-- and it is told one
pub one_refused : {A : Type 0} {bytes : List ℕ} {z : Judged A} {r q : Located} → RefusedAt bytes z r → RefusedAt bytes z q → r ≡ q
one_refused {bytes = bytes} {r = r} {q = q} a b =
    let e = sym a.judged ∙ b.judged in
    let same : bare r ≡ bare q = cc in
    a.there ∙ ap (located bytes) same ∙ sym b.there

-- an operation answers with the refusal that judging came to, located
pub answer_refuses : {A B : Type 0} (says : A → B) (bytes : List ℕ) (z : Judged A) (r : Located) → answer_by says bytes z ≡ Err r → RefusedAt bytes z r
answer_refuses says bytes (gives a) r e = clash (cc)
answer_refuses says bytes (refuses s) r e = refused_at bytes s r (cc)

-- and the other way round
pub refused_answer : {A B : Type 0} (says : A → B) {bytes : List ℕ} {z : Judged A} {r : Located} → RefusedAt bytes z r → answer_by says bytes z ≡ Err r
refused_answer says {bytes} w = ap (answer_by says bytes) w.judged ∙ ap Err (sym w.there)

-- what is answered without a refusal is said of what judging gave
pub answered_gives : {A B : Type 0} (says : A → B) (bytes : List ℕ) (z : Judged A) (b : B) → answer_by says bytes z ≡ Ok b →
    (a : A) × (z ≡ gives a) × (says a ≡ b)
answered_gives says bytes (gives a) b e = (a, refl, cc)
answered_gives says bytes (refuses r) b e = clash (cc)

-- a refusal of a record among several of one mark, where they begin one behind the other
pub run_located : (bytes : List ℕ) (number : ℕ) → names_record number ≡ true → (index from : ℕ) (m : Mark) (many : ℕ) → RunBegins bytes index from m many →
    (j : ℕ) → j ≤ many → (place at : ℕ) → place ≡ index + j → at ≡ from + j * size m →
    record { number = number; place = place; offset = at } ≡ located bytes (refusal number place)
run_located bytes number named index from m many run j l place at p a =
    let there : at ≡ offset_of place bytes = rw p (a ∙ sym (run j l)) in
    rw named (λ i. record { number = number; place = place; offset = there i })
