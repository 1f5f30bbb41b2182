-- What whoever checks or judges a table image can rely on, from the contracts alone: one answer; Accepted for exactly the images of the tables that a
-- valid timetable has; a refusal for exactly the first test that refuses; and that timetable is the only one. Assumes nothing.
use mathlib.Core.Path.{◌≡◌, sym, ◌∙◌, ap, ap₂}
use mathlib.Core.Logic.{◌↔◌}
use mathlib.Core.List.{List, ◌++◌}
use Prim.Native.Nat.{ℕ, ◌-◌}
use native.Mathlib.Omega.{arith}
use lib.ListN.{length, replicate}
use Rattle.std.specs.Prelude.{Result, Ok, Err, ⊤}
use Rattle.fields.specs.Number.{Bytes}
use Rattle.rules.specs.declared.Entry.{Entry}
use Rattle.rules.specs.declared.Refusal.{Refusal}
use Rattle.rules.specs.Refusals.{gives}
use Rattle.rules.specs.Tasks.{Set, limits, memory_set}
use Rattle.rules.specs.declared.Located.{Located}
use Rattle.rules.specs.Located.{located, RefusedAt}
use Rattle.rules.specs.Offsets.{first_offsets}
use Rattle.rules.specs.Operations.{Timed, Tabled, rebuilt, check_tables}
use Rattle.rules.specs.Dispatcher.{zero_task}
use Rattle.rules.specs.Promised.{TableImage, RefusesTableImage}
use Rattle.rules.proofs.Cases.{clash, gives_in}
use Rattle.rules.proofs.Locations.{one_refused}
use Rattle.rules.proofs.Demand2.{rebuilds}
use Rattle.rules.proofs.Promises as book
use Rattle.sets.specs.declared.Kept.{Kept}
use Rattle.tables.specs.declared.Tables.{Tables as Judgement}
use Rattle.tables.specs.Judged.{Good, JudgedAs}

-- the contract of `check` leaves one answer
pub one_answer : (bytes : List ℕ) (r q : Result ⊤ Located) → r ≡ check_tables bytes → q ≡ check_tables bytes → r ≡ q
one_answer bytes r q e f = e ∙ sym f

-- the answer is Accepted exactly where the bytes are the image of a good set and of the tables that a valid timetable of it has
pub accepted_exactly : (bytes : List ℕ) → Bytes bytes → (r : Result ⊤ Located) → r ≡ check_tables bytes →
    (r ≡ Ok tt) ↔ ((ts : Set) × (τ : List Entry) × TableImage bytes ts τ)
accepted_exactly bytes b r e =
    let exactly = book.accepted_tables bytes b in
    (λ a. exactly.0 (sym e ∙ a), λ w. e ∙ exactly.1 w)

-- it is a refusal exactly where that is the first that the document's order comes to
pub refused_exactly : (bytes : List ℕ) (r : Result ⊤ Located) → r ≡ check_tables bytes → (q : Refusal) →
    (r ≡ Err (located bytes q)) ↔ RefusesTableImage bytes q
refused_exactly bytes r e q =
    let exactly = book.table_order bytes q in
    (λ a. exactly.0 (sym e ∙ a), λ w. e ∙ exactly.1 w)

-- what an accepted image comes to
good_rebuilt : {bytes : List ℕ} {t : Judgement} {kept : Kept} (g : Good bytes t kept) →
    rebuilt bytes ≡ gives (record { set = memory_set t.set; entries = g.entries })
good_rebuilt g = rw (g.read, g.judged)

-- what is accepted is told by the image
module _ {bytes : List ℕ} {t u : Judgement} {kept others : Kept} (g : Good bytes t kept) (k : Good bytes u others) where
  -- what the image holds is the same
  same_held : ◌≡◌ {A = Tabled} (record { set = memory_set t.set; tables = g.tables }) (record { set = memory_set u.set; tables = k.tables })
  same_held = gives_in _ _ (sym g.read ∙ k.read)

  -- and so are the tasks
  same_tasks : memory_set t.set ≡ memory_set u.set
  same_tasks = ap (λ (x : Tabled). x.set) same_held

  -- so the set is the same
  same_set : t.set ≡ u.set
  same_set =
      let n : t.set.n ≡ u.set.n = omega (arith, g.tasks_many, k.tasks_many, ap (λ (ts : Set). length ts.tasks) same_tasks) in
      let tasks : t.set.tasks ≡ u.set.tasks =
      g.zero_slots
      ∙ ap₂ (λ (us : Set) (m : ℕ). us.tasks ++ replicate (limits.tasks - m) zero_task) same_tasks n
      ∙ sym k.zero_slots in
      λ i. record { n = n i; tasks = tasks i }

  -- and its first offsets
  good_same : t ≡ u
  good_same =
      let offsets : t.first ≡ u.first =
      g.offsets ∙ ap (λ (x : Tabled). first_offsets x.set x.tables) same_held ∙ sym k.offsets in
      λ i. record { set = same_set i; first = offsets i }

-- what is accepted is not refused
good_not_refused : {bytes : List ℕ} {t : Judgement} {kept : Kept} {r : Located} {A : Type 0} → Good bytes t kept → RefusedAt bytes (rebuilt bytes) r → A
good_not_refused g r = let both = sym (good_rebuilt g) ∙ r.judged in clash (cc)

-- the contract of `judge` leaves one result
pub one_judgement : (bytes : List ℕ) (a b : Result Judgement Located) (kept others : Kept) → JudgedAs bytes a kept → JudgedAs bytes b others → a ≡ b
one_judgement bytes (Ok t) (Ok u) kept others g k = ap Ok (good_same g k)
one_judgement bytes (Ok t) (Err q) kept others g k = good_not_refused g k
one_judgement bytes (Err r) (Ok u) kept others g k = good_not_refused k g
one_judgement bytes (Err r) (Err q) kept others g k = ap Err (one_refused g k)

-- the timetable behind an accepted image is the only one that has its tables
pub only_timetable : {bytes : List ℕ} {t : Judgement} {kept : Kept} (g : Good bytes t kept) {us : Set} {σ : List Entry} → TableImage bytes us σ →
    (us ≡ memory_set t.set) × (σ ≡ g.entries)
only_timetable {t = t} g {us} {σ} image =
    let same : ◌≡◌ {A = Timed} (record { set = us; entries = σ }) (record { set = memory_set t.set; entries = g.entries }) =
    gives_in _ _ (sym (rebuilds image) ∙ good_rebuilt g) in
    (ap (λ (x : Timed). x.set) same, ap (λ (x : Timed). x.entries) same)
