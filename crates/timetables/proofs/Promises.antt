-- What whoever checks a timetable image can rely on, from the contracts alone: one answer; Accepted for exactly the images of a good set and a valid
-- timetable; and a refusal for exactly the first test that refuses. And judging comes to one result. Assumes nothing.
use Rattle.std.proofs.Common.{Result, Ok, Err, ◌≡◌, ℕ, Bool, ◌↔◌, List, length, sym, ap, ◌∙◌, arith, ext_get_or}
use Rattle.fields.specs.Number.{Bytes}
use Rattle.rules.specs.declared.Entry.{Entry}
use Rattle.rules.specs.declared.Refusal.{Refusal}
use Rattle.rules.specs.declared.Located.{Located}
use Rattle.std.specs.Prelude.{⊤}
use Rattle.rules.specs.Refusals.{gives, refuses}
use Rattle.rules.specs.Judging.{tables}
use Rattle.rules.specs.Located.{located, bare}
use Rattle.rules.specs.Operations.{Timed, derived, check_timetable}
use Rattle.rules.specs.Promised.{TimetableImage, RefusesTimetableImage}
use Rattle.rules.proofs.Cases.{by_bool, clash, gives_in}
use Rattle.rules.proofs.Locations.{one_refused}
use Rattle.rules.proofs.Demand2.{accepts_timetable}
use Rattle.rules.proofs.Promises.{timetable_order}
use Rattle.framing.specs.SetRead.{set_read}
use Rattle.timetables.specs.declared.Counts.{Counts}
use Rattle.timetables.specs.declared.Timetable.{Timetable}
use Rattle.rules.specs.Tasks.{Set, memory_set}
use Rattle.rules.specs.Image.{head_length}
use Rattle.rules.proofs.GoodSets.{set_good}
use Rattle.sets.specs.declared.Kept.{Kept}
use Rattle.sets.specs.Kept.{hyperperiod_in}
use Rattle.timetables.specs.Counted.{Counted}
use Rattle.timetables.specs.Judged.{entries_behind, Good, JudgedAs}
use Rattle.timetables.proofs.EntriesRead.{entries_length}

-- the contract of `check` leaves one answer
pub one_answer : (bytes : List ℕ) (r q : Result ⊤ Located) → r ≡ check_timetable bytes → q ≡ check_timetable bytes → r ≡ q
one_answer bytes r q e f = e ∙ sym f

-- the answer is Accepted exactly where the bytes are the image of a good set and a valid timetable of it
pub accepted_exactly : (bytes : List ℕ) → Bytes bytes → (r : Result ⊤ Located) → r ≡ check_timetable bytes →
    (r ≡ Ok tt) ↔ ((ts : Set) × (τ : List Entry) × TimetableImage bytes ts τ)
accepted_exactly bytes b r e =
    let exactly = accepts_timetable bytes b in
    (λ a. exactly.0 (sym e ∙ a), λ w. e ∙ exactly.1 w)

-- it is a refusal exactly where that is the first that the document's order comes to
pub refused_exactly : (bytes : List ℕ) (r : Result ⊤ Located) → r ≡ check_timetable bytes → (q : Refusal) →
    (r ≡ Err (located bytes q)) ↔ RefusesTimetableImage bytes q
refused_exactly bytes r e q =
    let exactly = timetable_order bytes q in
    (λ a. exactly.0 (sym e ∙ a), λ w. e ∙ exactly.1 w)

-- counts of one timetable are the same
counts_same : {ts : Set} {τ : List Entry} (c d : Counts) → Counted ts τ c → Counted ts τ d → c ≡ d
counts_same c d a b =
    let idles : c.idles ≡ d.idles = a.idles ∙ sym b.idles in
    let inversions : c.inversions ≡ d.inversions = a.inversions ∙ sym b.inversions in
    let each : c.each ≡ d.each = ext_get_or 0 c.each d.each (a.slots ∙ sym b.slots) (λ i l. a.each i ∙ sym (b.each i)) in
    λ i. record { idles = idles i; inversions = inversions i; each = each i }

-- what is judged good is told by the image
module _ {bytes : List ℕ} {count : Bool} {t u : Timetable} {kept rows : Kept} (g : Good bytes count t kept) (k : Good bytes count u rows) where
  -- what the image holds
  abbrev held : Timetable → Timed
  held v = record { set = memory_set v.set; entries = entries_behind bytes (memory_set v.set) v.listed }

  -- is the same
  same_held : held t ≡ held u
  same_held = gives_in (held t) (held u) (sym g.read ∙ k.read)

  -- so the set is the same
  same_set : t.set ≡ u.set
  same_set =
      let n : t.set.n ≡ u.set.n = omega (arith, g.tasks_many, k.tasks_many, ap (λ (x : Timed). length x.set.tasks) same_held) in
      g.set_is ∙ ap (λ (m : ℕ). set_read m bytes) n ∙ sym k.set_is

  -- and the number of entries
  same_listed : t.listed ≡ u.listed
  same_listed =
      omega (
        arith,
        ap (λ (x : Timed). length x.entries) same_held,
        entries_length bytes (head_length (memory_set t.set)) t.listed,
        entries_length bytes (head_length (memory_set u.set)) u.listed,
      )

  -- and the counts
  same_counts : t.counts ≡ u.counts
  same_counts =
      by_bool count
      (λ c. counts_same t.counts u.counts (g.counted c)
      (rw (same_set, same_listed) (k.counted c)))
      (λ c. g.uncounted c ∙ sym (k.uncounted c))

  -- and all of it
  good_same : t ≡ u
  good_same =
      λ i. record { set = same_set i; listed = same_listed i; counts = same_counts i }

-- what is judged good is not refused
good_derived : {bytes : List ℕ} {count : Bool} {t : Timetable} {kept : Kept} → Good bytes count t kept → (r : Refusal) → derived bytes ≡ refuses r → ⊥
good_derived {bytes} {t = t} {kept} g r e =
    let ts = memory_set t.set in
    let given : derived bytes ≡ gives (record { set = ts; tables = tables ts (entries_behind bytes ts t.listed) }) =
    rw (g.read, (set_good ts (hyperperiod_in kept) g.stand.keeps.good).0, g.no_fault) in
    let both = sym given ∙ e in
    clash (cc)

-- the contract of `judge` leaves one result
pub one_judgement : (bytes : List ℕ) (count : Bool) (kept rows : Kept) (a b : Result Timetable Located) → JudgedAs bytes count a kept →
    JudgedAs bytes count b rows → a ≡ b
one_judgement bytes count kept rows (Ok t) (Ok u) g k = ap Ok (good_same g k)
one_judgement bytes count kept rows (Ok t) (Err r) g q = absurd (good_derived g (bare r) q.judged)
one_judgement bytes count kept rows (Err r) (Ok t) q g = absurd (good_derived g (bare r) q.judged)
one_judgement bytes count kept rows (Err r) (Err s) p q = ap Err (one_refused p q)
