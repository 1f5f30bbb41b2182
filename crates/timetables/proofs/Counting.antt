-- Irregularities counted in a walk: what is counted so far and what the entries left add come to the counts of the whole, however many are listed.
-- Assumes nothing.
use Rattle.std.proofs.Common.{◌≡◌, ℕ, zero, suc, ◌+◌, ◌-◌, ◌<◌, ◌≤◌, Bool, true, false, ◌⊎◌, List, [], ◌∷◌, length, get_or, set, replicate, sym, refl, ap, ◌∙◌, inl, inr, arith, length-set, get_or-set_other, get_or-set_same, ltb-false, ltb-true}
use native.Mathlib.Nat.{sub-zero}
use Rattle.rules.specs.declared.Entry.{Entry}
use Rattle.rules.specs.Tasks.{Set, hyperperiod}
use Rattle.rules.specs.Timetable.{pick}
use Rattle.rules.specs.Setting.{Setting}
use Rattle.rules.specs.Priority.{start_job, setting}
use Rattle.rules.specs.Irregularities.{forced_idles, inversions}
use Rattle.rules.specs.Judging.{tables}
use Rattle.rules.specs.Marks.{SL, size}
use Rattle.rules.specs.Image.{head_length}
use Rattle.rules.proofs.Cases.{by_bool, by_eq}
use Rattle.rules.proofs.PriorityLaws.{StartKeepsRules}
use Rattle.sets.specs.declared.Kept.{Kept}
use Rattle.sets.specs.Kept.{tasks_in}
use Rattle.timetables.specs.declared.Counts.{Counts}
use Rattle.timetables.specs.Entries.{entry_in, entries_at}
use Rattle.timetables.specs.Judged.{entries_behind}
use Rattle.timetables.specs.Instants.{instant_of, idles_before, inverts}
use Rattle.timetables.specs.Counted.{task_inversions, Counted, no_counts}
use Rattle.timetables.proofs.EntriesRead.{entry_left, no_entry_left}
use Rattle.timetables.proofs.Turns.{AtEntry, free_after, turn_task, turn_idle, turn_no_idle, turn_inverted, turn_others, turn_regular, one_more, no_more}

-- what is counted before entry j, and what the entries from j on add
pub record CountedFrom (ts : Set) (bytes : List ℕ) (next : List ℕ) (free at j : ℕ) (c : Counts) : Type 0 where
  pub idles_left : (listed : ℕ) → j ≤ listed →
      c.idles + length (forced_idles (setting ts) next free (entries_at bytes at (listed - j)))
      ≡ length (tables ts (entries_behind bytes ts listed)).idles
  pub total_left : (listed : ℕ) → j ≤ listed →
      c.inversions + length (inversions (setting ts) next (entries_at bytes at (listed - j)))
      ≡ length (tables ts (entries_behind bytes ts listed)).inversions
  pub each_left : (listed : ℕ) → j ≤ listed → (i : ℕ) →
      get_or c.each i 0 + length (task_inversions (setting ts) i next (entries_at bytes at (listed - j)))
      ≡ length (task_inversions (setting ts) i [] (entries_behind bytes ts listed))

-- a slot of zeros holds 0
pub zero_slot : (many i : ℕ) → ◌≡◌ {A = ℕ} (get_or (replicate many 0) i 0) 0
zero_slot zero i = refl
zero_slot (suc many) zero = refl
zero_slot (suc many) (suc i) = zero_slot many i

-- before the first entry nothing is counted
pub counted_first : {ts : Set} {bytes : List ℕ} {at : ℕ} → at ≡ head_length ts → CountedFrom ts bytes [] 0 at 0 no_counts
counted_first place = record {
  idles_left = λ listed l. rw (place, sub-zero listed) (omega arith);
  total_left = λ listed l. rw (place, sub-zero listed) (omega arith);
  each_left = λ listed l i. rw (place, sub-zero listed, zero_slot 16 i) (omega arith);
}

-- no more are counted than there were entries
pub record FewSoFar (j : ℕ) (c : Counts) : Type 0 where
  pub few_idles : c.idles ≤ j
  pub few_total : c.inversions ≤ j
  pub few_each : (i : ℕ) → get_or c.each i 0 ≤ j
  pub slots : length c.each ≡ 16

-- at first none is counted
pub few_first : FewSoFar 0 no_counts
few_first = record { few_idles = omega arith; few_total = omega arith; few_each = λ i. omega (arith, zero_slot 16 i); slots = refl }

-- what is counted with a forced idle, if there is one
abbrev pub with_idle : Bool → Counts → Counts
with_idle idle c = record { idles = pick idle (c.idles + 1) c.idles; inversions = c.inversions; each = c.each }

-- and with an inversion of task i, if there is one
abbrev with_inversion : Bool → ℕ → Counts → Counts
with_inversion lower i c = record {
  idles = c.idles;
  inversions = pick lower (c.inversions + 1) c.inversions;
  each = pick lower (set c.each i (get_or c.each i 0 + 1)) c.each;
}

-- and with both, of an entry of task i
abbrev pub counted_with : Bool → Bool → ℕ → Counts → Counts
counted_with idle lower i c = with_inversion lower i (with_idle idle c)

-- which are counted one behind the other
pub idle_counted : {idle : Bool} {c c₁ : Counts} → ((idle ≡ true) × (c₁ ≡ with_idle true c)) ⊎ ((idle ≡ false) × (c₁ ≡ c)) → c₁ ≡ with_idle idle c
idle_counted (inl q) = rw q.0 q.1
idle_counted (inr q) = rw q.0 q.1

pub both_counted : {idle lower : Bool} {c c₁ c₂ : Counts} (i : ℕ) → ((idle ≡ true) × (c₁ ≡ with_idle true c)) ⊎ ((idle ≡ false) × (c₁ ≡ c)) →
    ((lower ≡ true) × (c₂ ≡ with_inversion true i c₁)) ⊎ ((lower ≡ false) × (c₂ ≡ c₁)) → c₂ ≡ counted_with idle lower i c
both_counted i p (inl q) = rw q.0 (q.1 ∙ ap (with_inversion true i) (idle_counted p))
both_counted i p (inr q) = rw q.0 (q.1 ∙ idle_counted p)

module _ {j : ℕ} {c : Counts} (few : FewSoFar j c) where
  -- an entry that is not counted
  pub few_kept : FewSoFar (j + 1) c
  few_kept = record {
    few_idles = omega (arith, few.few_idles);
    few_total = omega (arith, few.few_total);
    few_each = λ i. omega (arith, few.few_each i);
    slots = few.slots;
  }

  -- or is
  pub few_more : (i : ℕ) → i < 16 → (idle lower : Bool) → FewSoFar (j + 1) (counted_with idle lower i c)
  few_more i l idle lower = record {
    few_idles = by_bool idle (λ b. rw b (omega (arith, few.few_idles))) (λ b. rw b (omega (arith, few.few_idles)));
    few_total = by_bool lower (λ b. rw b (omega (arith, few.few_total))) (λ b. rw b (omega (arith, few.few_total)));
    few_each = λ k.
        let v = get_or c.each i 0 + 1 in
        by_bool lower
        (λ b. rw b
        (by_eq k i (λ e. rw e (omega (arith, get_or-set_same c.each i v 0 (omega (arith, few.slots)), few.few_each i)))
        (λ n. omega (arith, get_or-set_other c.each i k v 0 n, few.few_each k))))
        (λ b. rw b (omega (arith, few.few_each k)));
    slots = by_bool lower (λ b. rw b (length-set c.each i (get_or c.each i 0 + 1) ∙ few.slots)) (λ b. rw b few.slots);
  }

module _ {ts : Set} {bytes : List ℕ} {next : List ℕ} {free at j : ℕ} {c : Counts} (left : CountedFrom ts bytes next free at j c) where
  -- the set's setting
  abbrev G : Setting
  G = setting ts

  -- where no more are listed all is counted
  pub counted_all : length c.each ≡ 16 → Counted ts (entries_behind bytes ts j) c
  counted_all slots =
      let none = no_entry_left bytes at j j (omega arith) in
      record {
        idles = omega (arith, left.idles_left j (omega arith), ap (λ (σ : List Entry). length (forced_idles G next free σ)) none);
        inversions = omega (arith, left.total_left j (omega arith), ap (λ (σ : List Entry). length (inversions G next σ)) none);
        each = λ i. omega (arith, left.each_left j (omega arith) i, ap (λ (σ : List Entry). length (task_inversions G i next σ)) none);
        slots = slots;
      }

  module _ {kept : Kept} {releases : List ℕ} (w : AtEntry ts kept releases next at j) (slots : length c.each ≡ 16) (e : Entry)
      (is : e ≡ entry_in bytes at) (keeps : StartKeepsRules ts (hyperperiod ts) next free e.task e.start) where
    -- what has started after the entry
    abbrev next_after : List ℕ
    next_after = start_job next e.task

    -- the entries behind this one
    abbrev others : ℕ → List Entry
    others listed = entries_at bytes (at + size SL) (listed - (j + 1))

    -- the instant of decision, whether a forced idle is before the entry, and whether it is an inversion
    abbrev instant : ℕ
    instant = instant_of (tasks_in kept) releases free

    abbrev idle : Bool
    idle = idles_before (tasks_in kept) releases free e

    abbrev lower : Bool
    lower = inverts releases e

    -- the entry is the first of those left
    left_here : (listed : ℕ) → j < listed → entries_at bytes at (listed - j) ≡ e ∷ others listed
    left_here listed more = entry_left bytes at listed j more ∙ ap (λ (x : Entry). x ∷ others listed) (sym is)

    -- with its forced idle counted, the others are left
    idles_after : (listed : ℕ) → j < listed → pick idle (c.idles + 1) c.idles + length (forced_idles G next_after (free_after kept e) (others listed))
        ≡ length (tables ts (entries_behind bytes ts listed)).idles
    idles_after listed more =
        let here = rw (left_here listed more) at (left.idles_left listed (omega arith)) in
        by_bool idle
        (λ b. rw b (omega (arith, here, ap length (turn_idle w e keeps (others listed) instant refl (ltb-true instant e.start b)))))
        (λ b. rw b (omega (arith, here, ap length (turn_no_idle w e keeps (others listed) instant refl (ltb-false instant e.start b)))))

    -- with its inversion counted
    total_after : (listed : ℕ) → j < listed → pick lower (c.inversions + 1) c.inversions + length (inversions G next_after (others listed))
        ≡ length (tables ts (entries_behind bytes ts listed)).inversions
    total_after listed more =
        let here = rw (left_here listed more) at (left.total_left listed (omega arith)) in
        by_bool lower (λ b. rw b (omega (arith, here, one_more w e keeps (others listed) b)))
        (λ b. rw b (omega (arith, here, no_more w e keeps (others listed) b)))

    -- in its task's slot too
    each_after : (listed : ℕ) → j < listed → (i : ℕ) →
        get_or (counted_with idle lower e.task c).each i 0 + length (task_inversions G i next_after (others listed))
        ≡ length (task_inversions G i [] (entries_behind bytes ts listed))
    each_after listed more i =
        let v = get_or c.each e.task 0 + 1 in
        let a_slot : e.task < length c.each = omega (arith, turn_task w e keeps, slots, w.keeps.few) in
        let here : (k : ℕ) → get_or c.each k 0 + length (task_inversions G k next (e ∷ others listed)) ≡ length (task_inversions G k [] (entries_behind bytes ts listed)) =
        λ k. rw (left_here listed more) at (left.each_left listed (omega arith) k) in
        by_bool lower
        (λ b. rw b
        (by_eq i e.task
        (λ z. rw z (omega (arith, here e.task, ap length (turn_inverted w e keeps (others listed) b), get_or-set_same c.each e.task v 0 a_slot)))
        (λ n. omega (arith, here i, ap length (turn_others w e keeps (others listed) i n), get_or-set_other c.each e.task i v 0 n))))
        (λ b. rw b (omega (arith, here i, ap length (turn_regular w e keeps (others listed) b i))))

    -- before the next entry, the entry's forced idle and its inversion are counted
    pub counted_next : CountedFrom ts bytes next_after (free_after kept e) (at + size SL) (j + 1) (counted_with idle lower e.task c)
    counted_next = record {
      idles_left = λ listed l. idles_after listed (omega arith);
      total_left = λ listed l. total_after listed (omega arith);
      each_left = λ listed l. each_after listed (omega arith);
    }
