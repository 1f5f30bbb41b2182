-- The first fault of a timetable, found in one walk over its entries: however many entries are listed, what is left from an entry on is the whole; and
-- what each end of the walk says. Assumes nothing.
use Rattle.std.proofs.Common.{Option as Perhaps, None, Some, ◌≡◌, ℕ, true, suc, ◌+◌, ◌-◌, ◌<◌, ◌≤◌, List, [], ◌∷◌, take, sym, ap, ◌∙◌, arith}
use mathlib.Core.Option.{Option, none, some}
use native.Mathlib.Nat.{sub-zero}
use Rattle.rules.specs.declared.Entry.{Entry}
use Rattle.rules.specs.declared.Refusal.{Refusal}
use Rattle.rules.specs.Tasks.{Set, hyperperiod}
use Rattle.rules.specs.Refusals.{refusal}
use Rattle.rules.specs.Priority.{start_job, entry_breaks as breaks, setting}
use Rattle.rules.specs.Located.{names_record}
use Rattle.rules.specs.Judging.{entries_fault, missing_from}
use Rattle.rules.specs.Marks.{SL, size}
use Rattle.rules.specs.Image.{head_count, head_length}
use Rattle.rules.proofs.Cases.{by_nat, differ}
use Rattle.rules.proofs.PriorityLaws.{StartKeepsRules, keeps_rules}
use Rattle.sets.specs.declared.Kept.{Kept}
use Rattle.sets.specs.Kept.{tasks_in, hyperperiod_in}
use Rattle.std.specs.Prelude.{nat_lt}
use Rattle.std.specs.List.{position}
use Rattle.timetables.specs.Walks.{entry_breaks}
use Rattle.timetables.specs.Entries.{entry_in, entries_at}
use Rattle.timetables.specs.Judged.{fault_behind}
use Rattle.timetables.proofs.EntriesRead.{entry_left, no_entry_left}
use Rattle.timetables.proofs.StartRules.{number_of, breaks_named, missing_not_all, none_missing_all}
use Rattle.timetables.proofs.Turns.{AtEntry, free_after, releases_after, breaks_in_slots, missing_in_slots, freed, turn_next}

-- the first fault from a point of a timetable on
abbrev fault_from : Set → ℕ → List ℕ → ℕ → List Entry → Option Refusal
fault_from ts j = entries_fault (setting ts) (missing_from 0 (hyperperiod ts) ts.tasks) (head_count ts + j)

-- the walk at entry j, from which on the first fault is that of the whole
pub record JudgedFrom (ts : Set) (bytes : List ℕ) (kept : Kept) (releases next : List ℕ) (free at j : ℕ) : Type 0 where
  pub here : AtEntry ts kept releases next at j
  pub same : (listed : ℕ) → j ≤ listed → fault_behind bytes ts listed ≡ fault_from ts j next free (entries_at bytes at (listed - j))

-- so at the first entry
pub judged_first : {ts : Set} {bytes : List ℕ} {kept : Kept} {at : ℕ} {releases : List ℕ} → AtEntry ts kept releases [] at 0 →
    JudgedFrom ts bytes kept releases [] 0 at 0
judged_first {ts} {at = at} w =
    let first_place : head_count ts + 0 ≡ head_count ts = omega arith in
    let place : at ≡ head_length ts = omega (arith, w.place) in
    record { here = w; same = λ listed l. rw (first_place, sub-zero listed, place) }

module _ {ts : Set} {bytes : List ℕ} {kept : Kept} {releases next : List ℕ} {free at j : ℕ} (w : JudgedFrom ts bytes kept releases next free at j) where
  -- where no more entries are listed, the fault is that of none more
  at_end : fault_behind bytes ts j ≡ fault_from ts j next free []
  at_end = w.same j (omega arith) ∙ ap (fault_from ts j next free) (no_entry_left bytes at j j (omega arith))

  -- a job is missing
  pub one_missing : {i : ℕ} → Some i ≡ position (λ r. nat_lt r (hyperperiod_in kept)) (take (tasks_in kept) releases) →
      fault_behind bytes ts j ≡ some (refusal 16 i)
  one_missing q =
      let told = rw (← q) at (missing_in_slots w.here) in
      at_end ∙ rw (missing_not_all 0 (hyperperiod ts) ts.tasks next (omega (arith, told)), told.1)

  -- or nothing is wrong
  pub none_missing : None ≡ position (λ r. nat_lt r (hyperperiod_in kept)) (take (tasks_in kept) releases) → fault_behind bytes ts j ≡ none
  none_missing q =
      let told = rw (← q) at (missing_in_slots w.here) in
      at_end ∙ rw (none_missing_all 0 (hyperperiod ts) ts.tasks next (omega (arith, told)))

  -- an entry that is listed is refused, or judging goes on behind it
  module _ (e : Entry) (is : e ≡ entry_in bytes at) where
    -- the entries behind it
    abbrev others : ℕ → List Entry
    others listed = entries_at bytes (at + size SL) (listed - (j + 1))

    -- the fault is that of this entry and those behind it
    at_entry : (listed : ℕ) → j < listed → fault_behind bytes ts listed ≡ fault_from ts j next free (e ∷ others listed)
    at_entry listed more =
        w.same listed (omega arith)
        ∙ ap (fault_from ts j next free) (entry_left bytes at listed j more ∙ ap (λ (x : Entry). x ∷ others listed) (sym is))

    -- what the entry breaks
    broken : {o : Perhaps ℕ} → o ≡ entry_breaks kept releases free e → breaks ts (hyperperiod ts) next free e.task e.start ≡ number_of o
    broken q = breaks_in_slots w.here free e ∙ sym (ap number_of q)

    -- it breaks a rule
    module _ (number : ℕ) (q : Some number ≡ entry_breaks kept releases free e) where
      -- which has an entry's number
      pub its_number : names_record number ≡ true
      its_number = (breaks_named kept releases free e).names number (sym q)

      pub entry_refused : (listed : ℕ) → j < listed → fault_behind bytes ts listed ≡ some (refusal number (head_count ts + j))
      entry_refused listed more =
          at_entry listed more
          ∙ by_nat number (λ y. differ (sym its_number ∙ ap names_record y))
          (λ m y. let b : breaks ts (hyperperiod ts) next free e.task e.start ≡ suc m = broken q ∙ y in rw (b, y))

    module _ (q : None ≡ entry_breaks kept releases free e) where
      -- its start keeps the rules
      pub entry_keeps : StartKeepsRules ts (hyperperiod ts) next free e.task e.start
      entry_keeps = keeps_rules ts (hyperperiod ts) next free e.task e.start (broken q)

      -- and judging goes on at the next entry
      pub judged_next : JudgedFrom ts bytes kept (releases_after kept releases e) (start_job next e.task) (free_after kept e) (at + size SL) (j + 1)
      judged_next =
          let place : head_count ts + (j + 1) ≡ suc (head_count ts + j) = omega arith in
          record {
            here = turn_next w.here e entry_keeps;
            same = λ listed more. rw (place, ← (freed w.here e entry_keeps)) (at_entry listed (omega arith) ∙ rw (broken q));
          }
