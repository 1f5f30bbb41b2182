-- The rules of a start, by what a task's slot holds, and the lowest task with a job missing, by a scan of the slots. Assumes nothing.
use Rattle.std.proofs.lemmas.Option.{none-some, same_Some}
use Rattle.std.proofs.Common.{Option, None, Some, ◌≡◌, ℕ, suc, ◌+◌, ◌-◌, ◌<◌, ◌≤◌, Bool, true, false, ltb, leb, List, [], ◌∷◌, length, refl, arith, le-ltb, lt-ltb, le-leb}
use borrow.Author.Tests.{lt-leb}
use Rattle.std.specs.Prelude.{nat_lt}
use Rattle.std.specs.List.{position_or_len}
use Rattle.fields.specs.Body.{head₀, tail₀}
use Rattle.rules.specs.declared.Task.{Task}
use Rattle.rules.specs.declared.Entry.{Entry}
use Rattle.rules.specs.Tasks.{Set, task, release, jobs, KeepsItsRule}
use Rattle.rules.specs.Priority.{slot, all_started, entry_breaks}
use Rattle.rules.specs.Timetable.{pick}
use Rattle.rules.specs.Judging.{missing_from}
use Rattle.rules.specs.Located.{names_record}
use Rattle.rules.proofs.Cases.{by_bool, by_le}
use Rattle.sets.specs.declared.Kept.{Kept}
use Rattle.timetables.specs.Walks.{next_releases, start_breaks, entry_breaks as walked_breaks}
use Rattle.timetables.proofs.Releases.{LeftByRelease}

-- a job ends by its deadline exactly where it starts at most D − C behind its release
late_by_slack : (t : Task) (released start : ℕ) → t.time ≤ t.deadline →
    leb (start + t.time) (released + t.deadline) ≡ leb start (released + (t.deadline - t.time))
late_by_slack t released start fits =
    by_le start (released + (t.deadline - t.time))
    (λ a. rw (le-leb start (released + (t.deadline - t.time)) a, le-leb (start + t.time) (released + t.deadline) (omega arith)))
    (λ a. rw (lt-leb start (released + (t.deadline - t.time)) a, lt-leb (start + t.time) (released + t.deadline) (omega arith)))

-- the rule book's number of what is broken, 0 for nothing
abbrev pub number_of : Option ℕ → ℕ
number_of None = 0
number_of (Some number) = number

number_picked : (b : Bool) (x y : Option ℕ) → number_of (pick b x y) ≡ pick b (number_of x) (number_of y)
number_picked true x y = refl
number_picked false x y = refl

module _ (ts : Set) (h : ℕ) (x : List ℕ) (f i s : ℕ) where
  -- an entry of no task breaks 11
  pub breaks_no_task : length ts.tasks ≤ i → entry_breaks ts h x f i s ≡ 11
  breaks_no_task l = rw (le-ltb i (length ts.tasks) l)

  -- an entry of a task breaks what its start breaks
  pub breaks_of_task : LeftByRelease h ts.tasks → KeepsItsRule (task ts i) → i < length ts.tasks →
      entry_breaks ts h x f i s ≡ number_of (start_breaks h ((task ts i).deadline - (task ts i).time) (release (task ts i) (slot x i)) f s)
  breaks_of_task left rule l =
      simp number_picked
      (rw (lt-ltb i (length ts.tasks) l, left i l (slot x i), late_by_slack (task ts i) (release (task ts i) (slot x i)) s rule.fits))

-- a rule's number is one whose place is a record
pub record Named (broken : Option ℕ) : Type 0 where
  pub names : (number : ℕ) → broken ≡ Some number → names_record number ≡ true

none_named : Named None
none_named = record { names = λ number e. absurd (none-some number e) }

one_named : {number : ℕ} → names_record number ≡ true → Named (Some number)
one_named is = record { names = λ number e. rw (← same_Some _ _ e) is }

picked_named : (b : Bool) {x y : Option ℕ} → Named x → Named y → Named (pick b x y)
picked_named true p q = p
picked_named false p q = q

-- so is that of the rule that an entry breaks
pub breaks_named : (kept : Kept) (releases : List ℕ) (free : ℕ) (e : Entry) → Named (walked_breaks kept releases free e)
breaks_named kept releases free e = search (picked_named, none_named, one_named) depth 14

-- a search for a task with a job missing from the next one on
missing_behind : (i h : ℕ) (ts : List Task) (x : List ℕ) → missing_from (suc i) h ts x ≡ suc (missing_from i h ts x)
missing_behind i h [] x = refl
missing_behind i h (t ∷ ts) x =
    by_bool (ltb (head₀ x) (jobs h t)) (λ b. rw (b, missing_from)) (λ b. rw (b, missing_from) (missing_behind (suc i) h ts (tail₀ x)))

-- as many next releases as are passed before one in the cycle are those of the tasks before the lowest with a job missing
pub lowest_missing : (h : ℕ) (ts : List Task) (x : List ℕ) → LeftByRelease h ts →
    position_or_len (λ r. nat_lt r h) (next_releases ts x) ≡ missing_from 0 h ts x
lowest_missing h [] x left = refl
lowest_missing h (t ∷ ts) x left =
    let same = left 0 (omega arith) (head₀ x) in
    by_bool (ltb (release t (head₀ x)) h) (λ b. rw (same, b, missing_from))
    (λ b. rw (same, b, missing_from)
    (omega (arith, lowest_missing h ts (tail₀ x) (λ i l k. left (suc i) (omega arith) k), missing_behind 0 h ts (tail₀ x))))

-- with a job missing not all have started
pub missing_not_all : (i h : ℕ) (ts : List Task) (x : List ℕ) → missing_from i h ts x < i + length ts → all_started h ts x ≡ false
missing_not_all i h [] x l = absurd (omega arith)
missing_not_all i h (t ∷ ts) x l =
    by_bool (ltb (head₀ x) (jobs h t)) (λ b. rw (b, all_started))
    (λ b. rw (b, all_started) (missing_not_all (suc i) h ts (tail₀ x) (let m : missing_from (suc i) h ts (tail₀ x) < i + suc (length ts) = rw (b, missing_from) at l in omega arith)))

-- with none missing all have
pub none_missing_all : (i h : ℕ) (ts : List Task) (x : List ℕ) → i + length ts ≤ missing_from i h ts x → all_started h ts x ≡ true
none_missing_all i h [] x l = refl
none_missing_all i h (t ∷ ts) x l =
    by_bool (ltb (head₀ x) (jobs h t)) (λ b. absurd (let m : i + suc (length ts) ≤ i = rw (b, missing_from) at l in omega arith))
    (λ b. rw (b, all_started) (none_missing_all (suc i) h ts (tail₀ x) (let m : i + suc (length ts) ≤ missing_from (suc i) h ts (tail₀ x) = rw (b, missing_from) at l in omega arith)))
