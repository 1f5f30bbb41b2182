-- A turn of a walk through a valid timetable whose entries stand in an image: the walk at an entry, that its entry keeps the rules, and the walk at the
-- first. Assumes nothing.
use Rattle.std.proofs.Common.{◌≡◌, ℕ, suc, ◌+◌, ◌-◌, ◌<◌, ◌≤◌, List, [], ◌∷◌, length, refl, sym, ap, ◌∙◌, subst, div-le_self, arith}
use mathlib.Core.Option.{none}
use native.Mathlib.Nat.{sub-zero}
use Rattle.rules.specs.declared.Entry.{Entry}
use Rattle.rules.specs.Tasks.{Set, limits, task, hyperperiod, set_fault}
use Rattle.rules.specs.Setting.{Setting}
use Rattle.rules.specs.Priority.{slot, start_job, setting}
use Rattle.rules.specs.Marks.{SL, size}
use Rattle.rules.specs.Image.{head_length}
use Rattle.rules.proofs.Theory.{ValidFrom, entry}
use Rattle.rules.proofs.PriorityLaws.{StartKeepsRules, keeps_rules}
use Rattle.rules.proofs.GoodSets.{set_good}
use Rattle.rules.proofs.Starts.{valid_first}
use Rattle.rules.proofs.ValidTimetables.{entries_valid}
use Rattle.sets.specs.declared.Kept.{Kept}
use Rattle.sets.specs.Kept.{tasks_in, hyperperiod_in}
use Rattle.timetables.specs.Entries.{entry_in, entries_at}
use Rattle.timetables.specs.Judged.{entries_behind, EntriesStand, EntriesValid}
use Rattle.timetables.proofs.EntriesRead.{entry_left}
use Rattle.sets.proofs.SetKept.{kept_good}
use Rattle.timetables.proofs.Turns.{AtEntry, free_after, releases_after, GoodStart, turn_task, freed, turn_good, turn_next}

-- behind a first entry the others go on from there
others_valid : {G : Setting} {x : G.Started} {f : ℕ} {e : Entry} {σ : List Entry} → ValidFrom G x f (e ∷ σ) →
    ValidFrom G (G.start_job x e.task) (G.free_after e.task e.start) σ
others_valid (entry ok valid) = valid

-- the walk at an entry from which on the timetable is valid
module _ (bytes : List ℕ) (listed : ℕ) {ts : Set} {kept : Kept} {releases x : List ℕ} {free at j : ℕ} (here : AtEntry ts kept releases x at j)
    (valid : ValidFrom (setting ts) x free (entries_at bytes at (listed - j))) (more : j < listed) {e : Entry} (is : e ≡ entry_in bytes at) where
  -- the entry is the first of those left
  first_of : entries_at bytes at (listed - j) ≡ e ∷ entries_at bytes (at + size SL) (listed - (j + 1))
  first_of = entry_left bytes at listed j more ∙ ap (λ (y : Entry). y ∷ entries_at bytes (at + size SL) (listed - (j + 1))) (sym is)

  -- the walk goes on through it
  through : ValidFrom (setting ts) x free (e ∷ entries_at bytes (at + size SL) (listed - (j + 1)))
  through = subst (λ (σ : List Entry). ValidFrom (setting ts) x free σ) first_of valid

  -- its start keeps the rules
  keeps_from : StartKeepsRules ts (hyperperiod ts) x free e.task e.start
  keeps_from = keeps_rules ts (hyperperiod ts) x free e.task e.start (valid_first through)

-- so with what the entry there, if one is left, means for its slots
pub record ValidAt (ts : Set) (bytes : List ℕ) (kept : Kept) (listed : ℕ) (releases x : List ℕ) (free at j : ℕ) : Type 0 where
  pub all : EntriesStand ts bytes kept listed
  pub here : AtEntry ts kept releases x at j
  pub valid : ValidFrom (setting ts) x free (entries_at bytes at (listed - j))
  pub good : j < listed → GoodStart kept releases (entry_in bytes at)

valid_at : {ts : Set} {bytes : List ℕ} {kept : Kept} {listed : ℕ} {releases x : List ℕ} {free at j : ℕ} → EntriesStand ts bytes kept listed →
    AtEntry ts kept releases x at j → ValidFrom (setting ts) x free (entries_at bytes at (listed - j)) → ValidAt ts bytes kept listed releases x free at j
valid_at all here valid = record { all = all; here = here; valid = valid; good = λ more. turn_good here _ (keeps_from _ _ here valid more refl) }

module _ {ts : Set} {bytes : List ℕ} {kept : Kept} {listed : ℕ} {releases x : List ℕ} {free at j : ℕ}
    (w : ValidAt ts bytes kept listed releases x free at j) (more : j < listed) where
  module _ {e : Entry} (is : e ≡ entry_in bytes at) where
    -- the entry is the first of those left
    pub first_left : entries_at bytes at (listed - j) ≡ e ∷ entries_at bytes (at + size SL) (listed - (j + 1))
    first_left = first_of _ _ w.here w.valid more is

    -- its start keeps the rules
    pub entry_keeps : StartKeepsRules ts (hyperperiod ts) x free e.task e.start
    entry_keeps = keeps_from _ _ w.here w.valid more is

    -- it is of a task
    pub entry_task : e.task < tasks_in kept
    entry_task = turn_task w.here e entry_keeps

    -- its task has few jobs
    pub few_started : slot x e.task + 1 ≤ limits.ticks
    few_started = omega (arith, entry_keeps.left, div-le_self (hyperperiod ts) (task ts e.task).period, (kept_good w.all.keeps).short)

    -- the walk at the next entry
    pub entry_next : ValidAt ts bytes kept listed (releases_after kept releases e) (start_job x e.task) (free_after kept e) (at + size SL) (j + 1)
    entry_next = valid_at w.all (turn_next w.here e entry_keeps) (rw (freed w.here e entry_keeps) at (others_valid (through _ _ w.here w.valid more is)))

module _ {ts : Set} {bytes : List ℕ} {kept : Kept} {listed : ℕ} (v : EntriesValid ts bytes kept listed) where
  -- the set has no fault
  pub no_set_fault : set_fault ts ≡ none
  no_set_fault = (set_good ts (hyperperiod_in kept) v.stand.keeps.good).0

  -- the entries are valid
  pub all_valid : ValidFrom (setting ts) [] 0 (entries_behind bytes ts listed)
  all_valid = entries_valid (setting ts) _ (entries_behind bytes ts listed) (suc (length ts.tasks)) [] 0 v.no_fault

  -- the walk at the first entry
  pub first_valid : {releases : List ℕ} {at : ℕ} → AtEntry ts kept releases [] at 0 → ValidAt ts bytes kept listed releases [] 0 at 0
  first_valid {at = at} w =
      let place : at ≡ head_length ts = omega (arith, w.place) in
      valid_at v.stand w (rw (sub-zero listed, place) all_valid)
