-- Irregularities put into an output in one walk: what is put so far and what the entries left add come to the tables of the whole. Assumes nothing.
use mathlib.Core.Path.{◌≡◌, refl, sym, ◌∙◌, ap}
use mathlib.Core.Bool.{Bool, true}
use mathlib.Core.List.{List, [], ◌∷◌}
use Prim.Native.Nat.{ℕ, suc, ◌+◌, ◌-◌, ◌≤◌, ◌<◌}
use native.Mathlib.Nat.{sub-zero}
use native.Mathlib.Omega.{arith}
use lib.ListN.{length, get_or, set, replicate, length-set}
use lib.Seq.{get_or-set_same, get_or-set_other, set-get_or}
use borrow.Author.Tests.{ltb-true, ltb-false}
use Rattle.rules.specs.declared.Entry.{Entry}
use Rattle.rules.specs.declared.Inversion.{Inversion}
use Rattle.rules.specs.Tasks.{Set, hyperperiod}
use Rattle.rules.specs.Setting.{Setting}
use Rattle.rules.specs.Priority.{slot, start_job, setting}
use Rattle.rules.specs.Irregularities.{forced_idles}
use Rattle.rules.specs.Judging.{tables}
use Rattle.rules.specs.Marks.{Mark, SL, ID, PV, size}
use Rattle.rules.specs.Image.{record_of, of_idle, of_inversion, head_length}
use Rattle.rules.proofs.Cases.{by_bool, by_eq}
use Rattle.rules.proofs.PriorityLaws.{StartKeepsRules, slot_empty, slot_start_same, slot_start_other}
use Rattle.sets.specs.declared.Kept.{Kept}
use Rattle.sets.specs.Kept.{tasks_in, Keeps}
use Rattle.sets.proofs.SetKept.{one_set}
use Rattle.writing.specs.Writing.{put_at, record_put}
use Rattle.writing.proofs.Puts.{put_length}
use Rattle.timetables.specs.declared.Counts.{Counts}
use Rattle.timetables.specs.Entries.{entry_in, entries_at}
use Rattle.timetables.specs.Judged.{entries_behind}
use Rattle.timetables.specs.Instants.{instant_of, idles_before, inverts}
use Rattle.timetables.specs.Counted.{task_inversions}
use Rattle.timetables.proofs.EntriesRead.{no_entry_left}
use Rattle.timetables.proofs.Counting.{zero_slot}
use Rattle.timetables.proofs.Turns.{AtEntry, free_after, releases_after, turn_idle, turn_no_idle, turn_inverted, turn_others, turn_regular}
use Rattle.derivation.specs.Parts.{joined, LeftToPut, inversions_bytes, parts_of, places_of, tables_bytes}
use Rattle.derivation.specs.Putting.{FewCounted, PartsBegin, idle_from, inversion_by, PutWhere, IdlePut, InversionPut, tables_put, tables_behind, CanPut}
use Rattle.derivation.proofs.ByTask.{inversions_by_task}
use Rattle.derivation.proofs.TablesPut.{idle_put, inversion_put, same_left, all_put, all_left}
use Rattle.derivation.proofs.ImagePut.{tables_length}
use Rattle.timetables.proofs.ValidTurns.{ValidAt, first_left, entry_keeps, entry_task, few_started, entry_next, all_valid, first_valid}
use Rattle.derivation.proofs.ValidEntries.{few_idles, few_own}

-- where there is a record it is put
pub one_put : {is : Bool} {m : Mark} {values old : List ℕ} {place : ℕ} {out : List ℕ} → is ≡ true → out ≡ record_put old place (record_of m values) →
    PutWhere is m values old place out (place + size m)
one_put e put = record { output = rw e put; next = rw e }

-- the walk at entry j, with the next job numbers, the output so far, the places where records go, and what the output comes to
pub record PutFrom (ts : Set) (bytes : List ℕ) (kept : Kept) (listed : ℕ) (releases next : List ℕ) (free at j idle_at : ℕ)
    (offsets old out : List ℕ) : Type 0 where
  pub started : List ℕ
  pub numbers : (i : ℕ) → get_or next i 0 ≡ slot started i
  pub many_numbers : length next ≡ 16
  pub walk : ValidAt ts bytes kept listed releases started free at j
  pub left : LeftToPut (suc (length ts.tasks)) (tables_put old ts (tables_behind bytes ts listed)) (places_of idle_at offsets)
      (parts_of (forced_idles (setting ts) started free (entries_at bytes at (listed - j)))
      (λ k. task_inversions (setting ts) k started (entries_at bytes at (listed - j)))) out
  pub slots : length offsets ≡ 16
  pub long : length out ≡ length old

-- what is counted is few
pub can_few : {ts : Set} {bytes : List ℕ} {kept : Kept} {listed : ℕ} {c : Counts} {out : List ℕ} → CanPut ts bytes kept listed c out →
    FewCounted (tasks_in kept) c
can_few can = record {
  tasks = can.valid.stand.keeps.few;
  idles = omega (arith, can.counted.idles, few_idles can.valid);
  each = λ i l. omega (arith, can.counted.each i, few_own can.valid i);
}

-- before the first entry all of the tables are left
pub put_first : {ts : Set} {bytes : List ℕ} {kept : Kept} {listed : ℕ} {releases : List ℕ} {at idle_at : ℕ} {c : Counts} {offsets out : List ℕ} →
    CanPut ts bytes kept listed c out → PartsBegin (tasks_in kept) c offsets → AtEntry ts kept releases [] at 0 → idle_at ≡ head_length ts →
    PutFrom ts bytes kept listed releases (replicate 16 0) 0 at 0 idle_at offsets out out
put_first {ts} {bytes} {listed = listed} {at = at} {c = c} {offsets} {out} can begin w first =
    let n = length ts.tasks in
    let τ = entries_behind bytes ts listed in
    let X = tables ts τ in
    let own : ℕ → List Inversion = λ k. task_inversions (setting ts) k [] τ in
    let by-task : joined n 0 own ≡ X.inversions = sym (inversions_by_task ts (hyperperiod ts) (all_valid can.valid)) in
    let place : at ≡ head_length ts = omega (arith, w.place) in
    let everything : τ ≡ entries_at bytes at (listed - 0) = rw (place, sub-zero listed) in
    let idles = can.counted.idles in
    let total = can.counted.inversions in
    let from : PartsBegin n c offsets = rw w.keeps.n_tasks at begin in
    let whole = put_at out (head_length ts) (tables_bytes X.idles (joined n 0 own)) in
    let all : LeftToPut (suc n) whole (places_of (head_length ts) offsets) (parts_of X.idles own) out =
    all_left n (head_length ts) X.idles own c.each offsets out (λ k l. can.counted.each k) (λ k l. rw (← idles) (from.at k l))
    (omega (arith, can.room, tables_length X.idles (joined n 0 own), ap length by-task)) in
    record {
      started = [];
      numbers = λ i. omega (arith, zero_slot 16 i, slot_empty i);
      many_numbers = refl;
      walk = first_valid can.valid w;
      left = rw first
          (same_left (head_length ts) offsets out _ _ _ _ (ap (forced_idles (setting ts) [] 0) everything)
          (λ k. ap (task_inversions (setting ts) k []) everything) (rw by-task at all));
      slots = begin.slots;
      long = refl;
    }

module _ {ts : Set} {bytes : List ℕ} {kept : Kept} {listed : ℕ} {releases next : List ℕ} {free at j idle_at : ℕ} {offsets old out : List ℕ}
    (w : PutFrom ts bytes kept listed releases next free at j idle_at offsets old out) where
  -- the set's setting
  abbrev G : Setting
  G = setting ts

  -- what has started
  abbrev x : List ℕ
  x = w.started

  -- how many parts there are, and what the output comes to
  abbrev many : ℕ
  many = suc (length ts.tasks)

  abbrev whole : List ℕ
  whole = tables_put old ts (tables_behind bytes ts listed)

  -- at the end all is put, of the only set that the rows are kept of
  pub put_all : {us : Set} → Keeps us kept → listed ≤ j → out ≡ tables_put old us (tables_behind bytes us listed)
  put_all keeps end =
      let none = no_entry_left bytes at listed j end in
      rw (one_set keeps w.walk.all.keeps)
      (all_put idle_at offsets out (λ k. task_inversions G k x []) (λ k. refl)
      (same_left idle_at offsets out _ _ _ _ (ap (forced_idles G x free) none) (λ k. ap (task_inversions G k x) none) w.left))

  module _ (more : j < listed) {e : Entry} (is : e ≡ entry_in bytes at) where
    -- the entries behind this one
    abbrev others : List Entry
    others = entries_at bytes (at + size SL) (listed - (j + 1))

    -- what has started after the entry
    abbrev started_after : List ℕ
    started_after = start_job x e.task

    -- the entry is the first of those left
    left_here : entries_at bytes at (listed - j) ≡ e ∷ others
    left_here = first_left w.walk more is

    -- it keeps the rules
    keeps : StartKeepsRules ts (hyperperiod ts) x free e.task e.start
    keeps = entry_keeps w.walk more is

    -- its task has a part
    a_part : e.task < length ts.tasks
    a_part = omega (arith, entry_task w.walk more is, w.walk.all.keeps.n_tasks)

    -- its job is one of few
    pub few_numbers : get_or next e.task 0 + 1 < 4294967296
    few_numbers = omega (arith, few_started w.walk more is, w.numbers e.task)

    -- the instant of decision, and whether a forced idle is before the entry
    abbrev instant : ℕ
    instant = instant_of (tasks_in kept) releases free

    abbrev idle : Bool
    idle = idles_before (tasks_in kept) releases free e

    -- a forced idle is the next to put
    idle_next : idle ≡ true → LeftToPut many whole (places_of idle_at offsets)
        (parts_of (idle_from instant e ∷ forced_idles G started_after (free_after kept e) others) (λ k. task_inversions G k x (e ∷ others))) out
    idle_next b =
        same_left idle_at offsets out _ _ _ _
        (ap (forced_idles G x free) left_here ∙ turn_idle w.walk.here e keeps others instant refl (ltb-true instant e.start b))
        (λ k. ap (task_inversions G k x) left_here) w.left

    -- there is room for it
    pub idle_room : idle ≡ true → idle_at + size ID ≤ length out
    idle_room b = omega (arith, (idle_next b).apart.inside 0 (omega arith))

    module _ {idle-at' : ℕ} {out' : List ℕ} (put : IdlePut (tasks_in kept) releases free e out idle_at out' idle-at') where
      -- once it is put, if there is one, the others are left
      idle_done : LeftToPut many whole (places_of idle-at' offsets)
          (parts_of (forced_idles G started_after (free_after kept e) others) (λ k. task_inversions G k x (e ∷ others))) out'
      idle_done =
          by_bool idle
          (λ b.
          let moved : idle-at' ≡ idle_at + size ID = rw b at put.next in
          let there : out' ≡ record_put out idle_at (record_of ID (of_idle (idle_from instant e))) = rw b at put.output in
          rw (moved, there) (idle_put idle_at offsets out (idle_from instant e) (forced_idles G started_after (free_after kept e) others) _ (idle_next b)))
          (λ b.
          let same : idle-at' ≡ idle_at = rw b at put.next in
          let there : out' ≡ out = rw b at put.output in
          rw (same, there)
          (same_left idle_at offsets out _ _ _ _
          (ap (forced_idles G x free) left_here ∙ turn_no_idle w.walk.here e keeps others instant refl (ltb-false instant e.start b))
          (λ k. ap (task_inversions G k x) left_here) w.left))

      -- and the output is as long as before
      idle_long : length out' ≡ length old
      idle_long = by_bool idle (λ b. ap length (rw b at put.output) ∙ put_length out idle_at _ ∙ w.long) (λ b. ap length (rw b at put.output) ∙ w.long)

      -- the entry's inversion
      abbrev inversion : Inversion
      inversion = inversion_by releases (get_or next e.task 0) e

      -- is the next of its task's to put
      inversion_next : inverts releases e ≡ true → task_inversions G e.task x (e ∷ others) ≡ inversion ∷ task_inversions G e.task started_after others
      inversion_next b = rw (w.numbers e.task) (turn_inverted w.walk.here e keeps others b)

      -- its task has a place
      a_slot : e.task < length offsets
      a_slot = omega (arith, entry_task w.walk more is, w.slots, w.walk.all.keeps.few)

      -- there is room for it
      pub inversion_room : inverts releases e ≡ true → get_or offsets e.task 0 + size PV ≤ length out'
      inversion_room b =
          omega (
            arith,
            idle_done.apart.inside (suc e.task) (omega (arith, a_part)),
            ap (λ (p : List Inversion). length (inversions_bytes p)) (inversion_next b),
          )

      module _ {place : ℕ} {out'' : List ℕ} (also : InversionPut releases (get_or next e.task 0) e out' (get_or offsets e.task 0) out'' place) where
        -- once it is put too, if the entry is one, the others are left
        inversion_done : LeftToPut many whole (places_of idle-at' (set offsets e.task place))
            (parts_of (forced_idles G started_after (free_after kept e) others) (λ k. task_inversions G k started_after others)) out''
        inversion_done =
            by_bool (inverts releases e)
            (λ b.
            let moved : place ≡ get_or offsets e.task 0 + size PV = rw b at also.next in
            let there : out'' ≡ record_put out' (get_or offsets e.task 0) (record_of PV (of_inversion inversion)) = rw b at also.output in
            rw (moved, there)
            (inversion_put idle-at' offsets out' e.task inversion _ _ _ a_part a_slot (inversion_next b)
            (turn_others w.walk.here e keeps others) idle_done))
            (λ b.
            let same : place ≡ get_or offsets e.task 0 = rw b at also.next in
            let there : out'' ≡ out' = rw b at also.output in
            rw (same, there, set-get_or offsets e.task 0)
            (same_left idle-at' offsets out' _ _ _ _ refl (turn_regular w.walk.here e keeps others b) idle_done))

        -- and the output is as long as before
        inversion_long : length out'' ≡ length old
        inversion_long =
            by_bool (inverts releases e) (λ b. ap length (rw b at also.output) ∙ put_length out' (get_or offsets e.task 0) _ ∙ idle_long)
            (λ b. ap length (rw b at also.output) ∙ idle_long)

        -- the next job numbers after the entry
        numbers_after : (i : ℕ) → get_or (set next e.task (get_or next e.task 0 + 1)) i 0 ≡ slot started_after i
        numbers_after i =
            let v = get_or next e.task 0 + 1 in
            let fits : e.task < length next = omega (arith, entry_task w.walk more is, w.many_numbers, w.walk.all.keeps.few) in
            by_eq i e.task (λ q. rw q (omega (arith, get_or-set_same next e.task v 0 fits, w.numbers e.task, slot_start_same x e.task)))
            (λ n. omega (arith, get_or-set_other next e.task i v 0 n, w.numbers i, slot_start_other x e.task i n))

        -- the walk at the next entry
        pub put_next : PutFrom ts bytes kept listed (releases_after kept releases e) (set next e.task (get_or next e.task 0 + 1)) (free_after kept e)
            (at + size SL) (j + 1) idle-at' (set offsets e.task place) old out''
        put_next = record {
          started = started_after;
          numbers = numbers_after;
          many_numbers = length-set next e.task (get_or next e.task 0 + 1) ∙ w.many_numbers;
          walk = entry_next w.walk more is;
          left = inversion_done;
          slots = length-set offsets e.task place ∙ w.slots;
          long = inversion_long;
        }
