-- Demand 3: given an accepted table image, the dispatcher's calls serve the rebuilt timetable, cycle after cycle. Assumes nothing.
use mathlib.Core.Path.{◌≡◌, refl, sym}
use mathlib.Core.List.{List}
use Prim.Native.Nat.{ℕ, zero, suc, ◌+◌, ◌*◌, ◌-◌, ◌/◌, ◌%◌, ◌≤◌, ◌<◌}
use native.Mathlib.Nat.{div-add-mod', mod-lt, div-lt_iff_lt-mul, lt_of_mul-lt-mul_right}
use native.Mathlib.Omega.{arith}
use lib.ListN.{length}
use Rattle.fields.specs.Number.{Bytes}
use Rattle.rules.specs.declared.Entry.{Entry}
use Rattle.rules.specs.declared.Start.{Start}
use Rattle.rules.specs.declared.Dispatcher.{Dispatcher as State}
use Rattle.std.specs.Prelude.{Result, Ok}
use Rattle.rules.specs.declared.Located.{Located}
use Rattle.rules.specs.Refusals.{gives, refusal}
use Rattle.rules.specs.Tasks.{Set, task, release, due, all_jobs, hyperperiod}
use Rattle.rules.specs.Timetable.{entry_at, job_at, end_at}
use Rattle.rules.specs.Setting.{Tables}
use Rattle.rules.specs.Operations.{rebuilt}
use Rattle.rules.specs.Located.{located}
use Rattle.rules.specs.Dispatcher.{Shaped, refused, last_cycle, go_on}
use Rattle.rules.specs.Calls.{Honest, Log, begun, went_on, all_starts, start_of}
use Rattle.rules.proofs.Cases.{by_le}
use Rattle.rules.proofs.PriorityLaws.{due_in_cycle}
use Rattle.rules.proofs.GoodSets.{a_job}
use Rattle.rules.proofs.ValidTimetables.{valid_length}
use Rattle.rules.proofs.Serving.{Served, shaped_at}
use Rattle.rules.proofs.AcceptedTables.{served, begins, given_tables}
use Rattle.rules.proofs.ServedCalls.{ServedTo, logged, early_refused, last_refused}

-- an image that is accepted, with the set and the timetable that it gives
module _ (bytes : List ℕ) (are-bytes : Bytes bytes) (ts : Set) (τ : List Entry)
    (accepted : rebuilt bytes ≡ gives (record { set = ts; entries = τ })) where
  -- the tables that stand in it
  pub its_tables : Tables
  its_tables = (given_tables bytes ts τ accepted).0

  -- they are what the dispatcher goes by
  pub its_service : Served bytes ts its_tables τ
  unfolding its_tables
  its_service = let given = given_tables bytes ts τ accepted in served ts its_tables τ given.2 bytes are-bytes given.1

  -- after k honest ends entry r of cycle c is served, for k = c · length + r
  serves_at : {k : ℕ} {a : Result Start Located} {d : State} → Log bytes ts k a d → (c r : ℕ) → k ≡ c * length τ + r → r < length τ → c ≤ last_cycle →
      ServedTo bytes ts its_tables τ its_service c r a d
  unfolding its_tables
  serves_at = let given = given_tables bytes ts τ accepted in logged bytes ts its_tables τ its_service (begins ts its_tables τ given.2 bytes are-bytes given.1)

  -- the timetable has as many entries as a cycle has jobs
  pub as_many_entries : length τ ≡ all_jobs (hyperperiod ts) ts
  as_many_entries = valid_length its_service.valid

  -- which is at least one
  pub at_least_one : 1 ≤ length τ
  at_least_one = omega (arith, as_many_entries, a_job its_service.good)

  -- the k-th start is for an entry
  pub an_entry : (k : ℕ) → k % length τ < length τ
  an_entry k = mod-lt k at_least_one

  -- in a cycle that is counted
  a_cycle : (k : ℕ) → k < all_starts τ → k / length τ ≤ last_cycle
  a_cycle k lt = omega (arith, (div-lt_iff_lt-mul {k = length τ} {x = k} {y = 4294967296} at_least_one).1 (omega arith))

  -- entry k mod length of cycle k / length
  abbrev nth_start : ℕ → Start
  nth_start k = start_of (hyperperiod ts) τ (k / length τ) (k % length τ)

  module _ {k : ℕ} {a : Result Start Located} {d : State} (log : Log bytes ts k a d) (lt : k < all_starts τ) where
    -- it is served
    pub serves_nth : ServedTo bytes ts its_tables τ its_service (k / length τ) (k % length τ) a d
    serves_nth = serves_at log (k / length τ) (k % length τ) (sym (div-add-mod' k (length τ))) (an_entry k) (a_cycle k lt)

    -- so it is the last answer, moved by whole hyperperiods
    pub serves : a ≡ Ok (nth_start k)
    serves = serves_nth.answers

    -- and the state has all its slots
    pub states_shaped : Shaped d
    states_shaped = shaped_at bytes ts its_tables τ its_service (k / length τ) (k % length τ) d serves_nth.at (an_entry k)

  module _ {k : ℕ} {s : Start} {d : State} (log : Log bytes ts k (Ok s) d) (lt : k < all_starts τ) where
    -- the start that is answered
    pub start_is : s ≡ nth_start k
    start_is = let e = serves log lt in cc

    -- a start is not before its release
    pub starts_released : s.cycle * hyperperiod ts + release (task ts s.task) s.job ≤ s.time
    starts_released = rw start_is (omega (arith, its_service.valid.released (k % length τ) (an_entry k)))

    -- its job ends by the time it is due
    pub starts_in_time : s.time + (task ts s.task).time ≤ s.cycle * hyperperiod ts + due (task ts s.task) s.job
    starts_in_time = rw start_is (omega (arith, its_service.valid.in_time (k % length τ) (an_entry k)))

    -- an end before it is refused with 21, and the state stays
    pub refuses_early : (end : ℕ) → end < s.time → go_on bytes d end ≡ refused (located bytes (refusal 21 0)) d
    refuses_early end early = early_refused bytes ts its_tables τ its_service (serves_nth log lt) (an_entry k) end early

  -- after the last start of the last cycle an honest end is refused with 24, and the state stays
  pub after_the_last : {k : ℕ} {s : Start} {d : State} → Log bytes ts k (Ok s) d → suc k ≡ all_starts τ → (end : ℕ) → Honest ts s end →
      go_on bytes d end ≡ refused (located bytes (refusal 24 0)) d
  after_the_last {k} log last end honest =
      let r : ℕ = length τ - 1 in
      let l : r < length τ = omega (arith, at_least_one) in
      last_refused bytes ts its_tables τ its_service (serves_at log last_cycle r (omega (arith, at_least_one)) l (omega arith)) l end honest
      (omega (arith, at_least_one)) (omega arith)

  -- the last entry of a cycle ends within it
  ends_within : (r : ℕ) → r < length τ → end_at ts τ r ≤ hyperperiod ts
  ends_within r l =
      omega (
        arith,
        its_service.valid.in_time r l,
        due_in_cycle (hyperperiod ts) (job_at τ r) (task ts (entry_at τ r).task)
            (its_service.good.own_rules (entry_at τ r).task (its_service.valid.tasks_below_n r l)) (its_service.valid.not_too_many r l),
      )

  -- a start is not before the end of the start before it, also from one cycle to the next
  pub starts_alone : {k : ℕ} {s s' : Start} {d d' : State} → Log bytes ts k (Ok s) d → Log bytes ts (suc k) (Ok s') d' → suc k < all_starts τ →
      s.time + (task ts s.task).time ≤ s'.time
  starts_alone {k} {s} {s'} log log' lt =
      let c : ℕ = k / length τ in
      let r : ℕ = k % length τ in
      let split : c * length τ + r ≡ k = div-add-mod' k (length τ) in
      let this : s ≡ start_of (hyperperiod ts) τ c r = start_is log (omega arith) in
      by_le (suc (suc r)) (length τ)
      (λ l. let e = (serves_at log' c (suc r) (omega arith) l (a_cycle k (omega arith))).answers in
      let that : s' ≡ start_of (hyperperiod ts) τ c (suc r) = cc in
      rw (this, that) (omega (arith, its_service.valid.no_overlap r l)))
      (λ l. let last : suc r ≡ length τ = omega (arith, an_entry k) in
      let few : suc c < 4294967296 = lt_of_mul-lt-mul_right (length τ) (omega arith) in
      let e = (serves_at log' (suc c) 0 (omega arith) at_least_one (omega arith)).answers in
      let that : s' ≡ start_of (hyperperiod ts) τ (suc c) 0 = cc in
      rw (this, that) (omega (arith, ends_within r (an_entry k))))

  -- a log whose last answer is a start
  abbrev ALog : ℕ → Type 0
  ALog k = (s : Start) × (d : State) × Log bytes ts k (Ok s) d

  -- every log is one
  a_log : {k : ℕ} {a : Result Start Located} {d : State} → Log bytes ts k a d → k < all_starts τ → ALog k
  a_log {k} {a} {d} log lt = (nth_start k, d, rw (serves log lt) at log)

  -- and goes on: the job ends when it starts
  one_more : (k : ℕ) → ALog k → suc k < all_starts τ → ALog (suc k)
  one_more k w lt = a_log (went_on w.2 w.0.time (omega arith, omega arith) refl) lt

  -- so there is one for every start
  pub logs_exist : (k : ℕ) → k < all_starts τ → ALog k
  logs_exist zero lt = a_log (begun refl) lt
  logs_exist (suc k) lt = one_more k (logs_exist k (omega arith)) lt

  -- every start but the first is after instant 0, so that there are ends before it
  pub later_starts : {k : ℕ} {s : Start} {d : State} → Log bytes ts (suc k) (Ok s) d → suc k < all_starts τ → 0 < s.time
  later_starts {k} log lt =
      let before = logs_exist k (omega arith) in
      let runs : 1 ≤ (task ts before.0.task).time =
      rw (start_is before.2 (omega arith))
      (its_service.good.own_rules (entry_at τ (k % length τ)).task (its_service.valid.tasks_below_n (k % length τ) (an_entry k))).takes_time in
      omega (arith, starts_alone before.2 log lt)
