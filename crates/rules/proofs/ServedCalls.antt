-- Calls in service: where the reported ends are honest, the k-th answers entry r of cycle c, for k = c · length + r. Assumes nothing.
use mathlib.Core.Path.{◌≡◌, ap}
use mathlib.Core.List.{List}
use Prim.Native.Nat.{ℕ, zero, suc, ◌+◌, ◌*◌, ◌-◌, ◌≤◌, ◌<◌}
use native.Mathlib.Omega.{arith}
use lib.ListN.{length}
use Rattle.rules.specs.declared.Entry.{Entry}
use Rattle.rules.specs.declared.Start.{Start}
use Rattle.rules.specs.declared.Dispatcher.{Dispatcher as State}
use Rattle.rules.specs.declared.Turn.{Turn}
use Rattle.std.specs.Prelude.{Result, Ok}
use Rattle.rules.specs.declared.Located.{Located}
use Rattle.rules.specs.Refusals.{refusal}
use Rattle.rules.specs.Tasks.{Set, hyperperiod}
use Rattle.rules.specs.Setting.{Tables}
use Rattle.rules.specs.Located.{located}
use Rattle.rules.specs.Dispatcher.{began, latest_end, refused, last_cycle, go_on, begin}
use Rattle.rules.specs.Calls.{Honest, Log, begun, went_on, too_early, start_of}
use Rattle.rules.proofs.Serving.{first_turn, Serves, At, Served, serves_first, serves_within, serves_next_cycle, refuses_early, refuses_after, began_at, latest_end_at}

module _ (bytes : List ℕ) (ts : Set) (X : Tables) (τ : List Entry) (g : Served bytes ts X τ) where
  -- the last answer is entry r of cycle c, and the state is the one after it
  pub record ServedTo (c r : ℕ) (a : Result Start Located) (d : State) : Type 0 where
    pub answers : a ≡ Ok (start_of (hyperperiod ts) τ c r)
    pub at : At bytes ts X τ c r d

  -- so it is after a call that serves it
  served_to : {c r : ℕ} {turn : Turn} → Serves bytes ts X τ c r turn → ServedTo c r turn.answer turn.state
  served_to v = record { answers = ap (λ (t : Turn). t.answer) v.answers; at = rw (ap (λ (t : Turn). t.state) v.answers) v.at }

  module _ {c r : ℕ} {s : Start} {d : State} (v : ServedTo c r (Ok s) d) (an_entry : r < length τ) (end : ℕ) where
    -- the start that was answered
    its_start : s ≡ start_of (hyperperiod ts) τ c r
    its_start = let e = v.answers in cc

    -- an end before it is refused
    pub early_refused : end < s.time → go_on bytes d end ≡ refused (located bytes (refusal 21 0)) d
    early_refused l = refuses_early bytes ts X τ g c r d v.at an_entry end (rw (began_at bytes ts X τ g c r d v.at an_entry) (rw its_start at l))

    module _ (honest : Honest ts s end) where
      -- an honest end is not before the running job's time
      not_early : began d ≤ end
      not_early = rw (began_at bytes ts X τ g c r d v.at an_entry) (rw its_start at honest.0)

      -- and not after it
      not_late : end ≤ latest_end d
      not_late = rw (latest_end_at bytes ts X τ g c r d v.at an_entry) (rw its_start at honest.1)

      -- within a cycle the next call answers the next entry
      next_entry : suc r < length τ → ServedTo c (suc r) (go_on bytes d end).answer (go_on bytes d end).state
      next_entry lt = served_to (serves_within bytes ts X τ g c r d v.at an_entry end lt not_early not_late)

      -- after the last entry it answers the first of the next cycle
      next_cycle : suc r ≡ length τ → c < last_cycle → ServedTo (suc c) 0 (go_on bytes d end).answer (go_on bytes d end).state
      next_cycle last lc = served_to (serves_next_cycle bytes ts X τ g c r d v.at an_entry last end lc not_early not_late)

      -- after the last entry of the last cycle it refuses
      pub last_refused : suc r ≡ length τ → last_cycle ≤ c → go_on bytes d end ≡ refused (located bytes (refusal 24 0)) d
      last_refused last lc = refuses_after bytes ts X τ g c r d v.at an_entry last end lc not_early not_late

  -- after k honest ends entry r of cycle c is served, for k = c · length + r
  abbrev InService : ℕ → Result Start Located → State → Type 0
  InService k a d = (c r : ℕ) → k ≡ c * length τ + r → r < length τ → c ≤ last_cycle → ServedTo c r a d

  -- so it is after a call that reports an honest end
  after_going_on : {k : ℕ} {s : Start} {d : State} {turn : Turn} → InService k (Ok s) d → (end : ℕ) → Honest ts s end → turn ≡ go_on bytes d end →
      InService (suc k) turn.answer turn.state
  after_going_on before end honest e zero zero i lt le = absurd (omega arith)
  after_going_on before end honest e (suc c) zero i lt le =
      let r : ℕ = length τ - 1 in
      rw e (next_cycle (before c r (omega arith) (omega arith) (omega arith)) (omega arith) end honest (omega arith) (omega arith))
  after_going_on before end honest e c (suc r) i lt le = rw e (next_entry (before c r (omega arith) (omega arith) le) (omega arith) end honest lt)

  -- and after one that reports an end before its start
  after_too_early : {k : ℕ} {s : Start} {d : State} {turn : Turn} → InService k (Ok s) d → (end : ℕ) → end < s.time → turn ≡ go_on bytes d end →
      InService k (Ok s) turn.state
  after_too_early before end early e c r i lt le =
      let v = before c r i lt le in record { answers = v.answers; at = rw (e, early_refused v lt end early) v.at }

  module _ (begins : begin bytes ≡ first_turn bytes (record { set = ts; tables = X })) where
    -- and after beginning
    after_beginning : {turn : Turn} → turn ≡ begin bytes → InService 0 turn.answer turn.state
    after_beginning e zero zero _ lt le = rw (e, begins) (served_to (serves_first bytes ts X τ g lt))
    after_beginning e zero (suc r) i lt le = absurd (omega arith)
    after_beginning e (suc c) r i lt le = absurd (omega arith)

    -- so it is in every log
    pub logged : {k : ℕ} {a : Result Start Located} {d : State} → Log bytes ts k a d → InService k a d
    logged (begun e) = after_beginning e
    logged (went_on log end honest e) = after_going_on (logged log) end honest e
    logged (too_early log end early e) = after_too_early (logged log) end early e
