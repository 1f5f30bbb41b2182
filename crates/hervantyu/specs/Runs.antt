-- Logs of calls as a C program makes them: `hv_begin`, then `hv_go_on`, each lent the same image and the state's numbers as the call before left them.
-- Assumes nothing.
use Rattle.std.specs.Prelude.{List, ℕ, suc, ◌+◌, ◌≤◌, ◌<◌}
use Rattle.rules.specs.Tasks.{Set, task}
use Rattle.rules.specs.Priority.{slot}
use Rattle.hervantyu.specs.Lent.{Begun, GoneOn}

-- a reported end that lies from a start's absolute time to that time plus C
abbrev pub Honest : Set → List ℕ → ℕ → Type 0
Honest ts start end = (slot start 3 ≤ end) × (end ≤ slot start 3 + (task ts (slot start 0)).time)

-- the calls so far, whatever they returned: how many reported an honest end, what the last of these (or `hv_begin`) left in the start, and what the last
-- call left in the state; a call that reports an end before the running job's start is made again
pub data Log (image : List ℕ) (ts : Set) : ℕ → List ℕ → List ℕ → Type 0 where
  begun : {old-start location start state : List ℕ} {number : ℕ} → Begun image old-start number location start state → Log image ts 0 start state
  went_on : {start state old-start start' state' : List ℕ} {k number : ℕ} → Log image ts k start state → (end : ℕ) → Honest ts start end →
      GoneOn image state end old-start number start' state' → Log image ts (suc k) start' state'
  too_early : {start state old-start start' state' : List ℕ} {k number : ℕ} → Log image ts k start state → (end : ℕ) → end < slot start 3 →
      GoneOn image state end old-start number start' state' → Log image ts k start state'
