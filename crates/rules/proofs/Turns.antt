-- No answer of replay depends on the number of its turns: past the end of the cycle every number gives the same. Assumes nothing.
use mathlib.Core.Path.{◌≡◌, ap}
use mathlib.Core.List.{List, [], ◌∷◌}
use mathlib.Core.Option.{Option, none, some}
use Prim.Native.Nat.{ℕ, zero, suc, ◌+◌, ◌≤◌, ◌<◌}
use native.Mathlib.Omega.{arith}
use Rattle.rules.specs.declared.Idle.{Idle}
use Rattle.rules.specs.declared.Inversion.{Inversion}
use Rattle.rules.specs.Tasks.{Set, hyperperiod, set_fault}
use Rattle.rules.specs.Setting.{Setting, Tables}
use Rattle.rules.specs.Priority.{setting}
use Rattle.rules.specs.Decision.{idle_for, first_idle, later_idles, start_before, delays, step, replay_from, replay}
use Rattle.rules.specs.Judging.{records_fault}
use Rattle.rules.proofs.Cases.{by_bool, by_step}
use Rattle.rules.proofs.Theory.{Laws, Rising}
use Rattle.rules.proofs.Steps.{decide_idles, idles_forward, waits_forward, starts_forward}
use Rattle.rules.proofs.RoundTrip.{decided_by}
use Rattle.rules.proofs.Replayed.{first_idle_some}
use Rattle.rules.proofs.Records.{records_keep}
use Rattle.rules.proofs.JudgedTables.{laws}

-- idle records in their range: at least one tick long, ending before the end of the cycle
abbrev pub InRange : ℕ → List Idle → Type 0
InRange h [] = Unit {0}
InRange h (r ∷ idles) = (1 ≤ r.length) × (r.start + r.length < h) × InRange h idles

-- records that rise are in their range
pub rising_in_range : (h from : ℕ) (idles : List Idle) → Rising h from idles → InRange h idles
rising_in_range h from [] z = tt
rising_in_range h from (r ∷ idles) z = (z.1, z.2, rising_in_range h (suc (r.start + r.length)) idles z.3)

-- so are those behind the first
pub later_in_range : (h : ℕ) (idles : List Idle) → InRange h idles → InRange h (later_idles idles)
later_in_range h [] z = tt
later_in_range h (r ∷ idles) z = z.2

-- the first of them takes at least one tick and ends in the cycle
first_in_range : (h : ℕ) (idles : List Idle) → InRange h idles → (t l : ℕ) → first_idle idles t ≡ some l → (1 ≤ l) × (t + l < h)
first_in_range h idles z t l e =
    first_idle_some idles t l e
    (λ r rest q s u. let y : InRange h (r ∷ rest) = rw q at z in (omega (arith, y.0), omega (arith, y.1)))

module _ (G : Setting) where
  -- an idle record that is used takes at least one tick and ends within the cycle
  pub idles_within : {A : Type 0} (x : G.Started) (t : ℕ) (idles : List Idle) (p : List Inversion) (l : ℕ) → InRange G.cycle_end idles →
      decided_by G x t idles p ≡ idle_for l → (1 ≤ l → t + l < G.cycle_end → A) → A
  idles_within x t idles p l z h go =
      let w = first_in_range G.cycle_end idles z t l (decide_idles G x t (first_idle idles t) (delays G p x) l h) in go w.0 w.1

module _ (G : Setting) (L : Laws G) where
  -- any two numbers of turns that come past the end give the same answer, refusals too
  pub turns_enough : (N K : ℕ) (x : G.Started) (f : ℕ) (idles : List Idle) (p : List Inversion) → InRange G.cycle_end idles → f ≤ G.latest →
      G.latest < N + f → G.latest < K + f → replay_from G N x f idles p ≡ replay_from G K x f idles p
  turns_enough zero K x f idles p z le hn hk = absurd (omega arith)
  turns_enough (suc N) zero x f idles p z le hn hk = absurd (omega arith)
  turns_enough (suc N) (suc K) x f idles p z le hn hk =
      let idle : ℕ → Option ℕ = first_idle idles in
      let delay : ℕ → Option ℕ = delays G p x in
      by_bool (G.all_started x) (λ o. rw (o, replay_from))
      (λ o. by_step (step G x f idle delay)
      (λ r s. let w = idles_forward G x f idle delay (first_in_range G.cycle_end idles z) r s in
      rw (o, s, replay_from)
      (turns_enough N K x r (later_idles idles) p (later_in_range G.cycle_end idles z) (omega (arith, L.cycle_by_latest)) (omega arith) (omega arith)))
      (λ i t s. let w = starts_forward G x f idle delay i t s in
      let u : t < G.free_after i t = L.free_later i t in
      let v : G.free_after i t ≤ G.latest = L.by_latest x t i t (L.replay_refuses x t i t w.1) in
      rw (o, s, replay_from)
      (ap (start_before (record { task = i; start = t })) (turns_enough N K (G.start_job x i) (G.free_after i t) idles p z v (omega arith) (omega arith))))
      (λ r s. let w = waits_forward G x f idle delay (L.waits_later x) r s in
      rw (o, s, replay_from) (turns_enough N K x r idles p z (omega (arith, L.cycle_by_latest)) (omega arith) (omega arith)))
      (λ number s. rw (o, s, replay_from)))

  -- replay in any number of turns past the end is replay
  pub replay_enough : (N : ℕ) (x : G.Started) (X : Tables) → Rising G.cycle_end 0 X.idles → G.latest < N →
      replay_from G N x 0 X.idles X.inversions ≡ replay G x X
  replay_enough N x X z h =
      turns_enough N (suc G.latest) x 0 X.idles X.inversions (rising_in_range G.cycle_end 0 X.idles z) (omega arith) (omega arith)
      (omega arith)

-- the same for document 01's setting, of tables whose records have no fault
pub set_replay_enough : (ts : Set) (N : ℕ) (X : Tables) → set_fault ts ≡ none → records_fault ts (hyperperiod ts) X ≡ none → hyperperiod ts < N →
    replay_from (setting ts) N [] 0 X.idles X.inversions ≡ replay (setting ts) [] X
set_replay_enough ts N X e r h =
    replay_enough (setting ts) (laws ts e) N [] X (records_keep ts (hyperperiod ts) X r).rising h
