-- The next start by offsets, beside replay of the tables that the offsets show: what is used on the way, and how replay goes on. Over any setting, also
-- one whose baseline waits by itself. Assumes nothing.
use mathlib.Core.Path.{◌≡◌, ◌∙◌, ap}
use mathlib.Core.Bool.{true, false}
use mathlib.Core.List.{List, [], ◌∷◌}
use mathlib.Core.Option.{Option}
use Prim.Native.Nat.{ℕ, zero, suc, ◌+◌, ◌*◌, ◌≤◌, ◌<◌}
use native.Mathlib.Omega.{arith}
use lib.ListN.{length}
use borrow.Author.Tests.{ltb-true}
use Rattle.rules.specs.declared.Idle.{Idle}
use Rattle.rules.specs.declared.Inversion.{Inversion}
use Rattle.rules.specs.Refusals.{refuses, refusal}
use Rattle.rules.specs.Setting.{Setting, instant}
use Rattle.rules.specs.Decision.{first_idle, later_idles, start_before, step, delays, replay_from}
use Rattle.rules.specs.Marks.{ID, size}
use Rattle.rules.specs.Offsets.{shows, Source, past_idle, standing, next_is, stuck, all_readable, shown_step, next_start_in, next_start}
use Rattle.rules.proofs.Theory.{Laws, Rising, Pairs}
use Rattle.rules.proofs.Steps.{decide_idles, by_turn_of}
use Rattle.rules.proofs.Derived.{rising_from}
use Rattle.rules.proofs.Replayed.{first_idle_some, waits_by_baseline}
use Rattle.rules.proofs.Turns.{rising_in_range, turns_enough}
use Rattle.rules.proofs.Shown.{ShowsIdles, an_idle}
use Rattle.rules.proofs.Starts.{Placed, past_idle_shown, step_as_table, readable_at}
use Rattle.rules.proofs.UsedIdles.{ToStart, start_now, start_after_idle, start_after_wait}

-- a source whose idle records have their size
abbrev pub Sized : Source → Type 0
Sized S = (o : ℕ) (r : Idle) (after : ℕ) → S.idle_shown o ≡ shows r after → after ≡ o + size ID

-- the offset behind the first of idle records
past_first : {S : Source} → Sized S → {o : ℕ} {r : Idle} {idles : List Idle} → ShowsIdles S o (r ∷ idles) → past_idle (S.idle_shown o) o ≡ o + size ID
past_first {S = S} sized {o = o} {r = r} (an_idle {after = after} e s) = rw e (sized o r after e)

-- how replay goes on where the search for the next start, in so many turns, comes to task i at s with the ID offset w
pub record ComesIn (turns : ℕ) (G : Setting) (S : Source) (p : List Inversion) (x : G.Started) (f o : ℕ) (idles : List Idle) (i s w : ℕ) : Type 0 where
  pub idles_used : List Idle
  pub idles_left : List Idle
  pub way : ToStart G x f idles p i s idles_used idles_left
  pub keeps : G.breaks x s i s ≡ 0
  pub shown : ShowsIdles S w idles_left
  pub offset : w ≡ o + length idles_used * size ID
  pub goes_on : replay_from G turns x f idles p
      ≡ start_before (record { task = i; start = s }) (replay_from G (suc G.latest) (G.start_job x i) (G.free_after i s) idles_left p)

-- in as many turns as reach past the end of every job
abbrev pub Comes : (G : Setting) → Source → List Inversion → G.Started → ℕ → ℕ → List Idle → ℕ → ℕ → ℕ → Type 0
Comes G = ComesIn (suc G.latest) G

module _ (G : Setting) (L : Laws G) (S : Source) (sized : Sized S) (p : List Inversion) (pairs : Pairs 0 0 p) (x : G.Started) (offsets : List ℕ)
    (placed : Placed G S p x offsets) (left : G.all_started x ≡ false) where
  -- in enough turns: a start, or the number of what stops it
  comes_in : {A : Type 0} (N f o : ℕ) (idles : List Idle) → Rising G.cycle_end 0 idles → ShowsIdles S o idles → f ≤ G.latest → G.latest < N + f →
      ((i s w : ℕ) → next_start_in G S N (standing x f offsets o) ≡ next_is i s w → ComesIn N G S p x f o idles i s w → A) →
      ((number : ℕ) → next_start_in G S N (standing x f offsets o) ≡ stuck number → replay_from G N x f idles p ≡ refuses (refusal number 0) → A) → A
  comes_in zero f o idles z shown le enough starts stops = absurd (omega arith)
  comes_in (suc N) f o idles z shown le enough starts stops =
      let t : ℕ = instant G x f in
      let idle : ℕ → Option ℕ = first_idle idles in
      let delay : ℕ → Option ℕ = delays G p x in
      let read : all_readable G S offsets o ≡ true = readable_at G S p pairs x offsets placed o idles shown in
      let same : shown_step G S (standing x f offsets o) ≡ step G x f idle delay = step_as_table G S p pairs x offsets placed f o idles shown in
      by_turn_of G x f idle delay
      (λ l d turn. first_idle_some idles t l (decide_idles G x t (idle t) delay l d)
      (λ r rest q e v.
      let z' : Rising G.cycle_end 0 (r ∷ rest) = rw q at z in
      let shown' : ShowsIdles S o (r ∷ rest) = rw q at shown in
      let past : ℕ = past_idle (S.idle_shown o) o in
      let next_same : next_start_in G S (suc N) (standing x f offsets o) ≡ next_start_in G S N (standing x (t + r.length) offsets past) =
      rw (read, same ∙ turn, v, next_start_in) in
      let on : replay_from G (suc N) x f idles p ≡ replay_from G N x (t + r.length) rest p =
      rw (left, turn, v, replay_from) (ap (λ (k : List Idle). replay_from G N x (t + l) (later_idles k) p) q) in
      comes_in N (t + r.length) past rest (rising_from G.cycle_end (suc (r.start + r.length)) 0 rest (omega arith) z'.3) (past_idle_shown shown')
      (omega (arith, z'.2, L.cycle_by_latest)) (omega (arith, z'.1))
      (λ i s w n c. starts i s w (next_same ∙ n)
      (record {
        idles_used = r ∷ c.idles_used;
        idles_left = c.idles_left;
        way = rw q (start_after_idle G L x p f r rest i s c.idles_used c.idles_left z' e c.way);
        keeps = c.keeps;
        shown = c.shown;
        offset = omega (arith, past_first sized shown', c.offset);
        goes_on = on ∙ c.goes_on;
      }))
      (λ number n g. stops number (next_same ∙ n) (on ∙ g))))
      (λ i d e turn.
      let b : G.breaks x t i t ≡ 0 = L.replay_refuses x t i t e in
      starts i t o (rw (read, same ∙ turn, next_start_in))
      (record {
        idles_used = [];
        idles_left = idles;
        way = start_now G L x p f idles i z d;
        keeps = b;
        shown = shown;
        offset = omega arith;
        goes_on = rw (left, turn, replay_from)
            (ap (start_before (record { task = i; start = t }))
            (turns_enough G L N (suc G.latest) (G.start_job x i) (G.free_after i t) idles p (rising_in_range G.cycle_end 0 idles z)
            (L.by_latest x t i t b) (omega (arith, L.free_later i t)) (omega arith)));
      }))
      (λ i number d e turn. stops (suc number) (rw (read, same ∙ turn, next_start_in)) (rw (left, turn, replay_from)))
      (λ r d c turn.
      let b = waits_by_baseline G x t idles p r d in
      let next_same : next_start_in G S (suc N) (standing x f offsets o) ≡ next_start_in G S N (standing x r offsets o) =
      rw (read, same ∙ turn, next_start_in) in
      let on : replay_from G (suc N) x f idles p ≡ replay_from G N x r idles p = rw (left, turn, replay_from) in
      comes_in N r o idles z shown (omega (arith, ltb-true r G.cycle_end c, L.cycle_by_latest)) (omega (arith, L.waits_later x t r b))
      (λ i s w n y. starts i s w (next_same ∙ n)
      (record {
        idles_used = y.idles_used;
        idles_left = y.idles_left;
        way = start_after_wait G L x p f idles r i s y.idles_used y.idles_left b y.way;
        keeps = y.keeps;
        shown = y.shown;
        offset = y.offset;
        goes_on = on ∙ y.goes_on;
      }))
      (λ number n g. stops number (next_same ∙ n) (on ∙ g)))
      (λ r d c turn. stops 18 (rw (read, same ∙ turn, next_start_in)) (rw (left, turn, replay_from)))

  -- from an instant on, at offsets that show the tables' records: the next start and how replay goes on, or what stops both
  pub comes_next : {A : Type 0} (f o : ℕ) (idles : List Idle) → Rising G.cycle_end 0 idles → ShowsIdles S o idles → f ≤ G.latest →
      ((i s w : ℕ) → next_start G S (standing x f offsets o) ≡ next_is i s w → Comes G S p x f o idles i s w → A) →
      ((number : ℕ) → next_start G S (standing x f offsets o) ≡ stuck number → replay_from G (suc G.latest) x f idles p ≡ refuses (refusal number 0) → A) → A
  comes_next f o idles z shown le starts stops = comes_in (suc G.latest) f o idles z shown le (omega arith) starts stops
