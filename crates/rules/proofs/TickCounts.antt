-- Ticks of each kind, of entries that run one after the other: those counted tick by tick are those counted entry by entry, and they add up to the
-- cycle. Over any setting. Assumes nothing.
use mathlib.Core.Path.{◌≡◌, refl, ◌∙◌, ap, ap₂}
use mathlib.Core.Bool.{Bool, true, false}
use mathlib.Core.List.{List, [], ◌∷◌}
use Prim.Native.Nat.{ℕ, zero, suc, ◌+◌, ◌-◌, ◌≤◌, ◌<◌}
use native.Mathlib.Omega.{arith}
use native.Mathlib.Nat.{add-zero, zero-add, sub-zero}
use borrow.Author.Tests.{lt-ltb, le-ltb, le-leb, lt-leb}
use Rattle.rules.specs.declared.Entry.{Entry}
use Rattle.rules.specs.Timetable.{pick}
use Rattle.rules.specs.Setting.{Setting, instant}
use Rattle.rules.specs.Ticks.{Kind, busy, forced, other, ticks, kind, ticks_that, busy_ticks, forced_ticks, other_ticks}

-- a choice of a sum or nothing
pick_sum : (b : Bool) (m n : ℕ) → pick b (m + n) 0 ≡ pick b m 0 + pick b n 0
pick_sum true m n = refl
pick_sum false m n = omega arith

-- ticks of two stretches
ticks_add : (a b from : ℕ) (p : ℕ → Bool) → ticks (a + b) from p ≡ ticks a from p + ticks b (from + a) p
ticks_add zero b from p = rw (zero-add b, add-zero from) (omega arith)
ticks_add (suc a) b from p =
    let e : suc a + b ≡ suc (a + b) = omega arith in
    let f : from + suc a ≡ suc from + a = omega arith in
    rw (e, f) (omega (arith, ticks_add a b (suc from) p))

-- from one instant to another, with one between
between : (from mid to : ℕ) (p : ℕ → Bool) → from ≤ mid → mid ≤ to → ticks (to - from) from p ≡ ticks (mid - from) from p + ticks (to - mid) mid p
between from mid to p l k =
    let e : to - from ≡ (mid - from) + (to - mid) = omega arith in
    let f : from + (mid - from) ≡ mid = omega arith in
    ap (λ (n : ℕ). ticks n from p) e ∙ ticks_add (mid - from) (to - mid) from p ∙ ap (λ (m : ℕ). ticks (mid - from) from p + ticks (to - mid) m p) f

-- two tests that agree on a stretch
pub ticks_inside : (a from : ℕ) (p q : ℕ → Bool) → ((u : ℕ) → from ≤ u → u < from + a → p u ≡ q u) → ticks a from p ≡ ticks a from q
ticks_inside zero from p q h = refl
ticks_inside (suc a) from p q h =
    ap₂ (λ (b : Bool) (n : ℕ). pick b 1 0 + n) (h from (omega arith) (omega arith)) (ticks_inside a (suc from) p q (λ u l m. h u (omega arith) (omega arith)))

-- a stretch over which a test says the same counts whole or not at all
ticks_all : (a from : ℕ) (p : ℕ → Bool) (b : Bool) → ((u : ℕ) → from ≤ u → u < from + a → p u ≡ b) → ticks a from p ≡ pick b a 0
ticks_all zero from p true h = refl
ticks_all zero from p false h = refl
ticks_all (suc a) from p true h =
    rw (h from (omega arith) (omega arith)) (omega (arith, ticks_all a (suc from) p true (λ u l k. h u (omega arith) (omega arith))))
ticks_all (suc a) from p false h =
    rw (h from (omega arith) (omega arith)) (omega (arith, ticks_all a (suc from) p false (λ u l k. h u (omega arith) (omega arith))))

module _ (G : Setting) where
  -- the end of the cycle
  abbrev h : ℕ
  h = G.cycle_end

  -- entries that run one after the other from f to the end of the cycle, each of a released job, until no job is left; every valid timetable is so
  pub data Runs : G.Started → ℕ → List Entry → Type 0 where
    ended : {x : G.Started} {f : ℕ} → f ≤ h → h ≤ G.least_release x → Runs x f []
    entry : {x : G.Started} {f : ℕ} {e : Entry} {τ : List Entry} → f ≤ e.start → G.least_release x ≤ e.start →
        e.start ≤ G.free_after e.task e.start → Runs (G.start_job x e.task) (G.free_after e.task e.start) τ → Runs x f (e ∷ τ)

  -- they end within the cycle
  runs_inside : {x : G.Started} {f : ℕ} {τ : List Entry} → Runs x f τ → f ≤ h
  runs_inside (ended l k) = l
  runs_inside (entry l k m r) = omega (arith, runs_inside r)

  module _ (p : Kind → Bool) where
    -- the ticks of the kinds that pass a test, from an instant to the end of the cycle
    abbrev passing : G.Started → ℕ → List Entry → ℕ
    passing x f τ = ticks (h - f) f (λ u. p (kind G x τ u))

    -- the same entry by entry
    abbrev counted : G.Started → ℕ → List Entry → ℕ
    counted x f τ = pick (p other) (other_ticks G x f τ) 0 + (pick (p forced) (forced_ticks G x f τ) 0 + pick (p busy) (busy_ticks G τ) 0)

    -- the four stretches of an entry: before the instant of its decision, to its start, while it runs, and what comes after
    module _ (x : G.Started) (f : ℕ) (e : Entry) (τ : List Entry) (l : f ≤ e.start) (k : G.least_release x ≤ e.start)
        (m : e.start ≤ G.free_after e.task e.start) (n : G.free_after e.task e.start ≤ h) where
      abbrev S : ℕ
      S = e.start

      abbrev t : ℕ
      t = instant G x f

      abbrev F : ℕ
      F = G.free_after e.task e.start

      abbrev here : ℕ → Bool
      here u = p (kind G x (e ∷ τ) u)

      four : passing x f (e ∷ τ) ≡ ticks (t - f) f here + (ticks (S - t) t here + (ticks (F - S) S here + ticks (h - F) F here))
      four =
          between f t h here (omega arith) (omega arith)
          ∙ ap (λ (y : ℕ). ticks (t - f) f here + y)
          (between t S h here (omega arith) (omega arith) ∙ ap (λ (y : ℕ). ticks (S - t) t here + y) (between S F h here m n))

      until_instant : ticks (t - f) f here ≡ pick (p other) (t - f) 0
      until_instant = ticks_all (t - f) f here (p other) (λ u a b. rw (lt-ltb u S (omega arith), lt-leb (G.least_release x) u (omega arith)))

      until_start : ticks (S - t) t here ≡ pick (p forced) (S - t) 0
      until_start = ticks_all (S - t) t here (p forced) (λ u a b. rw (lt-ltb u S (omega arith), le-leb (G.least_release x) u (omega arith)))

      until_free : ticks (F - S) S here ≡ pick (p busy) (F - S) 0
      until_free = ticks_all (F - S) S here (p busy) (λ u a b. rw (le-ltb u S a, lt-ltb u F (omega arith)))

      after : ticks (h - F) F here ≡ passing (G.start_job x e.task) F τ
      after = ticks_inside (h - F) F here _ (λ u a b. rw (le-ltb u S (omega arith), le-ltb u F a))

      stretches : passing x f (e ∷ τ)
          ≡ pick (p other) (t - f) 0 + (pick (p forced) (S - t) 0 + (pick (p busy) (F - S) 0 + passing (G.start_job x e.task) F τ))
      stretches = four ∙ ap₂ ◌+◌ until_instant (ap₂ ◌+◌ until_start (ap₂ ◌+◌ until_free after))

    -- the counts are the same
    pub same_counts : {x : G.Started} {f : ℕ} {τ : List Entry} → Runs x f τ → passing x f τ ≡ counted x f τ
    same_counts (ended {x = x} {f = f} l k) =
        ticks_all (h - f) f _ (p other) (λ u v w. rw (lt-leb (G.least_release x) u (omega arith)))
        ∙ omega (arith, pick_sum (p forced) 0 0, pick_sum (p busy) 0 0)
    same_counts (entry {x = x} {f = f} {e = e} {τ = τ} l k m r) =
        let F : ℕ = G.free_after e.task e.start in
        stretches x f e τ l k m (runs_inside r)
        ∙ omega (
          arith,
          same_counts r,
          pick_sum (p other) (instant G x f - f) (other_ticks G (G.start_job x e.task) F τ),
          pick_sum (p forced) (e.start - instant G x f) (forced_ticks G (G.start_job x e.task) F τ),
          pick_sum (p busy) (F - e.start) (busy_ticks G τ),
        )

  -- of the whole cycle
  pub ticks_counted : {x : G.Started} {τ : List Entry} → Runs x 0 τ → (p : Kind → Bool) → ticks_that G p x τ ≡ counted p x 0 τ
  unfolding ticks_that
  ticks_counted {x} {τ} r p = rw (sub-zero h) at (same_counts p r)

  -- they add up to the cycle
  pub ticks_add_up : {x : G.Started} {τ : List Entry} → Runs x 0 τ → busy_ticks G τ + (forced_ticks G x 0 τ + other_ticks G x 0 τ) ≡ h
  ticks_add_up {x} {τ} r =
      omega (arith, same_counts (λ k. true) r, ticks_all (h - 0) 0 (λ u. true) true (λ u l k. refl))
