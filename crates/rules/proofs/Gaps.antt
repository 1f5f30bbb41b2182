-- The idle record that is derived for the gap before a start: what it is where the baseline runs a job, where it waits and where it never does. Assumes
-- nothing.
use mathlib.Core.Path.{◌≡◌, refl}
use mathlib.Core.Bool.{Bool, true}
use mathlib.Core.List.{List, [], ◌∷◌, ◌++◌}
use mathlib.Core.Option.{none}
use Prim.Native.Nat.{ℕ, zero, suc, ◌-◌, ◌≤◌, ◌<◌}
use native.Mathlib.Omega.{arith}
use lib.Dec.{ltb, leb}
use borrow.Author.Tests.{ltb-true, lt-ltb, le-ltb, le-leb, lt-leb, ne_eqb}
use Rattle.rules.specs.declared.Idle.{Idle}
use Rattle.rules.specs.Setting.{Setting, Act, run, wait}
use Rattle.rules.specs.Irregularities.{gap}
use Rattle.rules.specs.Decision.{idle_at, first_idle}
use Rattle.rules.proofs.Cases.{by_bool, by_act}
use Rattle.rules.proofs.Theory.{Laws, NeverWaits}

-- does a baseline not wait to an instant at or before s
abbrev pub not_by : Act → ℕ → Bool
not_by (run i) s = true
not_by (wait r) s = ltb s r

module _ (G : Setting) where
  -- a start at or before the instant leaves no gap
  pub no_gap : (turns : ℕ) (x : G.Started) (t s : ℕ) → s ≤ t → gap G turns x t s ≡ []
  no_gap zero x t s le = refl
  no_gap (suc turns) x t s le = rw (le-ltb t s le, gap)

  -- a later start leaves the whole gap, from an instant at which the baseline does not wait to one at or before the start
  pub gap_whole : (turns : ℕ) (x : G.Started) (t s : ℕ) → t < s → 0 < turns → not_by (G.baseline x t) s ≡ true →
      gap G turns x t s ≡ record { start = t; length = s - t } ∷ []
  gap_whole zero x t s lt some-turns b = absurd (omega arith)
  gap_whole (suc turns) x t s lt some-turns b =
      by_act (G.baseline x t) (λ j d. rw (lt-ltb t s lt, d, gap))
      (λ r d.
      let c : ltb s r ≡ true = rw d at b in
      rw (lt-ltb t s lt, d, lt-leb r s (ltb-true s r c), gap))

  -- from one at which it does, what the gap from there leaves
  pub gap_waits : (turns : ℕ) (x : G.Started) (t s r : ℕ) → t < s → G.baseline x t ≡ wait r → r ≤ s → gap G (suc turns) x t s ≡ gap G turns x r s
  gap_waits turns x t s r lt d le = rw (lt-ltb t s lt, d, le-leb r s le, gap)

  -- a baseline that never waits leaves the whole gap
  module _ (never : NeverWaits G) where
    pub never_by : (x : G.Started) (t s : ℕ) → not_by (G.baseline x t) s ≡ true
    never_by x t s = by_act (G.baseline x t) (λ j d. rw d) (λ r d. absurd (never x t r d))

    pub whole_gap : (turns : ℕ) (x : G.Started) (t s : ℕ) → t < s → 0 < turns → gap G turns x t s ≡ record { start = t; length = s - t } ∷ []
    whole_gap turns x t s lt some-turns = gap_whole turns x t s lt some-turns (never_by x t s)

  -- the idle record of a later gap does not start now
  pub gap_later : Laws G → (turns : ℕ) (x : G.Started) (t r s : ℕ) (k : List Idle) → t < r → first_idle k t ≡ none →
      first_idle (gap G turns x r s ++ k) t ≡ none
  gap_later L zero x t r s k h a = a
  gap_later L (suc turns) x t r s k h a =
      by_bool (ltb r s)
      (λ b. by_act (G.baseline x r) (λ j c. rw (b, c, gap) (rw (ne_eqb r t (omega arith), idle_at)))
      (λ w c. by_bool (leb w s) (λ d. rw (b, c, d, gap) (gap_later L turns x t w s k (omega (arith, L.waits_later x r w c)) a))
      (λ d. rw (b, c, d, gap) (rw (ne_eqb r t (omega arith), idle_at)))))
      (λ b. rw (b, gap) a)
