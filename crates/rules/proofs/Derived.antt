-- The records of a valid timetable keep the rules of records. Assumes nothing.
use mathlib.Core.Path.{◌≡◌, sym, ◌∙◌}
use mathlib.Core.Bool.{Bool, true}
use mathlib.Core.List.{List, [], ◌∷◌, ◌++◌}
use mathlib.Core.Option.{some}
use Prim.Native.Nat.{ℕ, zero, suc, ◌-◌, ◌≤◌, ◌<◌}
use native.Mathlib.Omega.{arith}
use lib.Dec.{ltb, leb}
use borrow.Author.Tests.{ltb-true, leb-true}
use Rattle.rules.specs.declared.Entry.{Entry}
use Rattle.rules.specs.declared.Idle.{Idle}
use Rattle.rules.specs.declared.Inversion.{Inversion}
use Rattle.rules.specs.Setting.{Setting, instant}
use Rattle.rules.specs.Irregularities.{at_most, insert, runs, gap, forced_idles, inversion_of, inversions}
use Rattle.rules.specs.Decision.{delay_of}
use Rattle.rules.proofs.Cases.{by_bool, by_act, by_option, by_eq, by_pair, clash}
use Rattle.rules.proofs.Theory.{Laws, ValidFrom, finished, entry, Rising, Pairs}
use Rattle.rules.proofs.Pairs.{at_most_zero, insert_pairs}
use Rattle.rules.proofs.RoundTrip.{inversion_of_rest}

-- records that rise from an instant on rise from any before it
pub rising_from : (h from before : ℕ) (idles : List Idle) → before ≤ from → Rising h from idles → Rising h before idles
rising_from h from before [] le z = tt
rising_from h from before (r ∷ idles) le z = (omega arith, z.1, z.2, z.3)

module _ (G : Setting) (L : Laws G) where
  -- the records of a gap rise, before those that rise after it
  gap_rising : (turns : ℕ) (x : G.Started) (t s : ℕ) (k : List Idle) → t ≤ s → s < G.cycle_end → Rising G.cycle_end (suc s) k →
      Rising G.cycle_end t (gap G turns x t s ++ k)
  gap_rising zero x t s k h b z = rising_from G.cycle_end (suc s) t k (omega arith) z
  gap_rising (suc turns) x t s k h b z =
      by_bool (ltb t s)
      (λ c. let lt : t < s = ltb-true t s c in
      let this : Rising G.cycle_end t (record { start = t; length = s - t } ∷ k) =
      (omega arith, omega arith, omega arith, rising_from G.cycle_end (suc s) _ k (omega arith) z) in
      by_act (G.baseline x t) (λ j d. rw (c, d, gap) this)
      (λ r d. by_bool (leb r s)
      (λ e. rw (c, d, e, gap)
      (rising_from G.cycle_end r t (gap G turns x r s ++ k) (omega (arith, L.waits_later x t r d)) (gap_rising turns x r s k (leb-true r s e) b z)))
      (λ e. rw (c, d, e, gap) this)))
      (λ c. rw (c, gap) (rising_from G.cycle_end (suc s) t k (omega arith) z))

  -- the forced idles of a valid timetable rise within the cycle
  pub idles_rising : {x : G.Started} {f : ℕ} {τ : List Entry} → ValidFrom G x f τ → Rising G.cycle_end f (forced_idles G x f τ)
  idles_rising (finished o) = tt
  idles_rising (entry {x = x} {f = f} {e = e} {τ = τ} v w) =
      let s : ℕ = e.start in
      let fr : s < G.free_after e.task s = L.free_later e.task s in
      let k : List Idle = forced_idles G (G.start_job x e.task) (G.free_after e.task s) τ in
      rising_from G.cycle_end (instant G x f) f (gap G s x (instant G x f) s ++ k) (omega arith)
      (gap_rising s x (instant G x f) s k (omega (arith, L.no_overlap x f e.task s v, L.some_released x f e.task s v))
      (L.in_cycle x f e.task s v) (rising_from G.cycle_end (G.free_after e.task s) (suc s) k (omega arith) (idles_rising w)))

  -- the inversion records of what is left are of jobs not yet started
  unstarted : {x : G.Started} {f : ℕ} {τ : List Entry} → ValidFrom G x f τ → (j k d : ℕ) → delay_of (inversions G x τ) j k ≡ some d → G.next_job x j ≤ k
  unstarted (finished o) j k d g = clash (cc)
  unstarted (entry {x = x} {f = f} {e = e} {τ = τ} v w) j k d g =
      by_pair e.task j (G.next_job x e.task) k (λ u y. let a : G.next_job x j ≡ G.next_job x e.task = rw u in omega arith)
      (λ n.
      let h : G.next_job (G.start_job x e.task) j ≤ k = unstarted w j k d (sym (inversion_of_rest G x e τ j k n) ∙ g) in
      by_eq e.task j
      (λ u. let a : G.next_job (G.start_job x e.task) j ≡ suc (G.next_job x j) = rw (← u) (L.next_moves x f e.task e.start v) in omega arith)
      (λ u. omega (arith, L.others_stay x e.task j (λ z. u (sym z)))))

  -- the pairs of a valid timetable's inversions rise
  pub inversions_pairs : {x : G.Started} {f : ℕ} {τ : List Entry} → ValidFrom G x f τ → Pairs 0 0 (inversions G x τ)
  inversions_pairs (finished o) = tt
  inversions_pairs (entry {x = x} {f = f} {e = e} {τ = τ} v w) =
      let q : List Inversion = inversions G (G.start_job x e.task) τ in
      by_bool (runs (G.baseline x e.start) e.task) (λ b. rw b (inversions_pairs w))
      (λ b. rw b
      (insert_pairs 0 0 (inversion_of G x e) q (inversions_pairs w) (at_most_zero e.task (G.next_job x e.task))
      (by_option (delay_of q e.task (G.next_job x e.task)) (λ n. n)
      (λ d g. absurd (omega (arith, unstarted w e.task (G.next_job x e.task) d g, L.next_moves x f e.task e.start v))))))

-- every record of a table passes a test
abbrev pub Every : (Inversion → Bool) → List Inversion → Type 0
Every passes [] = Unit {0}
Every passes (r ∷ p) = (passes r ≡ true) × Every passes p

-- a record that passes, put among records that pass
insert_every : (passes : Inversion → Bool) (r : Inversion) (p : List Inversion) → passes r ≡ true → Every passes p → Every passes (insert r p)
insert_every passes r [] h z = (h, tt)
insert_every passes r (s ∷ p) h z =
    by_bool (at_most r.task r.job s.task s.job) (λ b. rw (b, insert) (h, z))
    (λ b. rw (b, insert) (z.0, insert_every passes r p h z.1))

-- every inversion of a valid timetable passes a test that every entry's record passes
pub inversions_every : (G : Setting) (passes : Inversion → Bool) →
    ((x : G.Started) (f : ℕ) (e : Entry) → G.breaks x f e.task e.start ≡ 0 → passes (inversion_of G x e) ≡ true) →
    {x : G.Started} {f : ℕ} {τ : List Entry} → ValidFrom G x f τ → Every passes (inversions G x τ)
inversions_every G passes h (finished o) = tt
inversions_every G passes h (entry {x = x} {f = f} {e = e} {τ = τ} v w) =
    by_bool (runs (G.baseline x e.start) e.task) (λ b. rw b (inversions_every G passes h w))
    (λ b. rw b (insert_every passes (inversion_of G x e) (inversions G (G.start_job x e.task) τ) (h x f e v) (inversions_every G passes h w)))
