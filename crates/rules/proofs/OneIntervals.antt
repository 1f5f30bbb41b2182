-- A cycle has one list of intervals. Assumes nothing.
use mathlib.Core.Path.{◌≡◌, refl, sym, ◌∙◌, ap, ap₂}
use mathlib.Core.List.{List, [], ◌∷◌}
use Prim.Native.Nat.{ℕ, suc, pred, ◌≤◌, ◌<◌}
use native.Mathlib.Omega.{arith}
use lib.ListN.{length}
use Rattle.rules.specs.Tasks.{Set}
use Rattle.rules.specs.Intervals.{Interval, work_due}
use Rattle.rules.specs.IntervalRules.{FirstRelease, LastDeadline, Fill, WithJobs, WithoutJobs, IsInterval, with_jobs, without_jobs, interval_at, AreIntervals}
use Rattle.rules.proofs.Cases.{by_eq, by_le}
use Rattle.rules.proofs.CycleIntervals.{fill_inside, none_inside}

module _ (ts : Set) (h : ℕ) where
  -- the last deadline before a tick is one instant, and so is the least release
  one_last : {tick d e : ℕ} → LastDeadline ts h tick d → LastDeadline ts h tick e → d ≤ e
  one_last {tick} {d} {e} a b = by_eq d 0 (λ z. omega arith) (λ n. b.last d (a.is_one (omega arith)) a.inside)

  one_release : {e r s : ℕ} → FirstRelease ts h e r → FirstRelease ts h e s → r ≤ s
  one_release a b = omega (arith, a.least b.i b.k b.due_there, b.is_release)

  -- two intervals with jobs that end at one deadline are one
  same_end : (x y : Interval) → WithJobs ts h x → WithJobs ts h y → x.end ≡ y.end → (x.begin ≡ y.begin) × (x.work ≡ y.work)
  same_end x y a b e =
      let last : LastDeadline ts h (pred x.end) b.previous = rw (sym e) at b.is_previous in
      let release : FirstRelease ts h x.end b.release = rw (sym e) at b.is_release in (
        omega (
          arith,
          a.begins,
          b.begins,
          one_last a.is_previous last,
          one_last last a.is_previous,
          one_release a.is_release release,
          one_release release a.is_release,
        ),
        a.holds ∙ ap (λ (n : ℕ). work_due ts h n) e ∙ sym b.holds,
      )

  -- two intervals with jobs that overlap are one
  overlap_one : (x y : Interval) → WithJobs ts h x → WithJobs ts h y → x.begin < y.end → y.begin < x.end → x.begin ≡ y.begin
  overlap_one x y a b l m =
      by_eq x.end y.end (λ e. (same_end x y a b e).0)
      (λ n. by_le x.end y.end (λ k. absurd (none_inside ts h (with_jobs b) x.end a.ends m (omega arith)))
      (λ k. absurd (none_inside ts h (with_jobs a) y.end b.ends l k)))

  by_interval : {A : Type 0} {x : Interval} → IsInterval ts h x → (WithJobs ts h x → A) → (WithoutJobs ts h x → A) → A
  by_interval (with_jobs w) p q = p w
  by_interval (without_jobs w) p q = q w

  -- intervals from an instant to the end of the cycle
  record From (p : ℕ) (xs : List Interval) : Type 0 where
    fill : Fill p xs h
    each : (j : ℕ) → j < length xs → IsInterval ts h (interval_at xs j)
    apart : (j : ℕ) → suc j < length xs → WithoutJobs ts h (interval_at xs j) → WithoutJobs ts h (interval_at xs (suc j)) → ⊥

  behind_first : {p : ℕ} {x : Interval} {xs : List Interval} → From p (x ∷ xs) → From x.end xs
  behind_first a = record { fill = a.fill.2; each = λ j l. a.each (suc j) (omega arith); apart = λ j l. a.apart (suc j) (omega arith) }

  first_is : {p : ℕ} {x : Interval} {xs : List Interval} → From p (x ∷ xs) → IsInterval ts h x
  first_is a = a.each 0 (omega arith)

  -- behind a stretch without jobs comes an interval with jobs
  jobs_next : {A : Type 0} {p : ℕ} {x : Interval} {xs : List Interval} → From p (x ∷ xs) → WithoutJobs ts h x → x.end < h →
      ((y : Interval) → WithJobs ts h y → y.begin ≡ x.end → y.begin < y.end → y.end ≤ h → A) → A
  jobs_next {xs = []} a w l go = absurd (omega (arith, a.fill.2))
  jobs_next {xs = y ∷ ys} a w l go =
      let b = behind_first a in
      by_interval (first_is b) (λ v. go y v b.fill.0 b.fill.1 (fill_inside y.end ys h b.fill.2))
      (λ v. absurd (a.apart 0 (omega arith) w v))

  -- of two lists from one instant, neither has a first that ends sooner
  not_sooner : {p : ℕ} {x y : Interval} {xs ys : List Interval} → From p (x ∷ xs) → From p (y ∷ ys) → x.end < y.end → ⊥
  not_sooner {p} {x} {y} {xs} {ys} a b l =
      let inside = fill_inside y.end ys h b.fill.2 in
      by_interval (first_is a) (λ w. none_inside ts h (first_is b) x.end w.ends (omega (arith, a.fill, b.fill)) l)
      (λ w. jobs_next a w (omega arith)
      (λ x' w' at longer within. by_interval (first_is b)
      (λ v. omega (arith, a.fill, b.fill, overlap_one x' y w' v (omega arith) (omega (arith, a.fill, b.fill))))
      (λ v. by_le x'.end y.end (λ n. v.no_deadline x'.end w'.ends (omega (arith, a.fill, b.fill)) n)
      (λ n. jobs_next b v (omega arith) (λ y' v' at' longer' within'. omega (arith, overlap_one x' y' w' v' (omega arith) (omega arith)))))))

  same_work : (x y : Interval) → IsInterval ts h x → IsInterval ts h y → x.begin < x.end → x.begin ≡ y.begin → x.end ≡ y.end → x.work ≡ y.work
  same_work x y (with_jobs a) (with_jobs b) l p q = (same_end x y a b q).1
  same_work x y (with_jobs a) (without_jobs b) l p q = absurd (b.no_deadline x.end a.ends (omega arith) (omega arith))
  same_work x y (without_jobs a) (with_jobs b) l p q = absurd (a.no_deadline y.end b.ends (omega arith) (omega arith))
  same_work x y (without_jobs a) (without_jobs b) l p q = omega (arith, a.no_work, b.no_work)

  same_interval : (x y : Interval) → x.begin ≡ y.begin → x.end ≡ y.end → x.work ≡ y.work → x ≡ y
  same_interval x y p q r =
      ap₂ (λ (b e : ℕ). record { begin = b; end = e; work = x.work }) p q
      ∙ ap (λ (w : ℕ). record { begin = y.begin; end = y.end; work = w }) r

  one_row : (p : ℕ) (xs ys : List Interval) → From p xs → From p ys → xs ≡ ys
  one_row p [] [] a b = refl
  one_row p [] (y ∷ ys) a b = absurd (omega (arith, a.fill, b.fill.0, b.fill.1, fill_inside y.end ys h b.fill.2))
  one_row p (x ∷ xs) [] a b = absurd (omega (arith, b.fill, a.fill.0, a.fill.1, fill_inside x.end xs h a.fill.2))
  one_row p (x ∷ xs) (y ∷ ys) a b =
      let begins : x.begin ≡ y.begin = omega (arith, a.fill.0, b.fill.0) in
      let ends : x.end ≡ y.end =
      by_eq x.end y.end (λ e. e) (λ n. by_le x.end y.end (λ l. absurd (not_sooner a b (omega arith))) (λ l. absurd (not_sooner b a l))) in
      ap₂ ◌∷◌ (same_interval x y begins ends (same_work x y (first_is a) (first_is b) a.fill.1 begins ends))
      (one_row x.end xs ys (behind_first a) (rw (sym ends) at (behind_first b)))

-- two lists that are a cycle's intervals are one
pub one_intervals : {ts : Set} {h : ℕ} {xs ys : List Interval} → AreIntervals ts h xs → AreIntervals ts h ys → xs ≡ ys
one_intervals {ts} {h} {xs} {ys} a b =
    one_row ts h 0 xs ys (record { fill = a.fill; each = a.each; apart = a.stretches_apart })
    (record { fill = b.fill; each = b.each; apart = b.stretches_apart })
