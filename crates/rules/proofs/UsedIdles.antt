-- The idle records that replay uses on its way to a start, beside those that are derived for that start, and where the two first differ. Over any
-- setting, also one whose baseline waits by itself. Assumes nothing.
use mathlib.Core.Path.{◌≡◌, refl, sym, ◌∙◌, ap}
use mathlib.Core.Bool.{Bool, true, false}
use mathlib.Core.List.{List, [], ◌∷◌, ◌++◌, append_assoc, append-nil}
use mathlib.Core.Option.{none, some}
use Prim.Native.Nat.{ℕ, zero, suc, ◌+◌, ◌-◌, ◌≤◌, ◌<◌}
use native.Mathlib.Omega.{arith}
use native.Mathlib.Nat.{add-zero}
use lib.Dec.{ltb, eqb}
use lib.ListN.{length, length-append}
use borrow.Author.Tests.{ltb-false, eqb-true, lt-ltb, le-ltb, eq-eqb, ne_eqb}
use Rattle.rules.specs.declared.Entry.{Entry}
use Rattle.rules.specs.declared.Idle.{Idle}
use Rattle.rules.specs.declared.Inversion.{Inversion}
use Rattle.rules.specs.Refusals.{refusal, first}
use Rattle.rules.specs.Tasks.{both}
use Rattle.rules.specs.Timetable.{pick}
use Rattle.rules.specs.Setting.{Setting, wait, Tables, instant}
use Rattle.rules.specs.Irregularities.{gap, forced_idles}
use Rattle.rules.specs.Decision.{start_task, idle_at, first_idle}
use Rattle.rules.specs.Judging.{inversions_differ, records_differ}
use Rattle.rules.proofs.Cases.{by_bool, by_act, by_eq, by_le, differ, clash, both_true}
use Rattle.rules.proofs.Theory.{Laws, NeverWaits, ValidFrom, finished, entry, Rising}
use Rattle.rules.proofs.Pairs.{idle_path}
use Rattle.rules.proofs.Gaps.{not_by, no_gap, gap_whole, gap_waits, never_by, gap_later}
use Rattle.rules.proofs.RoundTrip.{decided_by, idles_later}
use Rattle.rules.proofs.Differences.{no_difference}
use Rattle.rules.proofs.FirstDifferences.{found_at, same_idle_self}

-- a record that starts where none of a list does: the lists differ there
differs_now : (place : ℕ) (r : Idle) (k l : List Idle) (p q : List Inversion) → first_idle l r.start ≡ none →
    records_differ place (r ∷ k) l p q ≡ some (refusal 19 place)
differs_now place r k [] p q h = refl
differs_now place r k (s ∷ l) p q h =
    by_eq s.start r.start
    (λ e. let g : some s.length ≡ none = sym (rw (eq-eqb s.start r.start e, idle_at)) ∙ h in clash (cc))
    (λ n. rw (ne_eqb r.start s.start (λ e. n (sym e))))

-- so do lists whose first records have other lengths
differs_in_length : (place : ℕ) (r s : Idle) (k l : List Idle) (p q : List Inversion) → (r.length ≡ s.length → ⊥) →
    records_differ place (r ∷ k) (s ∷ l) p q ≡ some (refusal 19 place)
differs_in_length place r s k l p q n =
    by_bool (eqb r.start s.start) (λ b. rw (b, ne_eqb r.length s.length n)) (λ b. rw b)

-- lists that begin the same differ behind that
same_front : (place : ℕ) (a k l : List Idle) (p q : List Inversion) →
    records_differ place (a ++ k) (a ++ l) p q ≡ records_differ (place + length a) k l p q
same_front place [] k l p q = rw (add-zero place)
same_front place (r ∷ a) k l p q =
    let next_place : suc place + length a ≡ place + suc (length a) = omega arith in
    rw (same_idle_self r) (same_front (suc place) a k l p q ∙ rw next_place)

-- records that rise from behind an instant do not start there
rising_later : (h earliest : ℕ) (k : List Idle) (u : ℕ) → Rising h earliest k → u < earliest → first_idle k u ≡ none
rising_later h earliest [] u z l = refl
rising_later h earliest (r ∷ k) u z l = rw (ne_eqb r.start u (omega (arith, z.0)), idle_at)

module _ (G : Setting) where
  -- an idle record used on the way to a start at s is the derived one: it ends there, and where it starts the baseline does not wait to an instant at or
  -- before s
  abbrev pub is_derived : G.Started → ℕ → Idle → Bool
  is_derived x s r = both (eqb (r.start + r.length) s) (not_by (G.baseline x r.start) s)

  -- those used on the way are what is derived: none, or a first one that is
  abbrev pub as_derived : G.Started → ℕ → List Idle → Bool
  as_derived x s [] = true
  as_derived x s (r ∷ used) = is_derived x s r

  -- replay comes from a free instant to the next start, task i at s: the idle records used on the way, and those left
  pub record ToStart (x : G.Started) (f : ℕ) (idles : List Idle) (p : List Inversion) (i s : ℕ) (used left : List Idle) : Type 0 where
    pub all : idles ≡ used ++ left
    pub rising : Rising G.cycle_end 0 left
    pub decided : decided_by G x s left p ≡ start_task i
    pub later : instant G x f ≤ s
    -- a start at once uses none
    pub none_used : s ≤ instant G x f → used ≡ []
    -- they are the derived records, where they are as derived
    pub derived : (turns : ℕ) → s ≤ turns + instant G x f → as_derived x s used ≡ true → gap G turns x (instant G x f) s ≡ used
    -- where they are not, the first difference is at the first of them
    pub differs : (turns : ℕ) → s ≤ turns + instant G x f → as_derived x s used ≡ false → (k : List Idle) →
        ((u : ℕ) → u ≤ s → first_idle k u ≡ none) → (place : ℕ) (q : List Inversion) →
        records_differ place idles (gap G turns x (instant G x f) s ++ k) p q ≡ some (refusal 19 place)
    -- with a baseline that never waits they always are, and a start comes at once where no record does
    pub at_once : NeverWaits G → first_idle idles (instant G x f) ≡ none → s ≡ instant G x f
    pub always : NeverWaits G → as_derived x s used ≡ true

module _ (G : Setting) (L : Laws G) (x : G.Started) (p : List Inversion) where
  -- the decision is to start a task
  pub start_now : (f : ℕ) (idles : List Idle) (i : ℕ) → Rising G.cycle_end 0 idles →
      decided_by G x (instant G x f) idles p ≡ start_task i → ToStart G x f idles p i (instant G x f) [] idles
  start_now f idles i z d = record {
    all = refl;
    rising = z;
    decided = d;
    later = omega arith;
    none_used = λ h. refl;
    derived = λ turns h b. no_gap G turns x (instant G x f) (instant G x f) (omega arith);
    differs = λ turns h b. differ b;
    at_once = λ never h. refl;
    always = λ never. refl;
  }

  -- the first idle record is used
  pub start_after_idle : (f : ℕ) (r : Idle) (rest : List Idle) (i s : ℕ) (used left : List Idle) → Rising G.cycle_end 0 (r ∷ rest) →
      r.start ≡ instant G x f → ToStart G x (instant G x f + r.length) rest p i s used left → ToStart G x f (r ∷ rest) p i s (r ∷ used) left
  start_after_idle f r rest i s used left z e T =
      let t : ℕ = instant G x f in
      let g : ℕ = t + r.length in
      let some_ticks : 1 ≤ r.length = z.1 in
      let next : instant G x g ≡ g = omega arith in
      let lt : t < s = omega (arith, T.later) in
      let base : G.baseline x r.start ≡ G.baseline x t = rw e in
      record {
        all = ap (λ (k : List Idle). r ∷ k) T.all;
        rising = T.rising;
        decided = T.decided;
        later = omega arith;
        none_used = λ h. absurd (omega arith);
        derived = λ turns h b.
            let c = both_true (eqb (r.start + r.length) s) _ b in
            let ends : r.start + r.length ≡ s = eqb-true _ _ c.0 in
            let none_more : used ≡ [] = T.none_used (omega arith) in
            gap_whole G turns x t s lt (omega arith) (rw (← e) c.1)
            ∙ rw none_more (ap (λ (k : Idle). k ∷ []) (idle_path (record { start = t; length = s - t }) r (sym e) (omega arith)));
        differs = λ turns h b k far place q.
            by_bool (not_by (G.baseline x t) s)
            (λ c. rw (gap_whole G turns x t s lt (omega arith) c)
            (differs_in_length place r (record { start = t; length = s - t }) rest k p q
            (λ same.
            let ends : r.start + r.length ≡ s = omega arith in
            differ (sym (rw (eq-eqb _ _ ends, base, c)) ∙ b))))
            (λ c. by_act (G.baseline x t) (λ j a. let y : true ≡ false = rw a at c in differ y)
            (λ w a.
            let y : ltb s w ≡ false = rw a at c in
            let v : t < w = L.waits_later x t w a in
            elim turns as (λ turns. s ≤ turns + t → records_differ place (r ∷ rest) (gap G turns x t s ++ k) p q ≡ some (refusal 19 place)) [
              | zero ↦ λ h. absurd (omega arith)
              | suc turns ↦ λ h. rw (gap_waits G turns x t s w lt a (ltb-false s w y))
                  (differs_now place r rest (gap G turns x w s ++ k) p q (rw e (gap_later G L turns x t w s k v (far t (omega arith)))))
            ] h));
        at_once = λ never h. let y : some r.length ≡ none = sym (rw (eq-eqb r.start t e, idle_at)) ∙ h in clash (cc);
        always = λ never.
            let none-now : first_idle rest (instant G x g) ≡ none =
            rising_later G.cycle_end (suc (r.start + r.length)) rest (instant G x g) z.3 (omega arith) in
            let ends : s ≡ instant G x g = T.at_once never none-now in
            rw (eq-eqb (r.start + r.length) s (omega arith)) (never_by G never x r.start s);
      }

  -- the baseline waits
  pub start_after_wait : (f : ℕ) (idles : List Idle) (w i s : ℕ) (used left : List Idle) → G.baseline x (instant G x f) ≡ wait w →
      ToStart G x w idles p i s used left → ToStart G x f idles p i s used left
  start_after_wait f idles w i s used left a T =
      let t : ℕ = instant G x f in
      let v : t < w = L.waits_later x t w a in
      let next : instant G x w ≡ w = omega arith in
      let le_s : w ≤ s = omega (arith, T.later) in
      let lt : t < s = omega arith in
      record {
        all = T.all;
        rising = T.rising;
        decided = T.decided;
        later = omega arith;
        none_used = λ h. absurd (omega arith);
        derived = λ turns h b. elim turns as (λ turns. s ≤ turns + t → gap G turns x t s ≡ used) [
          | zero ↦ λ h. absurd (omega arith)
          | suc turns ↦ λ h. gap_waits G turns x t s w lt a le_s ∙ (rw next at (T.derived turns (omega arith) b))
        ] h;
        differs = λ turns h b k far place q.
            elim turns as (λ turns. s ≤ turns + t → records_differ place idles (gap G turns x t s ++ k) p q ≡ some (refusal 19 place)) [
              | zero ↦ λ h. absurd (omega arith)
              | suc turns ↦ λ h. rw (gap_waits G turns x t s w lt a le_s) (rw next at (T.differs turns (omega arith) b k far place q))
            ] h;
        at_once = λ never h. absurd (never x t w a);
        always = λ never. absurd (never x t w a);
      }

-- after starts: so many idle records from the first are the derived ones. Where all used ones are, the first difference is behind them; else it is there
pub record DerivedSoFar (G : Setting) (x₀ : G.Started) (X : Tables) (σ : List Entry) (x : G.Started) (f : ℕ) (used left : List Idle) (kept : ℕ) : Type 0 where
  pub few : kept ≤ length used
  pub so_far : (τ : List Entry) → ValidFrom G x f τ → (place : ℕ) (q : List Inversion) →
      records_differ place X.idles (forced_idles G x₀ 0 (σ ++ τ)) X.inversions q
      ≡ pick (eqb kept (length used)) (records_differ (place + kept) left (forced_idles G x f τ) X.inversions q) (some (refusal 19 (place + kept)))

-- how many are kept behind a start: all records used, as long as all were derived and those used on the way to this start are
abbrev pub kept_after : ℕ → ℕ → Bool → ℕ → ℕ
kept_after kept used derived more = pick (both (eqb kept used) derived) (used + more) kept

module _ (G : Setting) (L : Laws G) where
  -- where records used are not as derived, there is one
  some_used : (x : G.Started) (s : ℕ) (used : List Idle) → as_derived G x s used ≡ false → 0 < length used
  some_used x s [] c = differ c
  some_used x s (r ∷ used) c = omega arith

  -- a start
  pub kept_starts : {x₀ : G.Started} {X : Tables} {σ : List Entry} {x : G.Started} {f : ℕ} {used left : List Idle} {kept : ℕ} {e : Entry} {more rest : List Idle} →
      DerivedSoFar G x₀ X σ x f used left kept → G.breaks x f e.task e.start ≡ 0 → ToStart G x f left X.inversions e.task e.start more rest →
      DerivedSoFar G x₀ X (σ ++ (e ∷ [])) (G.start_job x e.task) (G.free_after e.task e.start) (used ++ more) rest
      (kept_after kept (length used) (as_derived G x e.start more) (length more))
  kept_starts {x₀} {X} {σ} {x} {f} {used} {left} {kept} {e} {more} {rest} K b T =
      let s : ℕ = e.start in
      let p : List Inversion = X.inversions in
      let y : G.Started = G.start_job x e.task in
      let u : ℕ = G.free_after e.task s in
      let now : List Idle = gap G s x (instant G x f) s in
      let many : length (used ++ more) ≡ length used + length more = length-append used more in
      let before : (τ : List Entry) → ValidFrom G y u τ → (place : ℕ) (q : List Inversion) →
      records_differ place X.idles (forced_idles G x₀ 0 ((σ ++ (e ∷ [])) ++ τ)) p q
      ≡ pick (eqb kept (length used)) (records_differ (place + kept) left (now ++ forced_idles G y u τ) p q) (some (refusal 19 (place + kept))) =
      λ τ v place q. ap (λ (k : List Entry). records_differ place X.idles (forced_idles G x₀ 0 k) p q) (append_assoc σ (e ∷ []) τ)
      ∙ K.so_far (e ∷ τ) (entry b v) place q in
      by_eq kept (length used)
      (λ same. by_bool (as_derived G x s more)
      (λ c. rw (eq-eqb kept (length used) same, c)
      (record {
        few = omega (arith, many);
        so_far = λ τ v place q.
            let k : List Idle = forced_idles G y u τ in
            let behind : place + kept + length more ≡ place + (length used + length more) = omega arith in
            before τ v place q
            ∙ rw (eq-eqb kept (length used) same, eq-eqb (length used + length more) (length (used ++ more)) (sym many))
            (ap (λ (l : List Idle). records_differ (place + kept) l (now ++ k) p q) T.all
            ∙ ap (λ (l : List Idle). records_differ (place + kept) (more ++ rest) (l ++ k) p q) (T.derived s (omega arith) c)
            ∙ same_front (place + kept) more rest k p q
            ∙ ap (λ (n : ℕ). records_differ n rest k p q) behind);
      }))
      (λ c. rw (eq-eqb kept (length used) same, c)
      (record {
        few = omega (arith, many, K.few);
        so_far = λ τ v place q.
            before τ v place q
            ∙ rw (eq-eqb kept (length used) same, ne_eqb kept (length (used ++ more)) (λ n. omega (arith, many, some_used x s more c)))
            (T.differs s (omega arith) c (forced_idles G y u τ)
            (λ t l. idles_later G L v t (omega (arith, L.free_later e.task s))) (place + kept) q);
      })))
      (λ other. rw (ne_eqb kept (length used) other)
      (record {
        few = omega (arith, many, K.few);
        so_far = λ τ v place q. before τ v place q
            ∙ rw (ne_eqb kept (length used) other, ne_eqb kept (length (used ++ more)) (λ n. other (omega (arith, many, K.few))));
      }))

  -- all jobs have started: the first difference is at the first record that is not kept; where all are, it is that of the inversions
  pub kept_done : {x₀ : G.Started} {X : Tables} {σ : List Entry} {x : G.Started} {f : ℕ} {used left : List Idle} {kept : ℕ} →
      DerivedSoFar G x₀ X σ x f used left kept → X.idles ≡ used ++ left → G.all_started x ≡ true → (place : ℕ) (q : List Inversion) →
      records_differ place X.idles (forced_idles G x₀ 0 σ) X.inversions q
      ≡ first (found_at place kept (length X.idles)) (inversions_differ (place + length X.idles) X.inversions q)
  kept_done {x₀} {X} {σ} {x} {f} {used} {left} {kept} K all done place q =
      let many : length X.idles ≡ length used + length left = ap length all ∙ length-append used left in
      ap (λ (k : List Entry). records_differ place X.idles (forced_idles G x₀ 0 k) X.inversions q) (sym (append-nil σ))
      ∙ K.so_far [] (finished done) place q
      ∙ by_eq kept (length used) (λ same. rw (eq-eqb kept (length used) same) (ends left (omega arith)))
      (λ other. rw (
        ne_eqb kept (length used) other,
        lt-ltb kept (length X.idles) (by_le (length used) kept (λ l. absurd (other (omega (arith, K.few)))) (λ l. omega arith)),
        found_at,
      ))
    where
      ends : (left : List Idle) → length X.idles ≡ kept + length left →
          records_differ (place + kept) left [] X.inversions q
          ≡ first (found_at place kept (length X.idles)) (inversions_differ (place + length X.idles) X.inversions q)
      ends [] many =
          let same : kept ≡ length X.idles = omega arith in
          rw (le-ltb kept (length X.idles) (omega arith), found_at) (ap (λ (n : ℕ). inversions_differ (place + n) X.inversions q) same)
      ends (r ∷ left) many = rw (lt-ltb kept (length X.idles) (omega arith), found_at)

  -- where the idle records given are those of the starts and of what is to come, those left are those of what is to come
  pub kept_own : {x₀ : G.Started} {X : Tables} {σ : List Entry} {x : G.Started} {f : ℕ} {used left : List Idle} {kept : ℕ} →
      DerivedSoFar G x₀ X σ x f used left kept → (τ : List Entry) → ValidFrom G x f τ → forced_idles G x₀ 0 (σ ++ τ) ≡ X.idles → left ≡ forced_idles G x f τ
  kept_own {x₀} {X} {σ} {x} {f} {used} {left} {kept} K τ v own =
      let p : List Inversion = X.inversions in
      let to_come : List Idle = forced_idles G x f τ in
      let so_far = sym (ap (λ (k : List Idle). records_differ 0 X.idles k p p) own ∙ (no_difference 0 X X).1 refl) ∙ K.so_far τ v 0 p in
      by_eq kept (length used)
      (λ same.
      let behind : none ≡ records_differ (0 + kept) left to_come p p = rw (eq-eqb kept (length used) same) at so_far in
      ap (λ (Y : Tables). Y.idles)
      ((no_difference (0 + kept) (record { idles = left; inversions = p }) (record { idles = to_come; inversions = p })).0 (sym behind)))
      (λ other. let there : none ≡ some (refusal 19 (0 + kept)) = rw (ne_eqb kept (length used) other) at so_far in clash (cc))
