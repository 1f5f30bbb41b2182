-- A decision by offsets is the decision of the tables that the offsets show, and a start keeps the offsets so. Assumes nothing.
use mathlib.Core.Path.{◌≡◌, refl, ◌∙◌, ap}
use mathlib.Core.Bool.{Bool, true, false}
use mathlib.Core.List.{List, ◌∷◌}
use mathlib.Core.Option.{Option, none, some}
use Prim.Native.Nat.{ℕ, zero, suc, ◌+◌, ◌<◌}
use native.Mathlib.Omega.{arith}
use Rattle.rules.specs.declared.Entry.{Entry}
use Rattle.rules.specs.declared.Idle.{Idle}
use Rattle.rules.specs.declared.Inversion.{Inversion}
use Rattle.rules.specs.Setting.{Setting, lowest_from, lowest, instant}
use Rattle.rules.specs.Priority.{slot}
use Rattle.rules.specs.Decision.{first_idle, later_idles, falls_at, start_or_baseline, recorded, decide, comes_to, step, delays}
use Rattle.rules.specs.Offsets.{Source, past_own, idle_now, past_idle, standing, all_readable, shown_delays, shown_step, moved}
use Rattle.rules.proofs.Cases.{by_bool, by_eq, both_in}
use Rattle.rules.proofs.Theory.{Laws, ValidFrom, entry, Pairs}
use Rattle.rules.proofs.RoundTrip.{decided_by}
use Rattle.rules.proofs.Shown.{ShowsIdles, no_idle, an_idle, ShowsInversions, from, idles_readable, shown_readable, own_as_table, past_as_table, slot_put_same, slot_put_other}

-- tests that agree on the numbers in question have the same lowest that passes
pub lowest_from_same : (m i : ℕ) (a b : ℕ → Bool) → ((j : ℕ) → j < i + m → a j ≡ b j) → lowest_from m i a ≡ lowest_from m i b
lowest_from_same zero i a b h = refl
lowest_from_same (suc m) i a b h =
    by_bool (b i) (λ e. let e' : a i ≡ true = h i (omega arith) ∙ e in rw (e, e', lowest_from))
    (λ e. let e' : a i ≡ false = h i (omega arith) ∙ e in rw (e, e', lowest_from) (lowest_from_same m (suc i) a b (λ j l. h j (omega arith))))

-- decisions agree where the baseline and the recorded jobs do
pub decide_same : (G : Setting) (x y : G.Started) (t : ℕ) (idle : Option ℕ) (d e : ℕ → Option ℕ) → G.baseline x t ≡ G.baseline y t →
    ((i : ℕ) → i < G.tasks → recorded G d x t i ≡ recorded G e y t i) → decide G x t idle d ≡ decide G y t idle e
decide_same G x y t (some l) d e b h = refl
decide_same G x y t none d e b h =
    rw (lowest_from_same G.tasks 0 (recorded G d x t) (recorded G e y t) (λ j l. h j (omega arith))) (then_same (lowest G.tasks (recorded G e y t)))
  where
    -- whichever task has a record for now
    then_same : (o : Option ℕ) → start_or_baseline G x t o ≡ start_or_baseline G y t o
    then_same none = rw b
    then_same (some i) = refl

-- the idle record that an offset shows is the first unused one
idle_as_table : {S : Source} {o : ℕ} {idles : List Idle} → ShowsIdles S o idles → (t : ℕ) → idle_now (S.idle_shown o) t ≡ first_idle idles t
idle_as_table (no_idle e) t = rw e
idle_as_table (an_idle e s) t = rw e

-- and behind it stand the later ones
pub past_idle_shown : {S : Source} {o : ℕ} {idles : List Idle} → ShowsIdles S o idles → ShowsIdles S (past_idle (S.idle_shown o) o) (later_idles idles)
past_idle_shown (no_idle e) = rw e (no_idle e)
past_idle_shown (an_idle e s) = rw e s

-- the first entry of a valid timetable breaks no rule
pub valid_first : {G : Setting} {x : G.Started} {f : ℕ} {e : Entry} {τ : List Entry} → ValidFrom G x f (e ∷ τ) →
    G.breaks x f e.task e.start ≡ 0
valid_first (entry v w) = v

module _ (G : Setting) (S : Source) (p : List Inversion) where
  -- each task's offset shows the table's records from its next job on
  abbrev pub Placed : G.Started → List ℕ → Type 0
  Placed x offsets = (i : ℕ) → i < G.tasks → ShowsInversions S (slot offsets i) (from i (G.next_job x i) p)

  module _ (z : Pairs 0 0 p) (x : G.Started) (offsets : List ℕ) (placed : Placed x offsets) where
    -- what is decided at offsets is what is decided by the tables
    pub decided_as_table : (t o : ℕ) (idles : List Idle) → ShowsIdles S o idles →
        decide G x t (idle_now (S.idle_shown o) t) (shown_delays G S x offsets) ≡ decided_by G x t idles p
    decided_as_table t o idles s =
        rw (idle_as_table s t)
        (decide_same G x x t (first_idle idles t) (shown_delays G S x offsets) (delays G p x) refl
        (λ i l. ap (λ (d : Option ℕ). falls_at d (G.release i (G.next_job x i)) t)
        (own_as_table S i (G.next_job x i) 0 0 p z (slot offsets i) (placed i l))))

    -- and so is what one turn comes to
    pub step_as_table : (f o : ℕ) (idles : List Idle) → ShowsIdles S o idles →
        shown_step G S (standing x f offsets o) ≡ step G x f (first_idle idles) (delays G p x)
    step_as_table f o idles s = ap (comes_to G x (instant G x f)) (decided_as_table (instant G x f) o idles s)

    -- all offsets can be read
    pub readable_at : (o : ℕ) (idles : List Idle) → ShowsIdles S o idles → all_readable G S offsets o ≡ true
    readable_at o idles s =
        both_in _ _ (idles_readable s) (shown_readable S G.tasks offsets (λ i. from i (G.next_job x i) p) placed)

  module _ (L : Laws G) (z : Pairs 0 0 p) where
    -- after a start each task's offset shows its records from its next job on again
    pub placed_moved : (x : G.Started) (offsets : List ℕ) (f i s : ℕ) → G.breaks x f i s ≡ 0 → Placed x offsets →
        Placed (G.start_job x i) (moved G S x offsets i)
    placed_moved x offsets f i s e placed j l =
        let v : ℕ = past_own (S.inversion_shown (slot offsets i)) i (G.next_job x i) (slot offsets i) in
        by_eq j i
        (λ u. rw (u, slot_put_same offsets i v, L.next_moves x f i s e)
        (past_as_table S i (G.next_job x i) 0 0 p z (slot offsets i) (placed i (L.a_task x f i s e))))
        (λ u. rw (slot_put_other offsets i j v u, L.others_stay x i j u) (placed j l))
