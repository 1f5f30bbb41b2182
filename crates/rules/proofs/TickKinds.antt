-- Every tick of a valid timetable's cycle is of the kind that document 02 calls it. Assumes nothing.
use mathlib.Core.Path.{◌≡◌, refl, ap}
use mathlib.Core.List.{List, []}
use Prim.Native.Nat.{ℕ, suc, ◌≤◌, ◌<◌}
use native.Mathlib.Omega.{arith}
use lib.Dec.{ltb, leb}
use lib.ListN.{length}
use borrow.Author.Tests.{ltb-true, ltb-false, leb-true, leb-false}
use Rattle.rules.specs.declared.Entry.{Entry}
use Rattle.rules.specs.Tasks.{Set, task, KeepsItsRule}
use Rattle.rules.specs.Timetable.{entry_at}
use Rattle.rules.specs.Setting.{Setting}
use Rattle.rules.specs.Priority.{slot, least_release, setting_of}
use Rattle.rules.specs.Ticks.{Running, Waiting, IsKind, idle_at, kind}
use Rattle.rules.proofs.Cases.{by_bool, by_eq, by_le}
use Rattle.rules.proofs.Theory.{ValidFrom, finished}
use Rattle.rules.proofs.Theory as theory
use Rattle.rules.proofs.PriorityLaws.{least_below, setting_laws}
use Rattle.rules.proofs.Decided.{all_started_least}
use Rattle.rules.proofs.Positions.{Before, at_first, past_end, an_entry, is_entry, at_next}
use Rattle.rules.proofs.Appearances.{earlier_job, started_job}
use Rattle.rules.proofs.ForcedIdle.{releases_rise, least_found}
use Rattle.rules.proofs.TickCounts.{Runs, ended, entry}

module _ (ts : Set) (h : ℕ) (rules : (i : ℕ) → KeepsItsRule (task ts i)) where
  abbrev G : Setting
  G = setting_of ts h

  -- a valid timetable runs from its first entry to the end of the cycle
  pub valid_runs : {x : List ℕ} {f : ℕ} {τ : List Entry} → ValidFrom G x f τ → f ≤ h → Runs G x f τ
  valid_runs (finished {x = x} a) l = ended {x = x} l (omega (arith, all_started_least h ts.tasks x a))
  valid_runs (theory.entry {x = x} {f = f} {e = e} ok v) l =
      let laws = setting_laws ts h rules in
      entry {x = x} {e = e} (laws.no_overlap x f e.task e.start ok) (laws.some_released x f e.task e.start ok) (omega arith)
      (valid_runs v (laws.by_latest x f e.task e.start ok))

  module _ (τ : List Entry) where
    -- the first instant free after entry k
    abbrev freed : ℕ → ℕ
    freed k = G.free_after (entry_at τ k).task (entry_at τ k).start

    -- from entry j on no entry starts before f
    later_starts : {j : ℕ} {x : List ℕ} {f : ℕ} {σ : List Entry} → Before ts h τ j x f σ → Runs G x f σ → (k : ℕ) → j ≤ k → k < length τ →
        f ≤ (entry_at τ k).start
    later_starts b (ended l m) k p q = absurd (omega (arith, past_end ts h τ b))
    later_starts {j} b (entry l m n r) k p q =
        let s = ap (λ (d : Entry). d.start) (is_entry ts h τ b) in
        by_eq k j (λ u. rw u (omega arith)) (λ u. omega (arith, later_starts {j = suc j} (at_next ts h τ b) r k (omega arith) q))

    -- an idle tick: entries before j are over, later ones have not begun
    module _ {j : ℕ} {x : List ℕ} {f : ℕ} {σ : List Entry} (tick : ℕ) (b : Before ts h τ j x f σ) (inside : tick < h)
        (over : (k : ℕ) → k < j → k < length τ → freed k ≤ tick) (yet : (k : ℕ) → j ≤ k → k < length τ → tick < (entry_at τ k).start) where
      none_runs : Running ts h τ tick → ⊥
      none_runs r =
          by_le j r.j (λ l. omega (arith, yet r.j l r.an_entry, r.begun)) (λ l. omega (arith, over r.j l r.an_entry, r.not_over))

      a_job_waits : least_release h ts.tasks x ≤ tick → Waiting ts h τ tick
      a_job_waits l =
          let n = least_found h ts.tasks x (least_release h ts.tasks x) refl (omega arith) in
          record {
            i = n.i;
            k = slot x n.i;
            a_task = n.a_task;
            a_job = n.a_job;
            released = omega (arith, n.is_release);
            not_started = λ k m t w. by_le j k (λ p. yet k p m) (λ p. absurd (omega (arith, earlier_job τ j k n.i p m t, b.started n.i)));
          }

      no_job_waits : tick < least_release h ts.tasks x → Waiting ts h τ tick → ⊥
      no_job_waits l w =
          by_le (slot x w.i) w.k
          (λ p. omega (
            arith,
            least_below h ts.tasks x w.i w.a_task (omega (arith, w.a_job)),
            releases_rise (task ts w.i) (slot x w.i) w.k p,
            w.released,
          ))
          (λ p. started_job τ j w.i w.k (omega (arith, b.started w.i)) (λ m q n t u. omega (arith, over m q n, w.not_started m n t u)))

      idle_kind : IsKind ts h τ tick (idle_at G x tick)
      idle_kind =
          by_bool (leb (least_release h ts.tasks x) tick)
          (λ t. rw t (none_runs, a_job_waits (leb-true (least_release h ts.tasks x) tick t)))
          (λ t. rw t (none_runs, no_job_waits (leb-false (least_release h ts.tasks x) tick t)))

    -- every tick from an entry on, where the entries before it are over
    kind_from : {j : ℕ} {x : List ℕ} {f : ℕ} {σ : List Entry} (tick : ℕ) → Before ts h τ j x f σ → Runs G x f σ → f ≤ tick → tick < h →
        ((k : ℕ) → k < j → k < length τ → freed k ≤ f) → IsKind ts h τ tick (kind G x σ tick)
    kind_from tick b (ended l m) p q over =
        idle_kind tick b q (λ k u v. omega (arith, over k u v)) (λ k u v. absurd (omega (arith, past_end ts h τ b)))
    kind_from {j} tick b (entry {e = e} l m n r) p q over =
        let F : ℕ = G.free_after e.task e.start in
        let s = ap (λ (d : Entry). d.start) (is_entry ts h τ b) in
        let s' : freed j ≡ F = rw (is_entry ts h τ b) in
        by_bool (ltb tick e.start)
        (λ t. rw t
        (idle_kind tick b q (λ k u v. omega (arith, over k u v))
        (λ k u v. by_eq k j (λ w. rw w (omega (arith, ltb-true tick e.start t)))
        (λ w. omega (arith, ltb-true tick e.start t, later_starts (at_next ts h τ b) r k (omega arith) v)))))
        (λ t. by_bool (ltb tick F)
        (λ w. rw (t, w)
        (record { j = j; an_entry = an_entry ts h τ b; begun = omega (arith, ltb-false tick e.start t); not_over = omega (arith, ltb-true tick F w) }))
        (λ w. rw (t, w)
        (kind_from {j = suc j} tick (at_next ts h τ b) r (ltb-false tick F w) q
        (λ k u v. by_eq k j (λ z. rw z (omega arith)) (λ z. omega (arith, over k (omega arith) v))))))

    -- every tick of a valid timetable's cycle
    pub kind_is : ValidFrom G [] 0 τ → (tick : ℕ) → tick < h → IsKind ts h τ tick (kind G [] τ tick)
    kind_is v tick l = kind_from tick (at_first ts h τ) (valid_runs v (omega arith)) (omega arith) l (λ k u w. absurd (omega arith))
