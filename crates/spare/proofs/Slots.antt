-- A task's slot: what it tells of the jobs due at an instant, and how it goes back. Assumes nothing.
use mathlib.Core.Path.{◌≡◌, sym, ◌∙◌}
use Prim.Native.Nat.{ℕ, suc, ◌+◌, ◌-◌, ◌*◌, ◌≤◌, ◌<◌, ◌∣◌}
use native.Mathlib.Omega.{arith}
use native.Mathlib.Nat.{suc-mul, div-mul_cancel}
use lib.Dec.{eqb}
use borrow.Author.Tests.{eq-eqb, ne_eqb}
use Rattle.rules.specs.declared.Task.{Task}
use Rattle.rules.specs.Tasks.{due, jobs, KeepsItsRule}
use Rattle.rules.specs.Timetable.{pick}
use Rattle.rules.specs.Intervals.{due_among}
use Rattle.rules.proofs.Cases.{by_eq, by_le, by_nat}
use Rattle.rules.proofs.ForcedIdle.{releases_rise}
use Rattle.rules.proofs.Deadlines.{among_found, among_none}
use Rattle.spare.specs.Walking.{due_before, LastDue}

-- the deadline of the job after a job is a period later
due_next : (t : Task) (k : ℕ) → due t (suc k) ≡ due t k + t.period
due_next t k = omega (arith, suc-mul k t.period)

module _ {t : Task} {m e d : ℕ} (L : LastDue t m e d) where
  -- a slot above 0 holds the deadline of the last job left
  pub slot_job : {A : Type 0} → 0 < d → ((k : ℕ) → L.left ≡ suc k → d ≡ due t k → A) → A
  slot_job l go =
      by_nat L.left (λ z. let none : d ≡ 0 = rw z at L.is_due in absurd (omega arith)) (λ k z. go k z (rw z at L.is_due))

  -- no job is due at e where the slot does not hold it
  not_due : (d ≡ e → ⊥) → (k : ℕ) → k < m → due t k ≡ e → ⊥
  not_due w k l u =
      by_le L.left k
      (λ p. omega (arith, L.above (omega arith), releases_rise t L.left k p))
      (λ p. by_nat L.left (λ z. omega arith)
      (λ q z. let last : d ≡ due t q = rw z at L.is_due in w (omega (arith, L.below, releases_rise t k q (omega arith)))))

  -- a task has a job due at e exactly where its slot holds e
  pub slot_tells : 0 < e → due_among t m e ≡ eqb d e
  slot_tells l =
      by_eq d e
      (λ w. slot_job (omega arith) (λ k z v. among_found t m e k (omega (arith, L.few)) (sym v ∙ w) ∙ sym (eq-eqb d e w)))
      (λ w. among_none t m e (not_due w) ∙ sym (ne_eqb d e w))

  -- the slot is right for any instant from its deadline on
  pub slot_sooner : (b : ℕ) → d ≤ b → b ≤ e → LastDue t m b d
  slot_sooner b l k = record { left = L.left; few = L.few; is_due = L.is_due; below = l; above = λ p. omega (arith, L.above p) }

  -- a job due at e taken, it goes back by a period
  back : 0 < e → KeepsItsRule t → d ≡ e → LastDue t m (e - 1) (e - t.period)
  back l o w =
      slot_job (omega arith)
      (λ k u v.
      by_nat k
      (λ z.
      let first : d ≡ due t 0 = rw z at v in
      record {
        left = 0;
        few = omega arith;
        is_due = omega (arith, o.within);
        below = omega (arith, o.takes_time, o.fits, o.within);
        above = λ p. omega arith;
      })
      (λ j z.
      let later : d ≡ due t (suc j) = rw z at v in
      record {
        left = suc j;
        few = omega (arith, L.few);
        is_due = omega (arith, due_next t j);
        below = omega (arith, due_next t j, o.takes_time, o.fits, o.within);
        above = λ p. omega arith;
      }))

  -- so the slot after the jobs due at e were taken is right for the instant before
  pub slot_next : 0 < e → KeepsItsRule t → LastDue t m (e - 1) (pick (eqb d e) (e - t.period) d)
  slot_next l o =
      by_eq d e (λ w. rw (eq-eqb d e w) (back l o w)) (λ w. rw (ne_eqb d e w) (slot_sooner (e - 1) (omega (arith, L.below)) (omega arith)))

-- at the end of the cycle every task's last job is left
pub first_slot : (t : Task) (h : ℕ) → KeepsItsRule t → t.period ∣ h → 1 ≤ h → LastDue t (jobs h t) h (h - t.period + t.offset + t.deadline)
first_slot t h o whole l =
    let ticks : jobs h t * t.period ≡ h = div-mul_cancel t.period {m = h} whole in
    by_nat (jobs h t)
    (λ z. let none : 0 * t.period ≡ h = rw z at ticks in absurd (omega arith))
    (λ k z.
    let all : suc k * t.period ≡ h = rw z at ticks in
    let last : due_before t (jobs h t) ≡ due t k = rw z in
    let before = suc-mul k t.period in
    record {
      left = jobs h t;
      few = omega arith;
      is_due = omega arith;
      below = omega (arith, o.within, o.takes_time, o.fits);
      above = λ p. absurd (omega arith);
    })
