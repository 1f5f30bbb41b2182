-- Whether offsets can be read, on which sets with the same rows kept agree; and the tasks' offsets in turn. Assumes nothing.
use Rattle.std.specs.Prelude.{Ok, Err}
use mathlib.Core.Path.{◌≡◌, refl, sym, ◌∙◌, ap}
use mathlib.Core.Bool.{Bool, true, false}
use mathlib.Core.List.{List}
use Prim.Native.Nat.{ℕ, zero, suc, ◌+◌, ◌<◌}
use native.Mathlib.Omega.{arith}
use lib.ListN.{get_or}
use Rattle.fields.specs.Body.{head₀, tail₀}
use Rattle.rules.specs.declared.Idle.{Idle}
use Rattle.rules.specs.declared.Inversion.{Inversion}
use Rattle.rules.specs.Tasks.{Set, hyperperiod}
use Rattle.rules.specs.Priority.{slot}
use Rattle.rules.specs.Judging.{idle_in_range, inversion_in_range}
use Rattle.rules.specs.Marks.{Mark, TS, TK, SL, ID, PV, EN, size}
use Rattle.rules.specs.Image.{to_idle, to_inversion}
use Rattle.rules.specs.Offsets.{no_record, shows, Source, record_at, shown_if, idle_by, inversion_by, lent, readable, tasks_readable}
use Rattle.rules.proofs.Cases.{by_option, by_le, both_true}
use Rattle.rules.proofs.StuckStarts.{one_unreadable}
use Rattle.decision.specs.declared.Unreadable.{Unreadable}
use Rattle.sets.specs.declared.Kept.{Kept}
use Rattle.sets.specs.Kept.{tasks_in, jobs_in, Keeps}
use Rattle.records.proofs.OwnRules.{task_out, job_out, delay_tested}
use Rattle.decision.specs.Shown.{read_case}
use Rattle.sets.proofs.SetKept.{kept_cycle}

-- offsets that can be read one by one can be read all together
pub tasks_read_all : (S : Source) (m : ℕ) (offsets : List ℕ) → ((i : ℕ) → i < m → readable (S.inversion_shown (slot offsets i)) ≡ true) →
    tasks_readable S m offsets ≡ true
tasks_read_all S zero offsets each = refl
tasks_read_all S (suc m) offsets each = rw (each 0 (omega arith)) (tasks_read_all S m (tail₀ offsets) (λ i l. each (suc i) (omega arith)))

-- and those that can be read all together, one by one
pub tasks_read_each : (S : Source) (m : ℕ) (offsets : List ℕ) → tasks_readable S m offsets ≡ true → (i : ℕ) → i < m →
    readable (S.inversion_shown (slot offsets i)) ≡ true
tasks_read_each S zero offsets e i l = absurd (omega arith)
tasks_read_each S (suc m) offsets e zero l = (both_true (readable (S.inversion_shown (head₀ offsets))) _ e).0
tasks_read_each S (suc m) offsets e (suc i) l =
    tasks_read_each S m (tail₀ offsets) (both_true (readable (S.inversion_shown (head₀ offsets))) _ e).1 i (omega arith)

-- two sets of which the same rows are kept
module _ {ts us : Set} {kept : Kept} (fits : Keeps ts kept) (other : Keeps us kept) where
  -- a PV is in its own range for both or for neither
  same_range : (r : Inversion) → inversion_in_range ts (hyperperiod ts) r ≡ inversion_in_range us (hyperperiod us) r
  same_range r =
      rw (← kept_cycle fits, ← kept_cycle other)
      (by_le (tasks_in kept) r.task (λ past. sym (task_out fits r past) ∙ task_out other r past)
      (λ a_task. by_le (get_or (jobs_in kept) r.task 0) r.job (λ past. sym (job_out fits r a_task past) ∙ job_out other r a_task past)
      (λ before. sym (delay_tested fits r a_task before) ∙ delay_tested other r a_task before)))

  -- so a task's offset shows the same
  same_shown : (bytes : List ℕ) (o : ℕ) → (lent bytes ts).inversion_shown o ≡ (lent bytes us).inversion_shown o
  same_shown bytes o = by_option (record_at bytes o) (λ e. rw e) (λ r e. rw e (by_mark r.mark r.values))
    where
      -- by the mark of a record that is read
      by_mark : (m : Mark) (v : List ℕ) → inversion_by ts o m v ≡ inversion_by us o m v
      by_mark TS v = refl
      by_mark TK v = refl
      by_mark SL v = refl
      by_mark ID v = refl
      by_mark PV v = ap (λ (b : Bool). shown_if b (shows (to_inversion v) (o + size PV))) (same_range (to_inversion v))
      by_mark EN v = refl

  -- and the offsets of all tasks can be read for the one where they can for the other
  pub same_readable : (bytes offsets : List ℕ) → tasks_readable (lent bytes ts) (tasks_in kept) offsets ≡ true →
      tasks_readable (lent bytes us) (tasks_in kept) offsets ≡ true
  same_readable bytes offsets e =
      tasks_read_all (lent bytes us) (tasks_in kept) offsets
      (λ i l. ap readable (sym (same_shown bytes (slot offsets i))) ∙ tasks_read_each (lent bytes ts) (tasks_in kept) offsets e i l)

-- the ID offset can be read for the one where it can for the other
pub same_idle_readable : {ts us : Set} {kept : Kept} → Keeps ts kept → Keeps us kept →
    (bytes : List ℕ) (o : ℕ) → readable ((lent bytes ts).idle_shown o) ≡ true → readable ((lent bytes us).idle_shown o) ≡ true
same_idle_readable {ts} {us} fits other bytes o can =
    by_option (record_at bytes o) (λ e. rw e (rw e at can)) (λ r e. rw e (sym (by_mark r.mark r.values) ∙ (rw e at can)))
  where
    -- by the mark of a record that is read
    by_mark : (m : Mark) (v : List ℕ) → readable (idle_by ts o m v) ≡ readable (idle_by us o m v)
    by_mark TS v = refl
    by_mark TK v = refl
    by_mark SL v = refl
    by_mark ID v =
        ap (λ (k : ℕ). readable (shown_if (idle_in_range k (to_idle v)) (shows (to_idle v) (o + size ID))))
        (sym (kept_cycle fits) ∙ kept_cycle other)
    by_mark PV v = ap (λ (b : Bool). readable {A = Idle} (shown_if b no_record)) (same_range fits other (to_inversion v))
    by_mark EN v = refl

-- with those of n tasks read one by one, all are
pub all_read : (S : Source) (n : ℕ) (offsets : List ℕ) → ((i : ℕ) → i < n → readable (S.inversion_shown (slot offsets i)) ≡ true) →
    Ok tt ≡ read_case (tasks_readable S n offsets)
all_read S n offsets each = rw (tasks_read_all S n offsets each)

-- with one that cannot be read, not all can be
pub not_read : (S : Source) (n : ℕ) (offsets : List ℕ) (i : ℕ) → i < n → readable (S.inversion_shown (slot offsets i)) ≡ false → (e : Unreadable) →
    Err e ≡ read_case (tasks_readable S n offsets)
not_read S n offsets i l unread e = rw (one_unreadable S n offsets i l unread)
