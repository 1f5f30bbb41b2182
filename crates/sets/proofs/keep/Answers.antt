-- `sets::keep` meets its contract. The invariant: from task i on the jobs are summed up and the rows are filled. Assumes nothing.
use mathlib.Core.Path.{◌≡◌, sym, ◌∙◌, ap}
use Prim.Native.Nat.{ℕ, ◌+◌, ◌-◌, ◌/◌}
use native.Mathlib.Omega.{arith}
use borrow.Author.Rules.{rules}
use Rattle.rules.specs.Tasks.{jobs}
use Rattle.numbers.specs.Numbers.{set_from}
use Rattle.numbers.proofs.SetNumbers.{task_in}
use Rattle.sets.proofs.Slots.{no_slot, slot}
use Rattle.sets.proofs.Cycles.{JobsFrom, jobs_start, jobs_more}
use Rattle.sets.proofs.Answers.{cycle_rules}
use Rattle.sets.proofs.RowsKept.{rows_start, rows_more, rows_kept}
use Rattle.sets.proofs.keep.Goals as goal
use Rattle.sets.proofs.keep.Goals.{After-task_from-t, Joined-t-after, else-t-after, then-t-after}

pub loop-k-init : goal.loop-k-init
loop-k-init c =
    let a = c.args in
    let in_slots = c.requires.cycle.in_slots in
    (jobs_start a.h (set_from a.n a.numbers.now a.at).tasks a.n (omega arith) (omega arith), rows_start in_slots _ (record { jobs = search rules; slack = search rules; times = search rules; periods = search rules; first = search rules }))

-- the task that is read
read : (c : After-task_from-t) → c.task_from-t.result ≡ slot (set_from c.args.n c.args.numbers.now c.args.at).tasks (c.loop-k.k - 1)
read c = let a = c.args in c.task_from-t.ensures ∙ task_in a.n a.numbers.now a.at no_slot (c.loop-k.k - 1) (omega arith)

-- its own jobs
counted : (c : Joined-t-after) → (c.if-t-after.after ≡ c.task_from-t.result.period) × (c.if-t-after.many ≡ jobs c.args.h c.task_from-t.result)
counted c = elim c.if-t-after.branch [
  | then-t-after w ↦ (w.after-is, w.many-is ∙ w.jobs-many.ensures)
  | else-t-after w ↦ (w.after-is ∙ sym w.if-t-after.false, w.many-is ∙ c.loop-k.invariant.0.each ∙ ap (λ (k : ℕ). c.args.h / k) (sym w.if-t-after.false))
]

-- are added
more : (c : Joined-t-after) → let a = c.args in c.task_from-t.result ≡ slot (set_from a.n a.numbers.now a.at).tasks (c.loop-k.k - 1) →
    JobsFrom a.h (set_from a.n a.numbers.now a.at).tasks a.n (c.loop-k.k - 1) (c.loop-k.all + c.if-t-after.many) c.if-t-after.after c.if-t-after.many
more c here =
    let is = counted c in
    jobs_more c.loop-k.invariant.0 (omega arith) (omega arith) c.requires.cycle.short _ here _ _ is.0 is.1

pub overflow_sub-kept : goal.overflow_sub-kept
overflow_sub-kept c =
    let rule = cycle_rules c.requires.cycle _ (c.loop-k.k - 1) (omega arith) (read (goal.at.overflow_sub-kept c).After-task_from-t) in
    omega arith

pub overflow_add-all : goal.overflow_add-all
overflow_add-all c =
    let at = goal.at.overflow_add-all c in omega (arith, (more at.Joined-t-after (read at.After-task_from-t)).leaves_room)

pub loop-k-preserved : goal.loop-k-preserved
loop-k-preserved c =
    let at = goal.at.loop-k-preserved c in
    let here = read at.After-task_from-t in
    (more at.Joined-t-after here, rows_more c.requires.cycle.in_slots _ c.loop-k.invariant.1 (omega arith) (omega arith) _ here _ (counted at.Joined-t-after).1)

pub returns : goal.returns
returns c =
    let end : c.loop-k.k ≡ 0 = omega arith in
    let rows = rw end at c.loop-k.invariant.1 in
    let sum = rw end at c.loop-k.invariant.0.is in
    record { jobs = sum; filled = λ good. rows_kept c.requires.cycle.in_slots _ rows _ sum good }
