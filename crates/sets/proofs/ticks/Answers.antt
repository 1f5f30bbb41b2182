-- `sets::ticks` meets its contract. The invariant: h is the hyperperiod of the tasks from i on, and they have no fault. Assumes nothing.
use mathlib.Core.Path.{◌≡◌, ◌∙◌}
use Prim.Native.Nat.{◌-◌}
use native.Mathlib.Omega.{arith}
use Rattle.numbers.specs.Numbers.{set_from}
use Rattle.numbers.proofs.SetNumbers.{sixteen_tasks, task_in}
use Rattle.sets.specs.Sets.{InSlots}
use Rattle.sets.proofs.Slots.{no_slot, slot}
use Rattle.sets.proofs.Multiples.{told_long}
use Rattle.sets.proofs.Cycles.{not_broken_before, not_falling_before, not_long_before, last_not_long, cycle_starts, cycle_more, cycle_same, cycle_ends}
use Rattle.sets.proofs.ticks.Goals as goal
use Rattle.sets.proofs.ticks.Goals.{After-task_from-last, After-task_from-t, then-last-gt65535-via-then-last-gt65535, then-last-gt65535-via-else-last-gt65535+then-not-keeps_its_rule}

-- the last task, as it is read
last : (c : After-task_from-last) → c.task_from-last.result ≡ slot (set_from c.args.n c.args.numbers.now c.args.at).tasks (c.args.n - 1)
last c = let a = c.args in c.task_from-last.ensures ∙ task_in a.n a.numbers.now a.at no_slot (a.n - 1) (omega arith)

-- one before it
next : (c : After-task_from-t) → c.task_from-t.result ≡ slot (set_from c.args.n c.args.numbers.now c.args.at).tasks (c.loop-i.i - 1)
next c = let a = c.args in c.task_from-t.ensures ∙ task_in a.n a.numbers.now a.at no_slot (c.loop-i.i - 1) (omega arith)

pub returns-then-last-gt65535 : goal.returns-then-last-gt65535
returns-then-last-gt65535 c =
    let read = last (goal.at.returns-then-last-gt65535 c).After-task_from-last in
    λ h g. elim c.then-last-gt65535.branch [
      | then-last-gt65535-via-then-last-gt65535 w ↦ last_not_long g _ read w.if-last-gt65535.true
      | then-last-gt65535-via-else-last-gt65535+then-not-keeps_its_rule w ↦ not_broken_before g c.args.n c.requires.some (omega arith) _ read w.if-not-keeps_its_rule.ensures
    ]

pub loop-i-init : goal.loop-i-init
loop-i-init c =
    let a = c.args in
    cycle_starts (set_from a.n a.numbers.now a.at).tasks a.n c.requires.some (omega (arith, sixteen_tasks a.n a.numbers.now a.at)) _
    (last (goal.at.loop-i-init c).After-task_from-last) c.if-not-keeps_its_rule.ensures c.if-last-gt65535.false

pub returns-then-not-keeps_its_rule-2 : goal.returns-then-not-keeps_its_rule-2
returns-then-not-keeps_its_rule-2 c =
    let read = next (goal.at.returns-then-not-keeps_its_rule-2 c).After-task_from-t in
    λ h g. not_broken_before g c.loop-i.i c.loop-i-test.true (omega arith) _ read c.if-not-keeps_its_rule-2.ensures

pub returns-then-after-t : goal.returns-then-after-t
returns-then-after-t c =
    let read = next (goal.at.returns-then-after-t c).After-task_from-t in
    λ h g. not_falling_before g c.loop-i.i c.loop-i-test.true (omega arith) _ read _ (omega arith) c.loop-i.invariant.next c.if-after-t.true

pub returns-in_err-h : goal.returns-in_err-h
returns-in_err-h c =
    let read = next (goal.at.returns-in_err-h c).After-task_from-t in
    let m = c.in_err-h.ensures in
    rw c.from_residual.ensures
    (λ h g. not_long_before g c.loop-i.i c.loop-i-test.true (omega arith) _ read c.loop-i.invariant.is m.is (told_long m.multiple m.told))

pub loop-i-preserved-then-t-after : goal.loop-i-preserved-then-t-after
loop-i-preserved-then-t-after c =
    let read = next (goal.at.loop-i-preserved-then-t-after c).After-task_from-t in
    cycle_more c.loop-i.invariant c.loop-i-test.true (omega arith) _ read c.if-not-keeps_its_rule-2.ensures c.in_ok-h.h c.in_ok-h.ensures c.if-after-t.false

pub loop-i-preserved : goal.loop-i-preserved
loop-i-preserved c =
    let read = next (goal.at.loop-i-preserved c).After-task_from-t in
    cycle_same c.loop-i.invariant c.loop-i-test.true (omega arith) _ read c.if-not-keeps_its_rule-2.ensures c.if-t-after.false

pub returns : goal.returns
returns c =
    let a = c.args in
    let in_slots : InSlots (set_from a.n a.numbers.now a.at) =
    record { some_tasks = c.requires.some; few_tasks = c.requires.few; slots = sixteen_tasks a.n a.numbers.now a.at } in
    cycle_ends in_slots c.loop-i.invariant (omega arith)
