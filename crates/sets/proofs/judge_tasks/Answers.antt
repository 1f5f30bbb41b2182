-- `sets::judge_tasks` meets its contract. The invariant: the first fault is that of the tasks from i on. Assumes nothing.
use mathlib.Core.Path.{◌∙◌}
use native.Mathlib.Omega.{arith}
use Rattle.numbers.specs.Numbers.{set_from}
use Rattle.numbers.proofs.SetNumbers.{sixteen_tasks, task_in}
use Rattle.sets.proofs.Slots.{no_slot}
use Rattle.sets.proofs.Faults.{faults_start, faults_end, own_fault, period_fault, faults_on}
use Rattle.sets.proofs.judge_tasks.Goals as goal

pub loop-i-init : goal.loop-i-init
loop-i-init c =
    let a = c.args in
    faults_start (set_from a.n a.numbers.now a.at).tasks a.n (omega (arith, sixteen_tasks a.n a.numbers.now a.at))

pub loop-i-preserved : goal.loop-i-preserved
loop-i-preserved c =
    let a = c.args in
    let here = c.task_from-t.ensures ∙ task_in a.n a.numbers.now a.at no_slot c.loop-i.i (omega arith) in
    faults_on c.loop-i.invariant c.loop-i-test.true _ here c.if-not-keeps_its_rule.ensures c.if-t-before.false

pub returns-then-not-keeps_its_rule : goal.returns-then-not-keeps_its_rule
returns-then-not-keeps_its_rule c =
    let a = c.args in
    let here = c.task_from-t.ensures ∙ task_in a.n a.numbers.now a.at no_slot c.loop-i.i (omega arith) in
    rw (own_fault c.loop-i.invariant c.loop-i-test.true _ here c.if-not-keeps_its_rule.ensures)

pub returns-then-t-before : goal.returns-then-t-before
returns-then-t-before c =
    let a = c.args in
    let here = c.task_from-t.ensures ∙ task_in a.n a.numbers.now a.at no_slot c.loop-i.i (omega arith) in
    rw (period_fault c.loop-i.invariant c.loop-i-test.true _ here c.if-not-keeps_its_rule.ensures c.if-t-before.true)

pub returns : goal.returns
returns c = rw (faults_end c.loop-i.invariant c.loop-i-test.false)
