-- `sets::judge_cycle` meets its contract: a refusal is the rule book's, and what passes has a cycle. Assumes nothing.
use Rattle.std.proofs.lemmas.Result.{err_from_is_err_and}
use Rattle.numbers.specs.Numbers.{set_from}
use Rattle.numbers.proofs.SetNumbers.{sixteen_tasks}
use Rattle.sets.specs.Sets.{InSlots}
use Rattle.sets.proofs.Faults.{told_none, told_fault}
use Rattle.sets.proofs.Answers.{refused_empty, refused_crowded, refused_task, refused_long}
use Rattle.sets.proofs.judge_cycle.Goals as goal
use Rattle.sets.proofs.judge_cycle.Goals.{Else-n-gt16, then-n-lt1-via-else-n-lt1+then-n-gt16, then-n-lt1-via-then-n-lt1}

pub returns-then-n-lt1 : goal.returns-then-n-lt1
returns-then-n-lt1 c =
    let s = set_from c.args.n c.args.numbers.now c.args.at in
    elim c.then-n-lt1.branch [
      | then-n-lt1-via-then-n-lt1 w ↦ refused_empty s w.if-n-lt1.true
      | then-n-lt1-via-else-n-lt1+then-n-gt16 w ↦ refused_crowded s w.if-n-lt1.false w.if-n-gt16.true
    ]

-- the set has 1 to 16 tasks
in_slots : (c : Else-n-gt16) → InSlots (set_from c.args.n c.args.numbers.now c.args.at)
in_slots c = let a = c.args in record { some_tasks = c.if-n-lt1.false; few_tasks = c.if-n-gt16.false; slots = sixteen_tasks a.n a.numbers.now a.at }

pub returns-in_err-judge_tasks : goal.returns-in_err-judge_tasks
returns-in_err-judge_tasks c =
    let p = err_from_is_err_and c.from_residual.result c.from_residual.ensures.1 in
    rw (p.1, p.2) (refused_task (in_slots (goal.at.returns-in_err-judge_tasks c).Else-n-gt16) _ (told_fault _ _ c.in_err-judge_tasks.ensures))

pub returns : goal.returns
returns c = refused_long (in_slots (goal.at.returns c).Else-n-gt16) (told_none _ c.in_ok-judge_tasks.ensures) c.in_default.ensures
