-- `writing::put_set` meets its contract. The loop's invariant: TS and the tasks passed are put. Assumes nothing.
use mathlib.Core.Path.{◌≡◌, refl, sym, ◌∙◌, ap, ap₂}
use mathlib.Core.List.{List, [], ◌∷◌}
use Prim.Native.Nat.{ℕ}
use native.Mathlib.Omega.{arith}
use borrow.Author.Rules.{rules}
use native.Mathlib.Numerals.{add-one}
use lib.ListN.{get_or, take}
use lib.Seq.{length-take-le, take-take}
use Rattle.rules.specs.declared.Task.{Task}
use Rattle.rules.specs.Marks.{TS, TK, size}
use Rattle.rules.specs.Image.{record_of, of_task}
use Rattle.rules.specs.Dispatcher.{zero_task}
use Rattle.rules.specs.Tasks.{memory_set}
use Rattle.writing.specs.Writing.{put_at, record_put}
use Rattle.writing.proofs.Puts.{put_none}
use Rattle.writing.proofs.ImagePut.{tasks_bytes, task_put, set_put}
use Rattle.writing.proofs.put_set.Goals as goal

pub loop-task-init : goal.loop-task-init
loop-task-init c = (refl, sym (put_none _ (size TS) (omega arith)))

pub loop-task-preserved : goal.loop-task-preserved
loop-task-preserved c =
    let tasks = take c.args.s.n c.args.s.tasks in
    let i = c.loop-task.task-index in
    let front = c.put.new.out in
    let many = length-take-le c.args.s.n c.args.s.tasks (omega arith) in (
      omega arith,
      c.put-in-loop-task.ensures
          ∙ ap₂ (λ (o : List ℕ) (k : ℕ). record_put o k (record_of TK (of_task (get_or tasks i zero_task)))) c.loop-task.invariant.1 c.loop-task.invariant.0
          ∙ task_put front tasks zero_task i (omega arith) (omega (arith, c.put.auto))
          ∙ ap (λ (k : ℕ). put_at front (size TS) (tasks_bytes (take k tasks))) (sym (add-one i)),
    )

pub returns : goal.returns
unfolding memory_set
returns c =
    let set = c.args.s in
    let many = length-take-le set.n set.tasks (omega arith) in
    let all : c.loop-task.task-index ≡ set.n = omega arith in
    let head : c.put.new.out ≡ record_put c.args.out.now 0 (record_of TS (1 ∷ c.args.kind ∷ set.n ∷ [])) = search rules in
    c.loop-task.invariant.1
    ∙ ap₂ (λ (o : List ℕ) (tasks : List Task). put_at o (size TS) (tasks_bytes tasks))
    head
    (ap (λ (k : ℕ). take k (take set.n set.tasks)) all ∙ take-take set.n set.n set.tasks (omega arith))
    ∙ set_put c.args.out.now c.args.kind set.n (memory_set set) many (omega arith)
