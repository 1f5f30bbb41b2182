-- `hervantyu::hv_judge_set` meets its contract: what it leaves is what the rule book's answer tells. Assumes nothing.
use mathlib.Core.Path.{◌≡◌, sym, ◌∙◌, ap}
use native.Mathlib.Omega.{arith}
use Rattle.rules.specs.Refusals.{set_tells}
use Rattle.rules.specs.Tasks.{judge_set}
use Rattle.rules.proofs.Promises.{set_refusals}
use Rattle.numbers.specs.Numbers.{set_from}
use Rattle.hervantyu.proofs.ToldAnswers.{no_number, no_place, value_given, its_number, its_place, value_kept}
use Rattle.hervantyu.proofs.hv_judge_set.Goals as goal

pub returns-in-Ok : goal.returns-in-Ok
returns-in-Ok c =
    let answered : judge_set (set_from c.args.n c.args.tasks.now 0) ≡ c.judge_numbers.result =
    sym c.judge_numbers.ensures in
    let told = ap set_tells (answered ∙ c.in-Ok.is) in
    record { its_number = no_number _ _ told; its_place = no_place _ _ told; its_hyperperiod = value_given _ _ told 0 _; its_jobs = value_given _ _ told 1 _ }

pub returns-in-Err : goal.returns-in-Err
returns-in-Err c =
    let answered : judge_set (set_from c.args.n c.args.tasks.now 0) ≡ c.judge_numbers.result =
    sym c.judge_numbers.ensures in
    let refused = answered ∙ c.in-Err.is in
    let told = ap set_tells refused in
    let kept = value_kept _ _ told (omega (arith, (set_refusals _ _ refused).1)) in
    record { its_number = its_number _ _ told; its_place = its_place _ _ told; its_hyperperiod = kept 0 _; its_jobs = kept 1 _ }
