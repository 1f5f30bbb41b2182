-- `records::judge_idles` meets its contract. Assumes nothing.
use Rattle.std.proofs.Common.{rules}
use Rattle.rules.specs.Marks.{ID}
use Rattle.records.proofs.RecordsJudged.{answers_none, answers_broken, idles_end, idle_early, idle_out, idles_on}
use Rattle.records.proofs.judge_idles.Goals as goal
use Rattle.records.proofs.judge_idles.Goals.{then-r-from-via-then-r-from, then-r-from-via-else-r-from+then-not-idle_keeps}

pub loop-j-preserved : goal.loop-j-preserved
loop-j-preserved c = idles_on c.loop-j.invariant c.loop-j-test.true _ (search rules) c.if-r-from.false (cc)

pub returns-then-r-from : goal.returns-then-r-from
returns-then-r-from c =
    let inv = c.loop-j.invariant in
    let here = c.loop-j-test.true in
    answers_broken _ _ _ _ ID c.args.idles c.requires.1.idles_begin c.loop-j.j here
    (elim c.then-r-from.branch [
      | then-r-from-via-then-r-from w ↦ idle_early inv here c.idle_at-r.result (search rules) w.if-r-from.true
      | then-r-from-via-else-r-from+then-not-idle_keeps w ↦ idle_out inv here c.idle_at-r.result (search rules) w.if-r-from.false (cc)
    ]) c.broken.result (search rules)

pub returns : goal.returns
returns c = answers_none _ _ (idles_end c.loop-j.invariant c.loop-j-test.false)
