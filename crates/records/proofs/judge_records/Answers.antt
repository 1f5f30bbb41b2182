-- `records::judge_records` meets its contract: ID records come first. Assumes nothing.
use Rattle.records.proofs.RecordsJudged.{none_wrong, inversions_then}
use Rattle.records.proofs.judge_records.Goals as goal

pub returns : goal.returns
returns c =
    λ ts s.
    rw (inversions_then c.args.image.now ts _ _ c.args.idles c.args.inversions s.n_tasks (none_wrong _ _ c.in_ok-judge_idles.ensures)) (c.judge_inversions.ensures ts s)
