-- `timetables::check` meets its contract: it answers as the image was judged. Assumes nothing.
use Rattle.std.proofs.Common.{rules}
use Rattle.timetables.proofs.ImagesJudged.{refusal_answered, acceptance_answered}
use Rattle.timetables.proofs.check.Goals as goal

pub returns-in_err-judge : goal.returns-in_err-judge
returns-in_err-judge c = search (rules, refusal_answered)

pub returns : goal.returns
returns c = acceptance_answered c.in_ok-judge.ensures
