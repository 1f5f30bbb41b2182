-- `figures::measure` meets its contract: framing up to EN, and the image there measured. Assumes nothing.
use Rattle.std.proofs.Common.{sym}
use Rattle.std.proofs.lemmas.Result.{err_from_is_err_and}
use lib.Seq.{length-take-le}
use Rattle.rules.proofs.Fronts.{front_taken, front_ended}
use Rattle.framing.proofs.Promises.{framed_is, refused_is}
use Rattle.figures.proofs.Answers.{refused_front, measured_front}
use Rattle.figures.proofs.measure.Goals as goal

pub returns-in_err-l : goal.returns-in_err-l
returns-in_err-l c =
    let p = err_from_is_err_and c.from_residual.result c.from_residual.ensures.1 in
    rw (p.1, p.2) (refused_front _ _ _ (refused_is _ _ _ c.in_err-l.ensures))

pub slice_bounds-measure_image-end : goal.slice_bounds-measure_image-end
slice_bounds-measure_image-end c = sym (length-take-le _ _ (front_ended _ _ (framed_is _ _ _ c.in_ok-l.ensures)))

pub returns : goal.returns
returns c = let framed = framed_is _ _ _ c.in_ok-l.ensures in measured_front _ _ framed (rw (front_taken _ _ framed) c.measure_image.ensures)
