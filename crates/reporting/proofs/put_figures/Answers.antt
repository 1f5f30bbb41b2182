-- A figure more is put, and at the end all of them.
use Rattle.std.proofs.Common.{arith, rules, ap, length, get_or, pos}
use lib.Seq.{take_all}
use mir.Syntax.{w64}
use mir.Val.{SFits}
use mir.Facts.{to_z-of_z}
use Rattle.text.proofs.TextPuts.{none_put, page_front}
use Rattle.reporting.proofs.FigureLines.{line_fits, figures_more}
use Rattle.reporting.proofs.put_figures.Goals as goal

pub loop-z-init : goal.loop-z-init
loop-z-init c = record { short = omega arith; puts = none_put _ (omega arith) }

pub signed-requires : goal.signed-requires
signed-requires c =
    let fits : SFits w64 (get_or c.args.figures.now c.loop-z.z-index (pos 0)) = search rules in
    let opened = c.new-page.ensures in
    let room = ap length opened.kept in
    rw (to_z-of_z fits) (line_fits c.loop-z.invariant (omega arith) c.loop-z-test.true fits)

pub loop-z-preserved : goal.loop-z-preserved
loop-z-preserved c =
    let fits : SFits w64 (get_or c.args.figures.now c.loop-z.z-index (pos 0)) = search rules in
    let opened = c.new-page.ensures in
    let room = ap length opened.kept in
    figures_more c.loop-z.invariant (omega arith) c.loop-z-test.true fits (rw (to_z-of_z fits) at c.signed.ensures)

pub returns : goal.returns
returns c =
    let all = take_all c.loop-z.z-index c.args.figures.now (omega arith) in
    let lines = c.loop-z.invariant in
    let front = page_front c.new-page.ensures (omega (arith, rw all at lines.short)) (rw all at lines.puts) in
    search rules
