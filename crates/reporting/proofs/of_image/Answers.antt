-- The figures' lines, or what a refusal comes to.
use Rattle.std.proofs.Common.{arith, rules, sym, length-take-le}
use Rattle.reporting.proofs.Measured.{figures_in, refused_turned, lines_turned}
use Rattle.reporting.proofs.of_image.Goals as goal

pub slice_bounds-figures-end : goal.slice_bounds-figures-end
slice_bounds-figures-end c = let known = figures_in c.type_inv.bytes c.measure.ensures (search rules) c.in-Ok.is in known.inside

pub slice_bounds-put_figures-end : goal.slice_bounds-put_figures-end
slice_bounds-put_figures-end c =
    let known = figures_in c.type_inv.bytes c.measure.ensures (search rules) c.in-Ok.is in
    sym (length-take-le _ _ known.inside)

pub put_figures-text-requires : goal.put_figures-text-requires
put_figures-text-requires c =
    let known = figures_in c.type_inv.bytes c.measure.ensures (search rules) c.in-Ok.is in
    omega (arith, known.few, length-take-le c.in-Ok.a.figures c.measure.new.out known.inside)

pub returns-in-Err : goal.returns-in-Err
returns-in-Err c =
    refused_turned c.type_inv.bytes c.measure.ensures (search rules) c.args.more c.args.beyond c.in-Err.is c.refused.ensures

pub returns-in-Ok : goal.returns-in-Ok
returns-in-Ok c =
    lines_turned c.type_inv.bytes c.measure.ensures (search rules) c.args.more c.args.beyond c.in-Ok.is c.put_figures-text.ensures
