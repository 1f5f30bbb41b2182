-- `dispatcher::all_started` meets its contract. Assumes nothing.
use Rattle.std.proofs.Common.{arith, sym, ◌∙◌, ap}
use Rattle.std.specs.Prelude.{is_some}
use Rattle.dispatcher.proofs.NextTurns.{by_scan}
use Rattle.dispatcher.proofs.all_started.Goals as goal

pub returns : goal.returns
returns c = λ ts at fits is. by_scan fits (rw is (omega arith)) _ (rw is (sym (ap is_some c.missing.ensures) ∙ c.is_none.ensures))
