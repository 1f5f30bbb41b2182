-- `hervantyu::hv_begin` meets its contract: it tells what beginning answers, and the state is the rule book's. Assumes nothing.
use Rattle.std.proofs.Common.{rules}
use Rattle.hervantyu.proofs.ToldAnswers.{turn_told}
use Rattle.hervantyu.proofs.hv_begin.Goals as goal

pub returns : goal.returns
returns c = record { turn_told = turn_told c.begin_numbers-begun.ensures c.told_start.ensures; its_location = search rules }
