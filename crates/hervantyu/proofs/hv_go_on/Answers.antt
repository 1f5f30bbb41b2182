-- `hervantyu::hv_go_on` meets its contract: it tells what going on answers, and the state is the rule book's. Assumes nothing.
use Rattle.hervantyu.proofs.ToldAnswers.{turn_told}
use Rattle.hervantyu.proofs.hv_go_on.Goals as goal

pub returns : goal.returns
returns c = turn_told c.go_on_numbers.ensures c.told_start.ensures
