-- `hervantyu::intake_from` meets its contract, by the first number. Assumes nothing.
use Rattle.hervantyu.proofs.FaceIntakes.{open_numbers, shut_numbers}
use Rattle.hervantyu.proofs.intake_from.Goals as goal

pub returns-then-numbers-eq1 : goal.returns-then-numbers-eq1
returns-then-numbers-eq1 c = open_numbers c.args.numbers.now c.if-numbers-eq1.true

pub returns : goal.returns
returns c = shut_numbers c.args.numbers.now c.if-numbers-eq1.false
