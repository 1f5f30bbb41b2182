-- `dispatcher::go_on` meets its contract: the state's numbers go on, and are a state again. Assumes nothing.
use mathlib.Core.Path.{◌≡◌, ◌∙◌, ap}
use Rattle.rules.specs.declared.Dispatcher.{Dispatcher as State}
use Rattle.rules.specs.Dispatcher.{go_on}
use Rattle.numbers.specs.Numbers.{state_from}
use Rattle.dispatcher.proofs.go_on.Goals as goal

pub returns : goal.returns
returns c =
    let turn : record { answer = c.go_on_numbers-answer.result; state = c.state_from-state.result }
    ≡ go_on c.args.image.now (state_from c.numbers_of-numbers.result) c.args.end =
    λ i. record { answer = c.go_on_numbers-answer.ensures.its_answer i; state = (c.state_from-state.ensures ∙ c.go_on_numbers-answer.ensures.its_state) i } in
    turn ∙ ap (λ (s : State). go_on c.args.image.now s c.args.end) c.numbers_of-numbers.ensures.state
