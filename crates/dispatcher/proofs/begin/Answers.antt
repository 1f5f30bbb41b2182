-- `dispatcher::begin` meets its contract: the numbers that beginning leaves are a state. Assumes nothing.
use mathlib.Core.Path.{◌∙◌}
use Rattle.dispatcher.proofs.begin.Goals as goal

pub returns : goal.returns
returns c =
    λ i. record { answer = c.begin_numbers-answer.ensures.its_answer i; state = (c.state_from-state.ensures ∙ c.begin_numbers-answer.ensures.its_state) i }
