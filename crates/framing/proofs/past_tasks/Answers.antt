-- `framing::past_tasks` meets its contract: no more TK records are counted than are due, and framing comes to the place behind them.
-- Assumes nothing.
use native.Mathlib.Omega.{arith}
use Rattle.framing.proofs.Runs.{tasks_passed}
use Rattle.framing.proofs.past_tasks.Goals as goal

pub returns : goal.returns
returns c kind re =
    rw c.tasks_due.ensures
    (tasks_passed re c.requires.towards (omega (arith, c.run-count.ensures.asked, c.if-count-eq0.false)) c.run-count.ensures (omega arith))
