-- `hervantyu::hv_intake_rebuild` meets its contract: it tells what closing answers and writes, and the intake is shut. Assumes nothing.
use Rattle.hervantyu.proofs.hv_intake_rebuild.Goals as goal

pub returns : goal.returns
returns c =
    record {
      written = record {
        told = rw (c.rebuild.ensures.answer, c.shut.ensures.before) at c.told_make.ensures;
        its_output = rw c.shut.ensures.before at c.rebuild.ensures.output;
      };
      its_numbers = c.shut.ensures.after;
    }
