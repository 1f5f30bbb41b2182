-- P1 to P12, their figures, document 000's figure 1 and source document 001's example hold of the definitions: the whole table is worked out. Assumes nothing.
use mathlib.Core.Path.{◌≡◌, refl}
use mathlib.Core.List.{map}
use lib.ListN.{length}
use Rattle.rules.specs.Tasks.{hyperperiod}
use Rattle.rules.specs.Framing.{frame_records}
use Rattle.rules.specs.Ticks.{ticks_that}
use Rattle.rules.specs.Lateness.{worst_lateness}
use Rattle.rules.specs.Intervals.{due_at, is_deadline, work_due, first_release, last_deadline, begins, ending, up_to, intervals, spare}
use Rattle.rules.specs.Axis.{figures_of, front}
use Rattle.rules.specs.Worked.{worked, worked_out, P2_bytes}

pub all_worked : map worked_out worked ≡ worked
unfolding frame_records hyperperiod ticks_that worst_lateness due_at is_deadline work_due first_release last_deadline begins ending up_to intervals spare
    figures_of front
all_worked = refl

-- P2's image has 91 bytes
pub p2_has_91_bytes : length P2_bytes ≡ 91
p2_has_91_bytes = refl
