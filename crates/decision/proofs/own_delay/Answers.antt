-- `decision::own_delay` meets its contract: no PV there, another task's, another job's, or the delay. Assumes nothing.
use Rattle.rules.specs.Marks.{PV}
use Rattle.decision.proofs.WholeRecords.{whole_inside, readable_inside, own_none, pv_stands, other_task, other_job, own_job}
use Rattle.decision.proofs.own_delay.Goals as goal

pub bounds-image-at : goal.bounds-image-at
bounds-image-at c = readable_inside c.requires.0 _ _ c.requires.1

pub returns-then-image-at : goal.returns-then-image-at
returns-then-image-at c = λ ts can. rw (own_none ts _ _ can _ _ c.if-image-at.true)

pub inversion_at-r-requires : goal.inversion_at-r-requires
inversion_at-r-requires c = whole_inside _ _ PV (pv_stands c.requires.0 _ _ c.requires.1 c.if-image-at.false)

pub returns-then-r-task : goal.returns-then-r-task
returns-then-r-task c = λ ts can. rw (other_task ts _ _ can c.if-image-at.false _ c.inversion_at-r.ensures _ _ c.if-r-task.true)

pub returns-then-r-job : goal.returns-then-r-job
returns-then-r-job c = λ ts can. rw (other_job ts _ _ can c.if-image-at.false _ c.inversion_at-r.ensures _ _ c.if-r-task.false c.if-r-job.true)

pub returns : goal.returns
returns c = λ ts can. rw (own_job ts _ _ can c.if-image-at.false _ c.inversion_at-r.ensures _ _ c.if-r-task.false c.if-r-job.false)
