-- A start more is listed, and at the end all of them.
use Rattle.std.proofs.Common.{arith, rules}
use Rattle.lines.proofs.Listing.{head_inside, set_inside, listed_none, a_slot, end_fits, job_fits, line_fits, listed_more, ok_fits, listed_all}
use Rattle.lines.proofs.list_timetable.Goals as goal

pub tasks_in-n-requires : goal.tasks_in-n-requires
tasks_in-n-requires c = head_inside c.requires

pub read_set-s-requires : goal.read_set-s-requires
read_set-s-requires c =
    let inside = set_inside c.requires c.tasks_in-n.result c.tasks_in-n.ensures in
    record { few = inside.0; inside = omega arith }

pub overflow_sub-starts-2 : goal.overflow_sub-starts-2
overflow_sub-starts-2 c =
    let inside = set_inside c.requires c.tasks_in-n.result c.tasks_in-n.ensures in
    omega arith

pub loop-j-init : goal.loop-j-init
loop-j-init c = listed_none c.requires c.tasks_in-n.ensures c.read_set-s.ensures c.head_length-first.ensures c.new-page.ensures

pub bounds-s-i : goal.bounds-s-i
bounds-s-i c = a_slot c.loop-j.invariant c.loop-j-test.true _ c.read-e.ensures

pub bounds-jobs-i : goal.bounds-jobs-i
bounds-jobs-i c = a_slot c.loop-j.invariant c.loop-j-test.true _ c.read-e.ensures

pub overflow_add-e : goal.overflow_add-e
overflow_add-e c = omega (arith, end_fits c.loop-j.invariant c.loop-j-test.true _ c.read-e.ensures)

pub put_line-requires : goal.put_line-requires
put_line-requires c = line_fits c.loop-j.invariant c.loop-j-test.true _ c.read-e.ensures

pub bounds-jobs-i-in-loop-j : goal.bounds-jobs-i-in-loop-j
bounds-jobs-i-in-loop-j c = a_slot c.loop-j.invariant c.loop-j-test.true _ c.read-e.ensures

pub overflow_add-jobs : goal.overflow_add-jobs
overflow_add-jobs c = omega (arith, job_fits c.loop-j.invariant c.loop-j-test.true _ c.read-e.ensures)

pub bounds-jobs-i-in-loop-j-2 : goal.bounds-jobs-i-in-loop-j-2
bounds-jobs-i-in-loop-j-2 c = a_slot c.loop-j.invariant c.loop-j-test.true _ c.read-e.ensures

pub loop-j-preserved : goal.loop-j-preserved
loop-j-preserved c = listed_more c.loop-j.invariant c.loop-j-test.true _ c.read-e.ensures c.put_line.ensures

pub put_ok-requires : goal.put_ok-requires
put_ok-requires c = ok_fits c.loop-j.invariant c.loop-j-test.false c.loop-j.auto.j-end

pub returns : goal.returns
returns c =
    let listed = listed_all c.loop-j.invariant c.loop-j-test.false c.loop-j.auto.j-end c.new-page.ensures c.put_ok.ensures in
    search rules
