-- `timetables::walk_entries` meets its contract. The invariant: for every set that the rows are kept of, however many entries are listed, what is judged
-- and counted from there on is the whole. Assumes nothing.
use Rattle.std.proofs.Common.{sym, ◌∙◌, inl, inr, arith}
use Rattle.rules.specs.Marks.{SL}
use Rattle.images.proofs.TableLaws.{stands_whole}
use Rattle.timetables.proofs.Counting.{both_counted}
use Rattle.timetables.proofs.Walking.{walking_first, good_start, walking_next, ends_missing, ends_complete, walk_broken}
use Rattle.timetables.proofs.walk_entries.Goals as goal
use Rattle.timetables.proofs.walk_entries.Goals.{then-count+then-lower_waits, then-idles_before, else-idles_before, then-count+else-lower_waits, else-count}

pub entries-init : goal.entries-init
entries-init c = λ ts stand. walking_first stand (c.head_length-at.ensures ∙ omega (arith, stand.keeps.n_tasks))

pub read-e-requires : goal.read-e-requires
read-e-requires c = stands_whole _ _ SL (sym c.stands.ensures ∙ c.if-not-stands.false)

pub overflow_add-release : goal.overflow_add-release
overflow_add-release c =
    let here = c.entries.invariant _ c.requires.1 in
    let start = good_start here (sym c.stands.ensures ∙ c.if-not-stands.false) c.read-e.ensures c.in_default.ensures in
    omega (arith, start.release_fits)

pub overflow_add-free : goal.overflow_add-free
overflow_add-free c =
    let here = c.entries.invariant _ c.requires.1 in
    let start = good_start here (sym c.stands.ensures ∙ c.if-not-stands.false) c.read-e.ensures c.in_default.ensures in
    omega (arith, start.end_fits)

pub entries-smaller : goal.entries-smaller
entries-smaller c = omega (arith, stands_whole _ _ SL (sym c.stands.ensures ∙ c.if-not-stands.false))

pub entries-preserved : goal.entries-preserved
entries-preserved c =
    λ ts stand.
    walking_next (c.entries.invariant ts stand) (sym c.stands.ensures ∙ c.if-not-stands.false) c.read-e.ensures c.in_default.ensures _
    (elim c.if-count.branch [
      | then-count+then-lower_waits w ↦ inl (
        w.if-count.true,
        w.idles_before.result,
        w.lower_waits.result,
        w.idles_before.ensures,
        w.lower_waits.ensures,
        both_counted _ (elim w.if-idles_before.branch [
          | then-idles_before v ↦ inl (v.if-idles_before.true, v.counts-is)
          | else-idles_before v ↦ inr (v.if-idles_before.false, v.counts-is)
        ])
            (inl (w.if-lower_waits.true, w.counts-is)),
      )
      | then-count+else-lower_waits w ↦ inl (
        w.if-count.true,
        w.idles_before.result,
        w.lower_waits.result,
        w.idles_before.ensures,
        w.lower_waits.ensures,
        both_counted _ (elim w.if-idles_before.branch [
          | then-idles_before v ↦ inl (v.if-idles_before.true, v.counts-is)
          | else-idles_before v ↦ inr (v.if-idles_before.false, v.counts-is)
        ])
            (inr (w.if-lower_waits.false, w.counts-is)),
      )
      | else-count w ↦ inr (w.if-count.false, w.counts-is)
    ])

pub returns-in-Some : goal.returns-in-Some
returns-in-Some c = λ ts stand.
    ends_missing (c.entries.invariant ts stand) (sym c.stands.ensures ∙ c.if-not-stands.true) c.in-Some.ensures

pub returns-in-None : goal.returns-in-None
returns-in-None c = λ ts stand.
    ends_complete (c.entries.invariant ts stand) (sym c.stands.ensures ∙ c.if-not-stands.true) c.in-None.ensures

pub returns-in-Some-entry_breaks : goal.returns-in-Some-entry_breaks
returns-in-Some-entry_breaks c = λ ts stand.
    walk_broken (c.entries.invariant ts stand) (sym c.stands.ensures ∙ c.if-not-stands.false) c.read-e.ensures c.in-Some-entry_breaks.ensures
