-- `rebuilding::rebuild` meets its contract: a refusal changes nothing; else set, entries and EN are put one behind the other. Assumes nothing.
use native.Mathlib.Omega.{arith}
use Rattle.std.proofs.lemmas.Result.{err_from_is_err_and}
use Rattle.rebuilding.proofs.Rebuilding.{refused_so, as_many_entries, jobs_kept, behind_good, too_short, put_out}
use Rattle.rebuilding.proofs.rebuild.Goals as goal

pub returns-in_err-t : goal.returns-in_err-t
returns-in_err-t c =
    let p = err_from_is_err_and c.from_residual.result c.from_residual.ensures.1 in
    rw (p.1, p.2) (refused_so _ _ _ c.in_err-t.ensures)

pub returns-then-out-length : goal.returns-then-out-length
returns-then-out-length c = too_short c.in_ok-t.ensures _ _ (omega arith) c.if-out-length.true

pub put_entries-requires : goal.put_entries-requires
put_entries-requires c =
    let g = c.in_ok-t.ensures in
    let behind = behind_good g in (
      _,
      record {
        entries = g.entries;
        behind = behind;
        keeps = g.keeps;
        room = omega (arith, jobs_kept _ _ _ _ behind g.keeps, as_many_entries _ _ _ _ behind, g.keeps.n_tasks, g.tasks_many);
      },
    )

pub returns : goal.returns
returns c =
    let g = c.in_ok-t.ensures in
    put_out g _ _ _ _ _ _ _ (omega arith) c.if-out-length.false (rw c.number.ensures at c.put_set.ensures) (c.put_entries.ensures _ _ g.keeps (behind_good g)) c.put.ensures
    (omega arith) (omega arith)
