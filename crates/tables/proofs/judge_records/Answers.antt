-- `tables::judge_records` meets its contract: by the records' rules, then by replay and comparison. Assumes nothing.
use Rattle.replay.proofs.Cycles.{image_bytes}
use Rattle.std.proofs.lemmas.Result.{err_from_is_err_and}
use Rattle.tables.proofs.ImagesJudged.{refusal_judged, can_judge, judged_by_records, has_offsets, can_compare, judged_good}
use Rattle.tables.proofs.judge_records.Goals as goal

pub judge_records-requires : goal.judge_records-requires
judge_records-requires c = can_judge (image_bytes _ c.type_inv.image) c.requires

pub returns-in_err-judge_records : goal.returns-in_err-judge_records
returns-in_err-judge_records c =
    let p = err_from_is_err_and c.from_residual.result c.from_residual.ensures.1 in
    rw (p.1, p.2) (judged_by_records (image_bytes _ c.type_inv.image) c.requires _ c.in_err-judge_records.ensures)

pub first_offsets-first-requires : goal.first_offsets-first-requires
first_offsets-first-requires c = has_offsets (image_bytes _ c.type_inv.image) c.requires c.in_ok-judge_records.ensures

pub replay_fault-requires : goal.replay_fault-requires
replay_fault-requires c =
    (_, can_compare (image_bytes _ c.type_inv.image) c.requires c.in_ok-judge_records.ensures _ c.first_offsets-first.ensures)

pub returns-in_err-replay_fault : goal.returns-in_err-replay_fault
returns-in_err-replay_fault c =
    let p = err_from_is_err_and c.from_residual-in_err-replay_fault.result c.from_residual-in_err-replay_fault.ensures.1 in
    rw (p.1, p.2) (refusal_judged _ _ c.in_err-replay_fault.ensures)

pub returns : goal.returns
returns c =
    judged_good (image_bytes _ c.type_inv.image) c.requires c.in_ok-judge_records.ensures _ c.first_offsets-first.ensures
    c.in_ok-replay_fault.ensures
