-- `tables::judge` meets its contract: by framing, by the set or by the records. Assumes nothing.
use Rattle.replay.proofs.Cycles.{image_bytes}
use Rattle.framing.specs.SetRead.{set_located}
use Rattle.framing.proofs.Promises.{framed_is}
use Rattle.framing.proofs.RoomLaws.{framed_room}
use mathlib.Core.Path.{◌≡◌, sym, ◌∙◌}
use Rattle.std.proofs.lemmas.Result.{err_from_is_err_and}
use Rattle.tables.proofs.ImagesJudged.{ok_through, err_through, judged_by_framing, set_fault_place, judged_by_set}
use Rattle.tables.proofs.judge.Goals as goal

pub read_set-set-requires : goal.read_set-set-requires
read_set-set-requires c =
    let room = framed_room 2 _ _ (framed_is _ _ _ c.in_ok-l.ensures) in
    record { few = room.0; inside = room.1 }

pub map_err-requires : goal.map_err-requires
map_err-requires c = λ r e.
    set_fault_place _ (image_bytes _ c.type_inv.image) (framed_is _ _ _ c.in_ok-l.ensures) c.read_set-set.ensures r
    (sym c.judge_set.ensures.answer ∙ e)

pub judge_records-requires : goal.judge_records-requires
judge_records-requires c =
    record {
      framed = framed_is _ _ _ c.in_ok-l.ensures;
      set_is = c.read_set-set.ensures;
      keeps = c.judge_set.ensures.keeps _ (ok_through _ _ _ c.map_err.ensures.cases c.in_ok-map_err.was);
    }

pub returns-in_err-l : goal.returns-in_err-l
returns-in_err-l c =
    let p = err_from_is_err_and c.from_residual.result c.from_residual.ensures.1 in
    rw (p.1, p.2) (judged_by_framing _ _ c.in_err-l.ensures)

pub returns-in_err-map_err : goal.returns-in_err-map_err
returns-in_err-map_err c =
    let p = err_from_is_err_and c.from_residual-in_err-map_err.result c.from_residual-in_err-map_err.ensures.1 in
    let q = err_through _ _ _ c.map_err.ensures.cases c.in_err-map_err.was in
    let told : c.in_err-map_err.field-0.0 ≡ set_located q.0 = q.2 in
    rw (p.1, p.2)
    (rw (told)
    (judged_by_set _ (image_bytes _ c.type_inv.image) (framed_is _ _ _ c.in_ok-l.ensures) c.read_set-set.ensures q.0
    (sym c.judge_set.ensures.answer ∙ q.1)))
