-- `fileread::read` meets its contract: the look at ROOM, then the text judged, then the tables filled.
-- Assumes nothing.
use mathlib.Core.Path.{◌∙◌}
use Rattle.std.proofs.lemmas.Result.{err_from_is_err_and}
use Rattle.fileread.proofs.Rooms.{rooms_lent}
use Rattle.fileread.proofs.Parts.{read_no_room, read_refused, read_ready, read_cut, read_filled}
use Rattle.fileread.proofs.read.Goals as goal

pub returns-in_err-judge_room : goal.returns-in_err-judge_room
returns-in_err-judge_room c =
    let up = err_from_is_err_and c.from_residual.result c.from_residual.ensures.1 in
    rw (up.1, up.2) (read_no_room _ _ _ (c.in_err-judge_room.ensures ∙ rooms_lent _))

pub returns-in_err-walk : goal.returns-in_err-walk
returns-in_err-walk c =
    let up = err_from_is_err_and c.from_residual-in_err-walk.result c.from_residual-in_err-walk.ensures.1 in
    rw (up.1, up.2) (read_refused _ _ (c.in_ok-judge_room.ensures ∙ rooms_lent _) _ c.in_err-walk.ensures)

pub returns-in_err-judge_end : goal.returns-in_err-judge_end
returns-in_err-judge_end c =
    let up = err_from_is_err_and c.from_residual-in_err-judge_end.result c.from_residual-in_err-judge_end.ensures.1 in
    rw (up.1, up.2) (read_cut _ _ (c.in_ok-judge_room.ensures ∙ rooms_lent _) _ c.in_ok-walk.ensures _ c.in_err-judge_end.ensures)

pub fill-requires : goal.fill-requires
fill-requires c = read_ready _ _ (c.in_ok-judge_room.ensures ∙ rooms_lent _) _ c.in_ok-walk.ensures

pub returns : goal.returns
returns c =
    read_filled _ _ (c.in_ok-judge_room.ensures ∙ rooms_lent _) _ c.in_ok-walk.ensures c.in_ok-judge_end.ensures _ c.fill.ensures
