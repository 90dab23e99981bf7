-- `judgement::judge` meets its contract: its stages in turn are the definition's, and the first refusal is what comes of it.
-- Assumes nothing.
use native.Mathlib.Omega.{arith}
use Rattle.judgement.proofs.Turning.{count_refused, room_refused, month_refused, range_refused, rows_refused, all_fine}
use Rattle.judgement.proofs.judge.Goals as goal

pub returns-in_err-count_tables : goal.returns-in_err-count_tables
returns-in_err-count_tables c = count_refused _ _ _ _ c.from_residual.result _ c.from_residual.ensures.1 c.in_err-count_tables.ensures

pub returns-in_err-judge_room : goal.returns-in_err-judge_room
returns-in_err-judge_room c =
    room_refused _ _ _ _ c.from_residual-in_err-judge_room.result _ c.from_residual-in_err-judge_room.ensures.1 c.in_ok-count_tables.ensures c.in_err-judge_room.ensures

pub returns-in_err-month : goal.returns-in_err-month
returns-in_err-month c =
    month_refused _ _ _ _ c.from_residual-in_err-month.result _ c.from_residual-in_err-month.ensures.1 c.in_ok-count_tables.ensures c.in_ok-judge_room.ensures
    _ _ c.new.ensures c.in_err-month.ensures.value (grind arith)

pub returns-in_err-judge_head : goal.returns-in_err-judge_head
returns-in_err-judge_head c =
    range_refused _ _ _ _ c.from_residual-in_err-judge_head.result _ c.from_residual-in_err-judge_head.ensures.1 c.in_ok-count_tables.ensures c.in_ok-judge_room.ensures
    _ _ _ c.new.ensures c.in_ok-month.ensures.value c.in_err-judge_head.ensures

pub returns-in_err-judge_tables : goal.returns-in_err-judge_tables
returns-in_err-judge_tables c =
    rows_refused _ _ _ _ c.from_residual-in_err-judge_tables.result _ c.from_residual-in_err-judge_tables.ensures.1 c.in_ok-count_tables.ensures c.in_ok-judge_room.ensures
    _ _ _ c.new.ensures c.in_ok-month.ensures.value c.in_ok-judge_head.ensures c.in_err-judge_tables.ensures

pub returns : goal.returns
returns c =
    all_fine _ _ _ _ _ _ _ c.in_ok-count_tables.ensures c.in_ok-judge_room.ensures c.new.ensures c.in_ok-month.ensures.value c.in_ok-judge_head.ensures
    c.in_ok-judge_tables.ensures
