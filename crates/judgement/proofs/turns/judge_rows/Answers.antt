-- `judgement::turns::judge_rows` meets its contract: the first row that is not fine gives the answer.
-- Assumes nothing.
use native.Mathlib.Omega.{arith}
use Rattle.judgement.proofs.Refusals.{row_answer, rows_start, rows_more, rows_stop, rows_end}
use Rattle.judgement.proofs.turns.judge_rows.Goals as goal

pub loop-i-init : goal.loop-i-init
loop-i-init c = rows_start _ _ _

pub returns-in_err-placed : goal.returns-in_err-placed
returns-in_err-placed c =
    rows_stop c.loop-i.invariant (omega arith) c.from_residual.result _ c.from_residual.ensures.1
    (row_answer c.row-outcome.result _ c.part.result _ _ _ c.in_err-placed.ensures c.row-outcome.ensures c.part.ensures)

pub loop-i-preserved : goal.loop-i-preserved
loop-i-preserved c = rows_more c.loop-i.invariant (row_answer c.row-outcome.result _ c.part.result _ _ _ c.in_ok-placed.ensures c.row-outcome.ensures c.part.ensures)

pub returns : goal.returns
returns c = rows_end c.loop-i.invariant (omega arith)
