-- `judgement::turns::judge_tables` meets its contract: the first table that is refused gives the answer.
-- Assumes nothing.
use mathlib.Core.Path.{sym, ap, ◌∙◌}
use mathlib.Core.List.{map}
use native.Mathlib.Omega.{arith}
use Rattle.tables.specs.Shape.{tables_now}
use Rattle.tables.proofs.Passing.{fine_start, fine_more, fine_stop, fine_end}
use Rattle.judgement.specs.Judgement.{rows_judged}
use Rattle.judgement.proofs.turns.judge_tables.Goals as goal

pub loop-k-init : goal.loop-k-init
loop-k-init c = fine_start _

pub returns-in_err-judge_rows : goal.returns-in_err-judge_rows
returns-in_err-judge_rows c =
    fine_stop c.loop-k.invariant (omega arith) c.from_residual.result _ c.from_residual.ensures.1
    (c.in_err-judge_rows.ensures ∙ ap (rows_judged c.args.month.days (tables_now c.args.tables)) c.table_at.ensures)

pub loop-k-preserved : goal.loop-k-preserved
loop-k-preserved c =
    fine_more c.loop-k.invariant
    (sym (c.in_ok-judge_rows.ensures ∙ ap (rows_judged c.args.month.days (tables_now c.args.tables)) c.table_at.ensures))

pub returns : goal.returns
returns c = fine_end c.loop-k.invariant (omega arith)
