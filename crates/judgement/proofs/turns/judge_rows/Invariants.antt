-- `judgement::turns::judge_rows` meets its contract: every row that the loop has passed is fine.
-- Assumes nothing.
use mathlib.Core.List.{map}
use Rattle.tables.specs.Shape.{tables_now}
use Rattle.judgement.proofs.Refusals.{RowsFine}
use Rattle.judgement.proofs.turns.judge_rows.Given as goal

abbrev pub invariant-loop-i : goal.invariant-loop-i
invariant-loop-i l = RowsFine l.month.days (tables_now l.tables) l.table l.i
