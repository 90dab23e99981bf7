-- `judgement::turns::judge_tables` meets its contract: every table passed is fine.
-- Assumes nothing.
use mathlib.Core.List.{map}
use Rattle.tables.specs.Shape.{tables_now}
use Rattle.tables.proofs.Passing.{TablesFine}
use Rattle.judgement.specs.Judgement.{rows_judged}
use Rattle.judgement.proofs.turns.judge_tables.Given as goal

abbrev pub invariant-loop-k : goal.invariant-loop-k
invariant-loop-k l = TablesFine (rows_judged l.month.days (tables_now l.tables)) l.k
