-- `fileread::judge::judge_tables` meets its contract: what is left from a table on is read behind the tables before.
-- Assumes nothing.
use Prim.Native.Nat.{◌≤◌}
use lib.ListN.{length, drop}
use Rattle.fileform.specs.Form.{month_form}
use Rattle.fileform.specs.Reading.{table_lines}
use Rattle.fileread.specs.Calls.{counts_of}
use Rattle.fileread.proofs.LineWalks.{Walking}
use Rattle.fileread.proofs.judge.judge_tables.Given as goal

abbrev pub invariant-loop-k : goal.invariant-loop-k
invariant-loop-k l =
    (l.i ≤ length l.text)
    × Walking (table_lines month_form.kinds (drop l.at l.text)) (table_lines (drop l.k month_form.kinds) (drop l.i l.text)) counts_of l.initial.counts l.counts l.k
