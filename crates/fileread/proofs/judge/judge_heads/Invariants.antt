-- `fileread::judge::judge_heads` meets its contract: what is left from a line on is read behind the lines before.
-- Assumes nothing.
use Prim.Native.Nat.{◌≤◌}
use lib.ListN.{length, drop}
use Rattle.fileform.specs.Form.{head_keys}
use Rattle.fileform.specs.Reading.{head_lines}
use Rattle.fileread.proofs.LineWalks.{Walking, itself, first_lines}
use Rattle.fileread.proofs.judge.judge_heads.Given as goal

abbrev pub invariant-loop-k : goal.invariant-loop-k
invariant-loop-k l =
    (l.i ≤ length l.text)
    × Walking (first_lines l.text) (head_lines (length l.text) (drop l.k head_keys) (drop l.i l.text)) itself l.fn.head l.head l.k
