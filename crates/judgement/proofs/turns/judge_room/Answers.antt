-- `judgement::turns::judge_room` meets its contract: the first output that is too short gives the answer.
-- Assumes nothing.
use native.Mathlib.Omega.{arith}
use Rattle.judgement.proofs.Turning.{first_refused, second_given}
use Rattle.judgement.proofs.turns.judge_room.Goals as goal

pub returns-in_err-judge_output : goal.returns-in_err-judge_output
returns-in_err-judge_output c = first_refused c.from_residual.result _ c.from_residual.ensures.1 _ _ (grind arith)

pub returns : goal.returns
returns c = second_given c.judge_output-2.result _ _ (grind arith) (grind arith)
