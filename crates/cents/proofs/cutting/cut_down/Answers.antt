-- `cents::cutting::cut_down` meets its contract: the fours and the rest are all weights.
-- Assumes nothing.
use native.Mathlib.Omega.{arith}
use Rattle.cents.proofs.Stretches.{cut_on, cut_to, cut_all, given_small}
use Rattle.cents.proofs.cutting.cut_down.Goals as goal

pub overflow_add-result : goal.overflow_add-result
overflow_add-result c =
    let a = c.args in
    let all = cut_on a.pot a.weights.now a.whole (cut_to a.pot a.weights.now a.whole (omega arith) c.cut_by-by_four.ensures) c.cut_by-by_one.ensures in
    omega (arith, given_small a.pot a.weights.now a.whole c.requires.base _ (omega arith) c.requires.room.few all)

pub returns : goal.returns
returns c =
    let a = c.args in
    cut_all a.pot a.weights.now a.whole _ _ _ _ _
    (cut_to a.pot a.weights.now a.whole (omega arith)
    (cut_on a.pot a.weights.now a.whole (cut_to a.pot a.weights.now a.whole (omega arith) c.cut_by-by_four.ensures) c.cut_by-by_one.ensures))
