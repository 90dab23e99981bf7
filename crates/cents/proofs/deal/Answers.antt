-- `cents::deal` meets its contract: what `cut_down` and `hand_out` store is what each position gets.
-- Assumes nothing.
use native.Mathlib.Nat.{le_of_eq, le_trans}
use Rattle.cents.proofs.Bounds.{given_within}
use Rattle.cents.proofs.Dealing.{ready, dealt_out}
use Rattle.cents.proofs.deal.Goals as goal

pub overflow_sub-pot : goal.overflow_sub-pot
overflow_sub-pot c =
    le_trans
    (le_of_eq c.cut_down-given.ensures.given)
    (given_within c.args.pot c.args.weights.now c.args.whole c.requires.base)

pub hand_out-requires-clause-by_index : goal.hand_out-requires-clause-by_index
hand_out-requires-clause-by_index c =
    (ready _ _ _ _ _ _ _ _ c.requires.base c.requires.weights_len_bound.0 c.requires.weights_len_bound.1 c.requires.weights_len_bound.0 c.cut_down-given.ensures).1

pub returns : goal.returns
returns c =
    dealt_out _ _ _ _ _ _ _ _ c.requires.base c.requires.weights_len_bound.0 c.requires.weights_len_bound.1 c.requires.weights_len_bound.0
    c.cut_down-given.ensures
    c.hand_out.new.out
    c.hand_out.ensures
