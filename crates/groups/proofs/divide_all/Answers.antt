-- `groups::divide_all` meets its contract: the front of the words lent to the division are the shares, and each is added.
-- Assumes nothing.
use Rattle.std.proofs.lemmas.Result.{err_from_is_err_and}
use Rattle.answer.proofs.Results.{refusal_number_some}
use Rattle.groups.proofs.Adding.{refused_adds_none, ready_to_add, accepted_adds}
use mathlib.Core.Path.{refl}
use Rattle.groups.proofs.divide_all.Goals as goal

pub returns-in_err-divide : goal.returns-in_err-divide
returns-in_err-divide c =
    let p = err_from_is_err_and c.from_residual.result c.from_residual.ensures.1 in
    rw (p.1, p.2) (refused_adds_none c.in_err-divide.ensures c.requires.few c.requires.few _ (refusal_number_some _))

pub add-requires-clause-by_index : goal.add-requires-clause-by_index
add-requires-clause-by_index c =
    ready_to_add c.in_ok-divide.ensures c.requires.few c.requires.few refl _ c.requires

pub returns : goal.returns
returns c = accepted_adds c.in_ok-divide.ensures c.requires.few c.requires.few refl _ _ c.add.ensures
