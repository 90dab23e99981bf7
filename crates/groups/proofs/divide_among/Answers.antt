-- `groups::divide_among` meets its contract: what it divides by is the list of the group's weights.
-- Assumes nothing.
use mathlib.Core.Path.{subst}
use Rattle.groups.specs.Columns.{Added}
use Rattle.answer.specs.Results.{result_number}
use Rattle.groups.proofs.Adding.{kept_front}
use Rattle.groups.proofs.divide_among.Goals as goal

pub returns : goal.returns
returns c =
    let divided = c.divide_all in
    subst (λ l. Added c.args.pot l c.args.column.now divided.new.column (result_number divided.result))
    (kept_front c.keep.ensures c.requires.addable.few) divided.ensures
