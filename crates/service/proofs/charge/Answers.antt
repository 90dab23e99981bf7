-- `service::charge` meets its contract: the charges are made in words of its own, and stored where no division is refused.
-- Assumes nothing.
use mathlib.Core.Path.{refl}
use Rattle.groups.proofs.Storing.{written_all}
use Rattle.groups.proofs.Summing.{summed_none}
use Rattle.service.proofs.charge.Goals as goal

pub charge_all-requires-clause-summed : goal.charge_all-requires-clause-summed
charge_all-requires-clause-summed c = summed_none _ c.args.lists.together.together.few_members

pub returns : goal.returns
returns c = written_all c.in_ok-charge_all.ensures refl _ _ c.store.ensures
