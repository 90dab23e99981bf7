-- `groups::each_group` meets its contract: the sums are made in words of its own, and stored where no group is refused.
-- Assumes nothing.
use mathlib.Core.Path.{refl}
use Rattle.groups.proofs.Storing.{written_all}
use Rattle.groups.proofs.Summing.{summed_none}
use Rattle.groups.proofs.each_group.Goals as goal

pub go_through-requires-clause-summed : goal.go_through-requires-clause-summed
go_through-requires-clause-summed c = summed_none _ c.args.lists.together.few_members

pub returns : goal.returns
returns c = written_all c.in_ok-go_through.ensures refl _ _ c.store.ensures
