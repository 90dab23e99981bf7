-- `groups::go_through` meets its contract: the groups passed are divided, and the column holds what each member has from them.
-- Assumes nothing.
use Rattle.groups.specs.Lists.{pots_in}
use Rattle.groups.specs.Steps.{Summed}
use Rattle.groups.proofs.go_through.Given as goal

abbrev pub invariant-loop-z : goal.invariant-loop-z
invariant-loop-z l = Summed (pots_in l.lists) l.z l.column
