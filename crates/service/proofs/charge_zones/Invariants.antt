-- `service::charge_zones` meets its contract: the zones passed are charged, and their non-zone sides added up.
-- Assumes nothing.
use Rattle.service.specs.Lists.{service_in}
use Rattle.service.specs.Steps.{Charged}
use Rattle.service.proofs.charge_zones.Given as goal

abbrev pub invariant-loop-z : goal.invariant-loop-z
invariant-loop-z l = Charged (service_in l.lists) l.z l.sides l.column
