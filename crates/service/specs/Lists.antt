-- What the lists that go together, as one value, say: a service.
-- Assumes nothing.
use Rattle.service.specs.declared.together.ServiceLists.{ServiceLists}
use Rattle.service.specs.Service.{Service, service_of}

-- the zones and the accounts of these lists
abbrev pub service_in : ServiceLists → Service
service_in lists = service_of lists.pots.now lists.numbers.now lists.zoneparts.now lists.nonzoneparts.now lists.zones.now
