-- When a month is accepted, without any order of looking: its input is good, and every division can be made.
-- Assumes nothing.
use Rattle.std.specs.Prelude.{◌≡◌, ◌⊎◌, ℕ, ◌<◌}
use Rattle.lists.specs.Sums.{total}
use Rattle.division.specs.Refused.{FineSize}
use Rattle.groups.specs.Groups.{weights_in}
use Rattle.service.specs.Turn as service
use Rattle.tables.specs.Columns.{zone_number}
use Rattle.month.specs.Limits.{black_start, reactive}
use Rattle.judgement.specs.Good.{GoodMonth}
use Rattle.pool.specs.Input.{Input, head_of, zone_count}
use Rattle.pool.specs.Network.{charges_in, network_pots, requirements}
use Rattle.pool.specs.Services.{service_in}
use Rattle.firm.specs.Firm.{firm_pot}

-- an input that keeps every rule of the tables; the numbers are the lengths of the lent outputs
abbrev pub GoodInput : Input → ℕ → ℕ → Type 0
GoodInput m lent_charges lent_credits = GoodMonth (head_of m) m.tables lent_charges lent_credits

-- "Service is 1 black start or 2 reactive"
abbrev pub IsService : ℕ → Type 0
IsService s = (s ≡ black_start) ⊎ (s ≡ reactive)

-- "a zone's charges are divided among its owners by requirement": the sizes of zone z's network division can be divided ..
abbrev pub FineNetworkZone : Input → ℕ → Type 0
FineNetworkZone m z = FineSize (charges_in m (zone_number m.tables.zones z)) (total (weights_in (network_pots m) z))

-- .. and those of "the charges of zone 0", which "are divided among all owners by requirement"
abbrev pub FineNetworkNonzone : Input → Type 0
FineNetworkNonzone m = FineSize (charges_in m 0) (total (requirements m))

-- the network divisions of the zones before zone z are fine
abbrev pub ZonesFine : Input → ℕ → Type 0
ZonesFine m z = (y : ℕ) → y < z → FineNetworkZone m y

-- all network divisions are
pub record NetworkFine (m : Input) : Type 0 where
  pub zones_fine : ZonesFine m (zone_count m)
  pub nonzone_fine : FineNetworkNonzone m

-- both services are
abbrev pub ServicesFine : Input → Type 0
ServicesFine m = (s : ℕ) → IsService s → service.ServiceFine (service_in m s)

-- the firm division is: "All charges make one pot, divided among all owners by requirement"
abbrev pub FineFirm : Input → Type 0
FineFirm m = FineSize (firm_pot m) (total (requirements m))

-- the input is good, and every division is fine
pub record Accepted (m : Input) (lent_charges lent_credits : ℕ) : Type 0 where
  pub good : GoodInput m lent_charges lent_credits
  pub network_fine : NetworkFine m
  pub service_fine : ServicesFine m
  pub firm_fine : FineFirm m
