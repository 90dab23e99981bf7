-- What an account pays and what an owner has, in the paper's words: the accounts or owners of a zone are a list of their own, and each
-- has its share at its place among them.
-- Assumes nothing.
use Rattle.std.specs.Prelude.{◌≡◌, ◌≢◌, ℕ, ◌+◌, ◌-◌, ◌*◌, ◌/◌, ◌<◌, Bool, cond, ◌||◌, eqb}
use Rattle.lists.specs.Sums.{at, when, count, sum_to, sum_where}
use Rattle.lists.specs.Entries.{kept}
use Rattle.division.specs.Shares.{shares}
use Rattle.service.specs.Service.{zone_side, nonzone_pot}
use Rattle.tables.specs.Columns.{zone_number, zone_rate, owner_number, owner_zone, owner_requirement, unit_owner, unit_zone, unit_service, unit_requirement, unit_reserve, account_number, account_zone}
use Rattle.month.specs.Quantities as month
use Rattle.pool.specs.Input.{Input, head_of, zone_count, owner_count, unit_count, account_count}
use Rattle.pool.specs.Accounts.{contributions, account_use, network_use, energy_use}
use Rattle.pool.specs.Network.{network_charge, charges_in, network_credit, requirements, nonzone_credit}
use Rattle.pool.specs.Services.{unit_credit, service_credit, zone_credits, service_in, service_charge}
use Rattle.firm.specs.Firm.{terms_of, firm_charge, firm_credit}
use Rattle.firm.specs.Own.{days_in, others_of, cost_of}
use Rattle.settlement.specs.Accepted.{IsService}

-- "its owners", "that zone's accounts": whether row i, of rows with a zone each, is one of the zone's
abbrev pub is_of : (ℕ → ℕ) → ℕ → ℕ → Bool
is_of zone_of zone i = eqb (zone_of i) zone

-- of n rows with a weight each: what row i has of a pot that is divided among the rows for which a test holds, which are a list of
-- their own, at its place in it
abbrev pub share_among : ℕ → (ℕ → Bool) → (ℕ → ℕ) → ℕ → ℕ → ℕ
share_among n test weight pot i = at (shares pot (kept n test weight)) (count i test)

module _ (m : Input) where
  open m.tables use {zones, owners, units, accounts, firm}

  -- ".. among that zone's accounts by use"
  abbrev pub among_accounts : ℕ → ℕ → ℕ → ℕ
  among_accounts pot zone = share_among (account_count m) (is_of (account_zone accounts) zone) (account_use m) pot

  -- ".. among its owners by requirement"
  abbrev pub among_owners : ℕ → ℕ → ℕ → ℕ
  among_owners pot zone = share_among (owner_count m) (is_of (owner_zone owners) zone) (owner_requirement owners) pot

  -- "where a zone has no unit with a nonzero credit this month": that the zone with a number has no requirement of a service, whatever
  -- the annual requirements of its units
  abbrev pub WithoutRequirement : ℕ → ℕ → Type 0
  WithoutRequirement s zone = (u : ℕ) → u < unit_count m → unit_zone units u ≡ zone → unit_service units u ≡ s → unit_credit m u ≡ 0

  -- "those accounts share in the non-zone pot beside zone 0's": whether account a is of zone 0 or of a zone whose units of the
  -- service have credits that add up to 0 ..
  abbrev pub is_sharer : ℕ → ℕ → Bool
  is_sharer s a = eqb (account_zone accounts a) 0 || eqb (zone_credits m s (account_zone accounts a)) 0

  -- .. by use in zone 0, and elsewhere by "the network part of its accounts' use"
  abbrev pub sharer_use : ℕ → ℕ
  sharer_use a = cond (eqb (account_zone accounts a) 0) (account_use m a) (network_use m a)

  abbrev pub among_sharers : ℕ → ℕ → ℕ → ℕ
  among_sharers s = share_among (account_count m) (is_sharer s) sharer_use

  -- what of account a's use is zone use and what is non-zone use: all of it is zone use where its zone has a requirement; where it has
  -- none, "the network part of its accounts' use counts as non-zone use" and "Reservations delivered in such a zone stay zone use"; in
  -- zone 0 all is non-zone use
  pub record Parted (s a : ℕ) : Type 0 where
    pub with_requirement : account_zone accounts a ≢ 0 → ¬ WithoutRequirement s (account_zone accounts a)
        → ((service_in m s).zone_part a ≡ account_use m a) × ((service_in m s).nonzone_part a ≡ 0)
    pub without_requirement : account_zone accounts a ≢ 0 → WithoutRequirement s (account_zone accounts a)
        → ((service_in m s).zone_part a ≡ energy_use m a) × ((service_in m s).nonzone_part a ≡ network_use m a)
    pub in_zone_0 : account_zone accounts a ≡ 0 → ((service_in m s).zone_part a ≡ 0) × ((service_in m s).nonzone_part a ≡ account_use m a)

  -- "Network charge of an account: the sum of its month's contributions times the rate (its zone's, or the non-zone rate) .."
  pub record NetworkPaid (a : ℕ) : Type 0 where
    pub in_a_zone : (z : ℕ) → z < zone_count m → account_zone accounts a ≡ zone_number zones z
        → network_charge m a ≡ month.charge_at_rate (contributions m a) (zone_rate zones z)
    pub in_zone_0 : account_zone accounts a ≡ 0 → network_charge m a ≡ month.charge_at_rate (contributions m a) m.nonzone

  -- "The zone side is divided among that zone's accounts by use. The non-zone sides of all zones make one pot", divided among zone 0's
  -- accounts and those of zones without requirement: an account has its share of one or of the other
  pub record ServicePaid (s a : ℕ) : Type 0 where
    pub with_requirement : (z : ℕ) → z < zone_count m → account_zone accounts a ≡ zone_number zones z → ¬ WithoutRequirement s (zone_number zones z)
        → service_charge m s a ≡ among_accounts (zone_side (service_in m s) z) (zone_number zones z) a
    pub without_requirement : (z : ℕ) → z < zone_count m → account_zone accounts a ≡ zone_number zones z → WithoutRequirement s (zone_number zones z)
        → service_charge m s a ≡ among_sharers s (nonzone_pot (service_in m s)) a
    pub in_zone_0 : account_zone accounts a ≡ 0 → service_charge m s a ≡ among_sharers s (nonzone_pot (service_in m s)) a

  -- for firm service an account pays by its own rows, as lists of their own: what its daily rows cost, week by week, and what each other
  -- row costs
  abbrev pub FirmPaid : ℕ → Type 0
  FirmPaid a =
      firm_charge m a
      ≡ cost_of (terms_of (head_of m)) (days_in (terms_of (head_of m)) firm (account_number accounts a)) (others_of (terms_of (head_of m)) firm (account_number accounts a))

  -- all that account a pays
  pub record Paid (a : ℕ) : Type 0 where
    pub for_network : NetworkPaid a
    pub for_service : (s : ℕ) → IsService s → ServicePaid s a
    pub for_firm_lem : FirmPaid a

  -- "a zone's charges are divided among its owners by requirement. The charges of zone 0 are divided among all owners by requirement",
  -- "The owner is credited with the sum" of its units' months, and the firm charges "make one pot, divided among all owners by
  -- requirement": all that owner o has
  pub record Credited (o : ℕ) : Type 0 where
    pub of_its_zone : (z : ℕ) → z < zone_count m → owner_zone owners o ≡ zone_number zones z
        → network_credit m o ≡ among_owners (charges_in m (zone_number zones z)) (zone_number zones z) o
    pub of_zone_0 : nonzone_credit m o ≡ at (shares (charges_in m 0) (requirements m)) o
    pub of_its_units : (s : ℕ)
        → service_credit m s o
        ≡ sum_where (unit_count m) (unit_owner units)
        (λ u.
        when (eqb (unit_service units u) s)
        (unit_requirement units u * m.month / 12 - unit_requirement units u * (m.month - 1) / 12 + unit_reserve units u))
        (owner_number owners o)
    pub of_firm : firm_credit m o ≡ at (shares (sum_to (account_count m) (firm_charge m)) (requirements m)) o
