-- A service by the uses that the paper's first words give: all use outside zone 0 is zone use, all use of zone 0 is non-zone use. What is
-- settled goes by `service_in`; this stands here to say what zones without requirement do not change.
-- Assumes nothing.
use Rattle.std.specs.Prelude.{ℕ, not, eqb}
use Rattle.lists.specs.Sums.{when}
use Rattle.service.specs.Service.{Service}
use Rattle.tables.specs.Columns.{zone_number, account_zone}
use Rattle.pool.specs.Input.{Input, zone_count, account_count}
use Rattle.pool.specs.Accounts.{account_use}
use Rattle.pool.specs.Services.{zone_pot}

-- "Zone use is the use of all accounts outside zone 0; non-zone use is that of zone 0"
abbrev pub former_service : Input → ℕ → Service
former_service m s =
    record {
      accounts = account_count m;
      zone_of = account_zone m.tables.accounts;
      zone_part = λ a. when (not (eqb (account_zone m.tables.accounts a) 0)) (account_use m a);
      nonzone_part = λ a. when (eqb (account_zone m.tables.accounts a) 0) (account_use m a);
      zones = zone_count m;
      zone_number = zone_number m.tables.zones;
      pot = zone_pot m s;
    }
