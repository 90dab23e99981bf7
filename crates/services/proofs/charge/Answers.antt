-- `services::charge` meets its contract: the lists that are divided hold the tables' columns, the zones' pots and the accounts' parts
-- of use.
-- Assumes nothing.
use mathlib.Core.Path.{◌≡◌}
use mathlib.Core.List.{List}
use Prim.Native.Nat.{ℕ, ◌≤◌, ◌<◌}
use native.Mathlib.Nat.{le_trans}
use lib.ListN.{replicate}
use Rattle.lists.specs.Entries.{put}
use Rattle.service.specs.Service.{Service}
use Rattle.tables.specs.declared.Table.TheVariants.{Zones, Accounts}
use Rattle.tables.specs.Shape.{rows, limit, Tables}
use Rattle.columns.proofs.Fronts.{stored_front}
use Rattle.pool.specs.Filled.{most_use}
use Rattle.services.specs.Settled.{Usable}
use Rattle.services.specs.Steps.{service_lent, PartsFilled}
use Rattle.services.proofs.Serving.{parts_within, Lists, lent, served_from}
use Rattle.services.proofs.charge.Goals as goal

-- where all columns are filled, in arrays with a word for each zone, or account, that there may be
lists_of : {s : Service} {zonecount count : ℕ} {pots numbers zoneparts nonzoneparts accountzones : List ℕ}
    → PartsFilled s (replicate (limit Accounts) 0) zoneparts (replicate (limit Accounts) 0) nonzoneparts
    → pots ≡ put s.zones s.pot (replicate (limit Zones) 0) → numbers ≡ put s.zones s.zone_number (replicate (limit Zones) 0)
    → accountzones ≡ put s.accounts s.zone_of (replicate (limit Accounts) 0)
    → s.zones ≤ limit Zones → s.accounts ≤ limit Accounts → zonecount ≡ s.zones → count ≡ s.accounts
    → Lists s zonecount count pots numbers zoneparts nonzoneparts accountzones
lists_of parts pots numbers accountzones few_zones few zones accounts =
    record {
      pots_front = stored_front _ _ _ pots few_zones zones;
      numbers_front = stored_front _ _ _ numbers few_zones zones;
      zoneparts_front = stored_front _ _ _ parts.zone_parts few accounts;
      nonzoneparts_front = stored_front _ _ _ parts.nonzone_parts_lem few accounts;
      accountzones_front = stored_front _ _ _ accountzones few accounts;
    }

-- no part of an account's use is large
parts_small : {t : Tables} {networks energies : List ℕ} → Usable t networks energies → (unitcredits : List ℕ) (a : ℕ)
    → a < rows Accounts t.accounts
    → let s = service_lent t networks energies unitcredits in (s.zone_part a ≤ most_use) × (s.nonzone_part a ≤ most_use)
parts_small usable unitcredits a b =
    let within = usable.within a b in
    let parts = parts_within _ _ _ _ in (le_trans parts.0 within, le_trans parts.1 within)

pub invariant_of-lists : goal.invariant_of-lists
invariant_of-lists c =
    let lists =
    lists_of c.fill_parts.ensures c.sums_in.ensures c.copy.ensures c.copy-2.ensures c.requires.tables_bound.0
    c.requires.usable.0.few c.rows_of-zonecount.ensures c.rows_of-count.ensures in
    record { together = lent lists c.requires.usable.0.few c.requires.tables_bound.0 (parts_small c.requires.usable.0 c.args.unitcredits.now) }

pub returns : goal.returns
returns c =
    let lists =
    lists_of c.fill_parts.ensures c.sums_in.ensures c.copy.ensures c.copy-2.ensures c.requires.tables_bound.0
    c.requires.usable.0.few c.rows_of-zonecount.ensures c.rows_of-count.ensures in
    served_from lists c.args.place c.charge.ensures
