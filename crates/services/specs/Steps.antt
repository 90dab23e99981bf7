-- What the functions of this crate say among themselves.
-- Assumes nothing.
use Rattle.std.specs.Prelude.{◌≡◌, ℕ, List}
use Rattle.lists.specs.Sums.{sum_where, at}
use Rattle.lists.specs.Entries.{put}
use Rattle.service.specs.Service.{Service}
use Rattle.tables.specs.declared.Table.TheVariants.{Units}
use Rattle.tables.specs.Shape.{rows, Tables}
use Rattle.tables.specs.Columns.{unit_zone}
use Rattle.pool.specs.Services.{service_over}

-- the credits of the units of the zone with a number, from a column with each unit's
abbrev pub credits_from : Tables → List ℕ → ℕ → ℕ
credits_from t unitcredits zone = sum_where (rows Units t.units) (unit_zone t.units) (at unitcredits) zone

-- a service over the columns that are lent: the two parts of each account's use, and each unit's credit
abbrev pub service_lent : Tables → List ℕ → List ℕ → List ℕ → Service
service_lent t networks energies unitcredits = service_over t (at networks) (at energies) (credits_from t unitcredits)

-- each account's two parts of use in a service are written
pub record PartsFilled (s : Service) (zoneparts zoneparts_after nonzoneparts nonzoneparts_after : List ℕ) : Type 0 where
  pub zone_parts : zoneparts_after ≡ put s.accounts s.zone_part zoneparts
  pub nonzone_parts_lem : nonzoneparts_after ≡ put s.accounts s.nonzone_part nonzoneparts
