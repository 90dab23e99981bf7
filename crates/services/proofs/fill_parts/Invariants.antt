-- `services::fill_parts` meets its contract: the accounts passed have their two parts.
-- Assumes nothing.
use mathlib.Core.Path.{◌≡◌}
use Rattle.lists.specs.Entries.{put}
use Rattle.tables.specs.Shape.{tables_now}
use Rattle.services.specs.Steps.{service_lent}
use Rattle.services.proofs.fill_parts.Given as goal

abbrev pub invariant-loop-i : goal.invariant-loop-i
invariant-loop-i l =
    let s = service_lent (tables_now l.tables) l.networks l.energies l.unitcredits in
    (l.zoneparts ≡ put l.i s.zone_part l.initial.zoneparts) × (l.nonzoneparts ≡ put l.i s.nonzone_part l.initial.nonzoneparts)
