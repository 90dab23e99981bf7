-- `services::settle` meets its contract: the column between holds the credits of the service's units.
-- Assumes nothing.
use Rattle.tables.specs.Shape.{tables_now}
use Rattle.services.proofs.Serving.{credits_summable, zones_credited, owners_credited, served_same}
use Rattle.services.proofs.settle.Goals as goal

pub sums_in-requires-clause-column_fits : goal.sums_in-requires-clause-column_fits
sums_in-requires-clause-column_fits c =
    let can = c.requires.creditable.0 in credits_summable _ _ can _ _ _ can.few_units c.fill_credits.ensures

pub charge-requires-clause-usable : goal.charge-requires-clause-usable
charge-requires-clause-usable c =
    let can = c.requires.creditable.0 in (c.requires.creditable.1, credits_summable _ _ can _ _ _ can.few_units c.fill_credits.ensures)

pub returns : goal.returns
returns c =
    let can = c.requires.creditable.0 in
    let t = tables_now c.args.tables in
    record {
      served = served_same t _ _ _ _ c.args.place (zones_credited _ _ can _ _ _ can.few_units c.fill_credits.ensures) c.charge.ensures;
      credited = owners_credited _ _ can _ _ _ can.few_units c.fill_credits.ensures c.args.credits.now c.sums_in.ensures;
    }
