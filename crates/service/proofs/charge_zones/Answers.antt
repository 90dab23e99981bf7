-- `service::charge_zones` meets its contract: the zones passed are charged, and their non-zone sides added up.
-- Assumes nothing.
use native.Mathlib.Omega.{arith}
use Rattle.std.proofs.lemmas.Result.{err_from_is_err_and}
use Rattle.groups.proofs.Summing.{summed_room}
use Rattle.groups.specs.Groups.{weights_in}
use Rattle.service.proofs.Charging.{zone_by_uses, charged_none, nonzone_fits, nonzone_next, charged_more, charged_stop, charged_all}
use Rattle.service.proofs.charge_zones.Goals as goal

pub loop-z-init : goal.loop-z-init
loop-z-init c = charged_none _ _ c.requires.summed

pub charge_zone-requires-clause-addable : goal.charge_zone-requires-clause-addable
charge_zone-requires-clause-addable c = summed_room c.loop-z.invariant.summed (omega (arith, c.args.lists.together.together.few_groups))

pub returns-in_err-sides : goal.returns-in_err-sides
unfolding weights_in
returns-in_err-sides c =
    let p = err_from_is_err_and c.from_residual.result c.from_residual.ensures.1 in
    let one = zone_by_uses c.args.lists.together c.sum_capped-zone.ensures c.sum_capped-nonzone.ensures _ _ _ _ _ c.in_err-sides.ensures in
    rw (p.1, p.2) (charged_stop c.loop-z.invariant _ _ _ one c.loop-z-test.true)

pub overflow_add-sides : goal.overflow_add-sides
unfolding weights_in
overflow_add-sides c =
    let one = zone_by_uses c.args.lists.together c.sum_capped-zone.ensures c.sum_capped-nonzone.ensures _ _ _ _ _ c.in_ok-sides.ensures in
    record {
      fits =
          omega (
            arith,
            nonzone_fits c.loop-z.invariant,
            nonzone_next c.loop-z.invariant _ _ _ one,
            c.args.lists.together.together.few_groups,
          );
    }

pub loop-z-preserved : goal.loop-z-preserved
unfolding weights_in
loop-z-preserved c =
    let one = zone_by_uses c.args.lists.together c.sum_capped-zone.ensures c.sum_capped-nonzone.ensures _ _ _ _ _ c.in_ok-sides.ensures in
    charged_more c.loop-z.invariant _ _ _ one

pub returns : goal.returns
returns c = charged_all c.loop-z.invariant _ c.loop-z-test.false c.loop-z.auto.z-end
