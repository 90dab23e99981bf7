-- `service::charge_zone` meets its contract: the split answers where it is refused, else the share does.
-- Assumes nothing.
use Rattle.std.proofs.Common.{rules}
use Rattle.std.proofs.lemmas.Result.{err_from_is_err_and}
use Rattle.groups.specs.Groups.{weights_in}
use Rattle.service.proofs.Charging.{split_refused, share_refused, split_shared}
use Rattle.service.proofs.charge_zone.Goals as goal

pub returns-in_err-sides : goal.returns-in_err-sides
returns-in_err-sides c = search (rules, split_refused)

pub returns-in_err-placed : goal.returns-in_err-placed
unfolding weights_in
returns-in_err-placed c =
    let p = err_from_is_err_and c.from_residual-in_err-placed.result c.from_residual-in_err-placed.ensures.1 in
    rw (p.1, p.2)
    (share_refused c.split.ensures _ _ _ c.in_ok-sides.ensures _ _ _ c.divide_among-shared.ensures _ c.in_err-placed.ensures)

pub returns : goal.returns
unfolding weights_in
returns c = split_shared c.split.ensures _ _ _ c.in_ok-sides.ensures _ _ _ c.divide_among-shared.ensures _ c.in_ok-placed.ensures
