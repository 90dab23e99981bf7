-- `groups::go_through` meets its contract: the groups passed are divided, and the column holds what each member has from them.
-- Assumes nothing.
use mathlib.Core.Path.{ap}
use native.Mathlib.Omega.{arith}
use Rattle.std.proofs.lemmas.Result.{err_from_is_err_and}
use Rattle.answer.specs.Results.{result_number}
use Rattle.groups.specs.Groups.{weights_in}
use Rattle.groups.proofs.Placing.{placed_found}
use Rattle.groups.proofs.Summing.{summed_room, summed_more, summed_stop, summed_all}
use Rattle.groups.proofs.go_through.Goals as goal

pub divide_among-divided-requires-clause-addable : goal.divide_among-divided-requires-clause-addable
divide_among-divided-requires-clause-addable c = summed_room c.loop-z.invariant (omega (arith, c.args.lists.together))

pub returns-in_err-placed : goal.returns-in_err-placed
unfolding weights_in
returns-in_err-placed c =
    let p = err_from_is_err_and c.from_residual.result c.from_residual.ensures.1 in
    rw (p.1, p.2)
    (summed_stop c.loop-z.invariant _ c.loop-z-test.true _ _ _ c.divide_among-divided.ensures c.in_err-placed.ensures)

pub loop-z-preserved : goal.loop-z-preserved
unfolding weights_in
loop-z-preserved c =
    summed_more c.loop-z.invariant _ _ c.divide_among-divided.ensures
    (ap result_number (placed_found _ _ _ _ c.in_ok-placed.ensures))

pub returns : goal.returns
returns c = summed_all c.loop-z.invariant _ c.loop-z-test.false c.loop-z.auto.z-end
