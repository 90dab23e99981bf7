-- `settlement::settle` meets its contract: what the judgement refuses is refused, and the month that it hands on can be settled.
-- Assumes nothing.
use mathlib.Core.Path.{sym}
use Rattle.std.proofs.lemmas.Result.{err_from_is_err_and}
use Rattle.tables.specs.Shape.{Tables, tables_now}
use Rattle.settlement.proofs.Writing.{all_refused, handed_on, can_settle, all_settled}
use Rattle.settlement.proofs.settle.Goals as goal

pub returns-in_err-month : goal.returns-in_err-month
returns-in_err-month c =
    let a = c.args in
    let p = err_from_is_err_and c.from_residual.result c.from_residual.ensures.1 in
    rw (p.1, p.2)
    (all_refused a.head (tables_now a.tables) a.charges.now a.credits.now (sym c.in_err-month.ensures))

pub settle_good-requires : goal.settle_good-requires
settle_good-requires c =
    let a = c.args in
    let t : Tables = tables_now a.tables in
    let good = handed_on a.head t a.charges.now a.credits.now _ (sym c.in_ok-month.ensures) in
    record {
      settleable = can_settle a.head t a.charges.now a.credits.now _ (sym c.in_ok-month.ensures);
      outputs_fit = (good.frame.roomy.charges_fit, good.frame.roomy.credits_fit);
    }

pub returns : goal.returns
returns c =
    let a = c.args in
    all_settled a.head (tables_now a.tables) a.charges.now a.credits.now _ (sym c.in_ok-month.ensures) c.settle_good.ensures
