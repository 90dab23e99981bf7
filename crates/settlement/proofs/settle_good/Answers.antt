-- `settlement::settle_good` meets its contract: the outputs are written where every division is fine, and not before.
-- Assumes nothing.
use borrow.Author.Rules.{rules}
use mathlib.Core.Path.{refl}
use Prim.Native.Nat.{◌*◌}
use Rattle.tables.specs.declared.Table.TheVariants.{Owners}
use Rattle.tables.specs.Shape.{limit, credit_width, tables_now}
use Rattle.columns.proofs.Blocks.{new_zeros}
use Rattle.settlement.specs.Steps.{month_with}
use Rattle.settlement.proofs.Writing.{settled_accepted}
use Rattle.settlement.proofs.settle_good.Goals as goal

pub divide_month-requires : goal.divide_month-requires
divide_month-requires c = (c.requires.settleable, record { for_accounts_lem = refl; for_owners = refl; new = new_zeros (credit_width * limit Owners) })

pub returns : goal.returns
returns c =
    settled_accepted (month_with c.args.month c.args.head (tables_now c.args.tables)) c.divide_month.ensures (search rules)
    c.rows_of.ensures c.rows_of-2.ensures c.lay.ensures c.lay-2.ensures
