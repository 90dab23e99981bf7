-- `settlement::divide_month` meets its contract: the parts answer in turn, and the columns that are lent to them hold the month's
-- figures.
-- Assumes nothing.
use mathlib.Core.Path.{refl, sym, ap}
use mathlib.Core.List.{List}
use Prim.Native.Nat.{ℕ, ◌+◌, ◌*◌}
use native.Mathlib.Omega.{arith}
use lib.ListN.{replicate}
use Rattle.tables.specs.declared.Table.TheVariants.{Accounts}
use Rattle.tables.specs.Shape.{limit}
use Rattle.columns.specs.Blocks.{column_at}
use Rattle.pool.specs.Input.{Input}
use Rattle.pool.specs.Filled.{accounts_input, AccountsFilled}
use Rattle.pool.proofs.Crediting.{and_answer}
use Rattle.settlement.specs.Steps.{Settleable, Working}
use Rattle.settlement.proofs.Settling.{first_long, account_column, new_whole, Begun, whole₁, divisible, servable, whole₂, whole₃, reservable, month_divided}
use Rattle.settlement.proofs.divide_month.Goals as goal

-- where the accounts' first column and the two parts of their use are filled
begun : {m : Input} {accounts₀ owners₀ charges networks energies : List ℕ} → Settleable m × Working accounts₀ owners₀
    → AccountsFilled (accounts_input m.nonzone m.tables) (column_at (limit Accounts) 0 accounts₀) charges
    (replicate (limit Accounts) 0) networks (replicate (limit Accounts) 0) energies
    → Begun m accounts₀ owners₀ charges (replicate (limit Accounts) 0) networks energies
begun pre filled = record { can = pre.0; new = pre.1; filled = filled; room = pre.0.fillable.few }

pub slice_bounds-fill-end-2 : goal.slice_bounds-fill-end-2
slice_bounds-fill-end-2 c = sym (first_long (new_whole c.requires.1))

pub fill-requires : goal.fill-requires
fill-requires c =
    let pre = c.requires in
    let few = pre.0.fillable.few in record {
      fillable = pre.0.fillable;
      room_for_rows = (account_column _ pre.0 (new_whole pre.1) 0 (omega arith), few, few);
    }

pub slice_bounds-credit-end-2 : goal.slice_bounds-credit-end-2
slice_bounds-credit-end-2 c = sym (first_long (whole₁ (begun c.requires c.fill.ensures)))

pub slice_bounds-credit-end-4 : goal.slice_bounds-credit-end-4
slice_bounds-credit-end-4 c = sym (divisible (begun c.requires c.fill.ensures)).1.long

pub credit-network-requires : goal.credit-network-requires
credit-network-requires c = divisible (begun c.requires c.fill.ensures)

pub settle-black_start-requires : goal.settle-black_start-requires
settle-black_start-requires c =
    let b = begun c.requires c.fill.ensures in
    let can = servable b (whole₂ b c.credit-network.ensures) 1 2 (omega arith) (omega arith) in
    record {
      creditable = (can.0.0, can.0.1, omega (arith, c.rows_of-count.ensures, can.0.0.few_zones));
      room_for_rows = (can.1, can.2);
    }

pub settle-reactive-requires : goal.settle-reactive-requires
settle-reactive-requires c =
    let b = begun c.requires c.fill.ensures in
    let can = servable b (whole₃ b c.credit-network.ensures c.settle-black_start.ensures) 2 3 (omega arith) (omega arith) in
    record {
      creditable = (can.0.0, can.0.1, omega (arith, c.rows_of-count.ensures, can.0.0.few_zones));
      room_for_rows = (can.1, can.2);
    }

pub settle-firm-requires : goal.settle-firm-requires
settle-firm-requires c =
    reservable (begun c.requires c.fill.ensures) c.credit-network.ensures c.settle-black_start.ensures c.settle-reactive.ensures

pub returns : goal.returns
returns c =
    let b = begun c.requires c.fill.ensures in
    month_divided b c.credit-network.ensures c.settle-black_start.ensures c.settle-reactive.ensures c.settle-firm.ensures refl refl
    (ap (λ k. k + 1) c.rows_of-count.ensures) (ap (λ k. 3 * k + 2) c.rows_of-count.ensures) (ap (λ k. 5 * k + 3) c.rows_of-count.ensures)
    (rw (c.and-3.ensures, and_answer, c.and-2.ensures, and_answer, c.and.ensures, and_answer))
