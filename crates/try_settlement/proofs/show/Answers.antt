-- `try_settlement::show` meets its contract: the case is passed, and what is shown lies within the lent bytes.
-- Assumes nothing.
use mathlib.Core.Path.{sym}
use Prim.Native.Nat.{◌≤◌}
use native.Mathlib.Nat.{le_trans, le_of_eq}
use lib.ListN.{length}
use lib.Seq.{length-take-le}
use Rattle.statement_lines.proofs.Showing.{fitting_within}
use Rattle.try_settlement.proofs.show.Goals as goal

pub slice_bounds-out-end : goal.slice_bounds-out-end
slice_bounds-out-end c =
    let inside : c.in-Ok.length ≤ length c.statement.new.out = le_trans (le_of_eq c.in-Ok.ensures.length_is) (le_trans (fitting_within _ _) (le_of_eq (sym c.statement.auto.out))) in
    inside

pub slice_bounds-write_all-end : goal.slice_bounds-write_all-end
slice_bounds-write_all-end c =
    let inside : c.in-Ok.length ≤ length c.statement.new.out = le_trans (le_of_eq c.in-Ok.ensures.length_is) (le_trans (fitting_within _ _) (le_of_eq (sym c.statement.auto.out))) in
    sym (length-take-le _ _ inside)
