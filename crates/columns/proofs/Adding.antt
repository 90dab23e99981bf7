-- A loop that adds up the values of the rows that have one number.
-- Assumes nothing.
use mathlib.Core.Path.{◌≡◌, sym}
use Prim.Native.Nat.{ℕ, ◌+◌, ◌<◌, ◌^◌}
use native.Mathlib.Nat.{le_trans, lt_of_le_of_lt, le_of_eq}
use native.Mathlib.Omega.{arith}
use lib.Dec.{eqb}
use Rattle.lists.specs.Sums.{when, sum_where}
use Rattle.lists.proofs.Sums.{sum_none, sum_suc, sum_within, where_le}
use Rattle.columns.specs.Columns.{SumFits}

module _ (number_of value : ℕ → ℕ) (number : ℕ) where
  pub where_none : sum_where 0 number_of value number ≡ 0
  unfolding sum_where
  where_none = sum_none _

  pub where_more : (i : ℕ) → sum_where (i + 1) number_of value number ≡ sum_where i number_of value number + when (eqb (number_of i) number) (value i)
  unfolding sum_where
  where_more i = sum_suc i _

  pub where_fits : (n i : ℕ) → i < n → SumFits n value → sum_where i number_of value number + when (eqb (number_of i) number) (value i) < 2 ^ 64
  where_fits n i b fits =
      lt_of_le_of_lt
      (le_trans (le_of_eq (sym (where_more i))) (le_trans (where_le (i + 1) number_of value number) (sum_within value (i + 1) n (omega arith))))
      fits
