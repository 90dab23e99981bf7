-- What two months have in common whose statements are the same.
-- Assumes nothing.
use Rattle.std.specs.Prelude.{◌≡◌, ℕ, ◌<◌}
use Rattle.tables.specs.Shape.{charge_width, credit_width}
use Rattle.tables.specs.Columns.{owner_number, account_number}
use Rattle.pool.specs.Input.{Input, owner_count, account_count}
use Rattle.settlement.specs.Settled.{charge_of, credit_of}

-- as many rows, with the same number and the same figures in each
pub record SameRows (count count' width : ℕ) (number number' : ℕ → ℕ) (figure figure' : ℕ → ℕ → ℕ) : Type 0 where
  pub as_many : count ≡ count'
  pub same_number : (i : ℕ) → i < count → number i ≡ number' i
  pub same_figure : (column i : ℕ) → column < width → i < count → figure column i ≡ figure' column i

-- the same accounts with the same charges, and the same owners with the same credits
pub record SameFigures (m m' : Input) : Type 0 where
  pub charges :
      SameRows (account_count m) (account_count m') charge_width (account_number m.tables.accounts) (account_number m'.tables.accounts) (charge_of m) (charge_of m')
  pub credits :
      SameRows (owner_count m) (owner_count m') credit_width (owner_number m.tables.owners) (owner_number m'.tables.owners) (credit_of m) (credit_of m')
