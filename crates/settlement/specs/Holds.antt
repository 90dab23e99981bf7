-- A column of words, and the figures that it holds.
-- Assumes nothing.
use Rattle.std.specs.Prelude.{◌≡◌, ℕ, ◌≤◌, ◌<◌, List, length}
use Rattle.lists.specs.Sums.{at}

-- a column's first words are f 0, f 1, .. f (n − 1)
pub record Holds (n : ℕ) (f : ℕ → ℕ) (column : List ℕ) : Type 0 where
  pub long : n ≤ length column
  pub words : (i : ℕ) → i < n → at column i ≡ f i
