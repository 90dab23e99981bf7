-- What the parts of `write` say among themselves. A reader who wants to know what is promised of `write` needs none of it.
-- Assumes nothing.
use Rattle.std.specs.Prelude.{◌≡◌, List, ℕ, ◌/◌, ◌^◌, ◌<◌, length}
use Rattle.tables.specs.declared.Table.{Table}
use Rattle.tables.specs.Shape.{width}

-- how many whole rows a table has, which is less than the most words that can be lent
pub record RowsCounted (table : Table) (words : List ℕ) (r : ℕ) : Type 0 where
  pub count_is : r ≡ length words / width table
  pub few : r < 2 ^ 60
