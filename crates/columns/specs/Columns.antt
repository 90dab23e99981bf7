-- A column of one of a month's tables, and what the rows that have a number add up to.
-- Assumes nothing.
use Rattle.std.specs.Prelude.{ℕ, ◌≤◌, ◌<◌, ◌^◌, List, length}
use Rattle.lists.specs.Sums.{sum_to, sum_where, at}
use Rattle.tables.specs.declared.Table.{Table}
use Rattle.tables.specs.Shape.{rows, Tables, words_of}
use Rattle.tables.specs.Columns.{entry}

-- how many rows a table of the month has
abbrev pub rows_of : Tables → Table → ℕ
rows_of t table = rows table (words_of t table)

-- the entry of row i in a column of it
abbrev pub entry_of : Tables → Table → ℕ → ℕ → ℕ
entry_of t table column i = entry table column (words_of t table) i

-- a column of the rows that begin with a number, added up
abbrev pub sum_of : Tables → Table → ℕ → ℕ → ℕ
sum_of t table column number = sum_where (rows_of t table) (entry_of t table 0) (entry_of t table column) number

-- values, one for each row, of the rows that have a number in a column, added up
abbrev pub sum_in : Tables → Table → ℕ → List ℕ → ℕ → ℕ
sum_in t table column values number = sum_where (rows_of t table) (entry_of t table column) (at values) number

-- n values that add up to a word
abbrev pub SumFits : ℕ → (ℕ → ℕ) → Type 0
SumFits n value = sum_to n value < 2 ^ 64

-- a column of words, one for each of n rows, that add up to a word
pub record Summable (n : ℕ) (column : List ℕ) : Type 0 where
  pub long : n ≤ length column
  pub fits : SumFits n (at column)
