-- The figures in the lent outputs by name, in the order in which the paper lists them.
-- Assumes nothing.
use Rattle.std.specs.Prelude.{ℕ, ◌+◌, ◌*◌, List}
use Rattle.lists.specs.Sums.{at}
use Rattle.tables.specs.Shape.{charge_width, credit_width}

-- "rows laid end to end": what row i of rows that are so wide has in a column
abbrev pub figure_at : ℕ → List ℕ → ℕ → ℕ → ℕ
figure_at width words column i = at words (i * width + column)

-- "every account row's three charges (network, black start, reactive)" and the firm one: those of account a
abbrev pub charged_network : List ℕ → ℕ → ℕ
charged_network charges a = figure_at charge_width charges 0 a

abbrev pub charged_black_start : List ℕ → ℕ → ℕ
charged_black_start charges a = figure_at charge_width charges 1 a

abbrev pub charged_reactive : List ℕ → ℕ → ℕ
charged_reactive charges a = figure_at charge_width charges 2 a

abbrev pub charged_firm : List ℕ → ℕ → ℕ
charged_firm charges a = figure_at charge_width charges 3 a

-- "every owner's four credits (network, non-zone network, black start, reactive)" and the firm one: those of owner o
abbrev pub credited_network : List ℕ → ℕ → ℕ
credited_network credits o = figure_at credit_width credits 0 o

abbrev pub credited_nonzone : List ℕ → ℕ → ℕ
credited_nonzone credits o = figure_at credit_width credits 1 o

abbrev pub credited_black_start : List ℕ → ℕ → ℕ
credited_black_start credits o = figure_at credit_width credits 2 o

abbrev pub credited_reactive : List ℕ → ℕ → ℕ
credited_reactive credits o = figure_at credit_width credits 3 o

abbrev pub credited_firm : List ℕ → ℕ → ℕ
credited_firm credits o = figure_at credit_width credits 4 o
