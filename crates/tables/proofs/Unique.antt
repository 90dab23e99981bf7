-- Two answers that a contract allows are equal: each contract says what the answer is equal to.
-- Assumes nothing.
use mathlib.Core.Path.{◌≡◌}
use mathlib.Core.List.{List}
use Prim.Native.Nat.{ℕ, ◌/◌}
use Rattle.lists.proofs.Unique.{one_answer}
use Rattle.std.specs.Prelude.{Result}
use Rattle.answer.specs.declared.Part.{Part}
use Rattle.answer.specs.declared.Refused.{Refused}
use Rattle.answer.specs.Results.{Answers}
use Rattle.answer.proofs.Results.{answers_unique}
use Rattle.tables.specs.declared.Table.{Table}
use Rattle.tables.specs.Shape.{number, part, table_at, place_of, width, key_columns, limit, tables_from}
use Rattle.tables.specs.Columns.{entry}
use Rattle.tables.specs.Counts.{counts_in_turn}

pub number_unique : (table : Table) (r s : ℕ) → r ≡ number table → s ≡ number table → r ≡ s
number_unique table r s = one_answer _ r s

pub part_unique : (table : Table) (r s : Part) → r ≡ part table → s ≡ part table → r ≡ s
part_unique table r s = one_answer _ r s

pub width_unique : (table : Table) (r s : ℕ) → r ≡ width table → s ≡ width table → r ≡ s
width_unique table r s = one_answer _ r s

pub limit_unique : (table : Table) (r s : ℕ) → r ≡ limit table → s ≡ limit table → r ≡ s
limit_unique table r s = one_answer _ r s

pub rows_in_unique : (table : Table) (words r s : ℕ) → r ≡ words / width table → s ≡ words / width table → r ≡ s
rows_in_unique table words r s = one_answer _ r s

pub entry_unique : (table : Table) (column : ℕ) (words : List ℕ) (i r s : ℕ) → r ≡ entry table column words i → s ≡ entry table column words i → r ≡ s
entry_unique table column words i r s = one_answer _ r s

pub table_at_unique : (place : ℕ) (r s : Table) → r ≡ table_at place → s ≡ table_at place → r ≡ s
table_at_unique place r s = one_answer _ r s

pub place_of_unique : (table : Table) (r s : ℕ) → r ≡ place_of table → s ≡ place_of table → r ≡ s
place_of_unique table r s = one_answer _ r s

pub key_columns_unique : (table : Table) (r s : ℕ) → r ≡ key_columns table → s ≡ key_columns table → r ≡ s
key_columns_unique table r s = one_answer _ r s

pub count_tables_unique : (tables : List (List ℕ)) (r s : Result (Unit {0}) Refused) → Answers r (counts_in_turn (tables_from tables)) → Answers s (counts_in_turn (tables_from tables)) → r ≡ s
count_tables_unique tables r s = answers_unique r s _
