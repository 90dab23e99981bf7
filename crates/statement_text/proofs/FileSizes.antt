-- The file of a good month has at most 52,793 bytes, since every entry has its range and every table its limit.
-- Assumes nothing.
use mathlib.Core.Path.{subst, sym}
use mathlib.Core.List.{List, [], ◌∷◌, ◌++◌, map}
use Prim.Native.Nat.{ℕ, zero, suc, ◌+◌, ◌*◌, ◌≤◌, ◌<◌}
use native.Mathlib.Nat.{le_trans, div-mul-le_self, mul-le-mul_right}
use native.Mathlib.Omega.{arith}
use lib.ListN.{length, drop, length-append}
use lib.Seq.{get_or-drop}
use Rattle.lists.specs.Sums.{sum_to, at}
use Rattle.text.specs.Bytes.{bytes}
use Rattle.text.specs.Numbers.{decimal}
use Rattle.text.specs.Lines.{line_text}
use Rattle.tables.specs.declared.Head.{Head}
use Rattle.tables.specs.declared.Table.{Table}
use Rattle.tables.specs.declared.Table.TheVariants.{Zones, Owners, Units, Accounts, Loads, Reservations, Firm}
use Rattle.tables.specs.Shape.{width, limit, rows, Tables, words_of}
use Rattle.tables.specs.Columns.{entry}
use Rattle.month.proofs.Months.{InYear, month_within}
use Rattle.month.proofs.Promises.{month_exactly}
use Rattle.judgement.specs.Good.{HeadInRange, GoodMonth}
use Rattle.fileform.specs.Each.{in_order}
use Rattle.fileform.specs.Form.{head_count, line_key, kind_of, month_form}
use Rattle.fileform.specs.Reading.{rows_in_all}
use Rattle.fileform.specs.Writing.{rows_text, heads_text, tables_text, file_text}
use Rattle.filewrite.specs.Calls.{numbers_of, whole_rows, all_rows, month_text}
use Rattle.statement_text.proofs.Widths.{line_size, decimal_below, line_within, rows_within}

-- how many digits an entry in a column of each table can have
abbrev digits_in : Table → ℕ → ℕ
digits_in Zones = at (3 ∷ 9 ∷ [])
digits_in Owners = at (4 ∷ 3 ∷ 13 ∷ [])
digits_in Units = at (4 ∷ 4 ∷ 3 ∷ 1 ∷ 13 ∷ 11 ∷ [])
digits_in Accounts = at (4 ∷ 10 ∷ 3 ∷ [])
digits_in Loads = at (4 ∷ 2 ∷ 7 ∷ [])
digits_in Reservations = at (4 ∷ 10 ∷ 10 ∷ [])
digits_in Firm = at (4 ∷ 1 ∷ 1 ∷ 2 ∷ 7 ∷ [])

-- a line with one number
one_number : (key : List ℕ) (d n : ℕ) → length (decimal n) ≤ d → length (line_text key (n ∷ [])) ≤ length key + 1 + (d + 1)
unfolding sum_to
one_number key d n h = omega (arith, line_within key (n ∷ []) (λ c. d) by)
  where
    by : (c : ℕ) → c < 1 → length (decimal (at (n ∷ []) c)) ≤ d
    by zero b = h
    by (suc c) b = absurd (omega (arith, b))

-- the first lines, by the digits of their numbers
abbrev size_of : List (List ℕ) → List ℕ → ℕ
size_of [] ds = 0
size_of (key ∷ keys) ds = length key + 1 + (at ds 0 + 1) + size_of keys (drop 1 ds)

first_lines : (keys : List (List ℕ)) (ns ds : List ℕ) → ((place : ℕ) → place < length keys → length (decimal (at ns place)) ≤ at ds place)
    → length (heads_text keys ns) ≤ size_of keys ds
unfolding heads_text
first_lines [] ns ds narrow = omega arith
first_lines (key ∷ keys) ns ds narrow =
    omega (
      arith,
      length-append (line_text key (at ns 0 ∷ [])) (heads_text keys (drop 1 ns)),
      one_number key (at ds 0) (at ns 0) (narrow 0 (omega arith)),
      first_lines keys (drop 1 ns) (drop 1 ds)
          (λ place h.
          subst (λ x. length (decimal x) ≤ at (drop 1 ds) place) (sym (get_or-drop 1 ns place 0))
          (subst (λ d. length (decimal (at ns (1 + place))) ≤ d) (sym (get_or-drop 1 ds place 0)) (narrow (1 + place) (omega (arith, h))))),
    )

-- how many digits each number of a head can have
abbrev head_digits : List ℕ
head_digits = 2 ∷ 2 ∷ 9 ∷ 9 ∷ 9 ∷ 9 ∷ 1 ∷ []

-- the bytes of full tables
abbrev most_lines : List Table → ℕ
most_lines [] = 0
most_lines (table ∷ tables) = limit table * line_size (line_key table) (width table) (digits_in table) + most_lines tables

module _ {head : Head} {t : Tables} {lent_charges lent_credits : ℕ} (good : GoodMonth head t lent_charges lent_credits) where
  in_year : InYear head.month head.days
  in_year = month_within head.month head.days ((month_exactly head.month head.days).1 good.frame.month_known)

  range : HeadInRange head
  range = good.frame.head_in_range

  narrow : (table : Table) (i c : ℕ) → i < rows table (words_of t table) → c < width table → length (decimal (entry table c (words_of t table) i)) ≤ digits_in table c
  narrow Zones i zero b h = decimal_below 2 _ (omega (arith, (good.tables Zones i b).in_range.zone.most))
  narrow Zones i (suc zero) b h = decimal_below 8 _ (omega (arith, (good.tables Zones i b).in_range.rate.most))
  narrow Zones i (suc (suc c)) b h = absurd (omega (arith, h))
  narrow Owners i zero b h = decimal_below 3 _ (omega (arith, (good.tables Owners i b).in_range.owner.most))
  narrow Owners i (suc zero) b h = decimal_below 2 _ (omega (arith, (good.tables Owners i b).in_range.zone.most))
  narrow Owners i (suc (suc zero)) b h = decimal_below 12 _ (omega (arith, (good.tables Owners i b).in_range.requirement.most))
  narrow Owners i (suc (suc (suc c))) b h = absurd (omega (arith, h))
  narrow Units i zero b h = decimal_below 3 _ (omega (arith, (good.tables Units i b).in_range.unit.most))
  narrow Units i (suc zero) b h = decimal_below 3 _ (omega (arith, (good.tables Units i b).in_range.owner.most))
  narrow Units i (suc (suc zero)) b h = decimal_below 2 _ (omega (arith, (good.tables Units i b).in_range.zone.most))
  narrow Units i (suc (suc (suc zero))) b h = decimal_below 0 _ (omega (arith, (good.tables Units i b).in_range.service.most))
  narrow Units i (suc (suc (suc (suc zero)))) b h = decimal_below 12 _ (omega (arith, (good.tables Units i b).in_range.requirement.most))
  narrow Units i (suc (suc (suc (suc (suc zero))))) b h = decimal_below 10 _ (omega (arith, (good.tables Units i b).in_range.reserve.most))
  narrow Units i (suc (suc (suc (suc (suc (suc c)))))) b h = absurd (omega (arith, h))
  narrow Accounts i zero b h = decimal_below 3 _ (omega (arith, (good.tables Accounts i b).in_range.account.most))
  narrow Accounts i (suc zero) b h = decimal_below 9 _ (omega (arith, (good.tables Accounts i b).in_range.customer.most))
  narrow Accounts i (suc (suc zero)) b h = decimal_below 2 _ (omega (arith, (good.tables Accounts i b).in_range.zone.most))
  narrow Accounts i (suc (suc (suc c))) b h = absurd (omega (arith, h))
  narrow Loads i zero b h = decimal_below 3 _ (omega (arith, (good.tables Loads i b).in_range.account.most))
  narrow Loads i (suc zero) b h = decimal_below 1 _ (omega (arith, (good.tables Loads i b).in_range.day.most, in_year.short))
  narrow Loads i (suc (suc zero)) b h = decimal_below 6 _ (omega (arith, (good.tables Loads i b).in_range.contribution.most))
  narrow Loads i (suc (suc (suc c))) b h = absurd (omega (arith, h))
  narrow Reservations i zero b h = decimal_below 3 _ (omega (arith, (good.tables Reservations i b).in_range.account.most))
  narrow Reservations i (suc zero) b h = decimal_below 9 _ (omega (arith, (good.tables Reservations i b).in_range.reserved.most))
  narrow Reservations i (suc (suc zero)) b h = decimal_below 9 _ (omega (arith, (good.tables Reservations i b).in_range.curtailed.most))
  narrow Reservations i (suc (suc (suc c))) b h = absurd (omega (arith, h))
  narrow Firm i zero b h = decimal_below 3 _ (omega (arith, (good.tables Firm i b).in_range.account.most))
  narrow Firm i (suc zero) b h = decimal_below 0 _ (omega (arith, (good.tables Firm i b).in_range.term.most))
  narrow Firm i (suc (suc zero)) b h = decimal_below 0 _ (omega (arith, (good.tables Firm i b).in_range.miso.most))
  narrow Firm i (suc (suc (suc zero))) b h = decimal_below 1 _ (omega (arith, (good.tables Firm i b).in_range.day.most, in_year.short))
  narrow Firm i (suc (suc (suc (suc zero)))) b h = decimal_below 6 _ (omega (arith, (good.tables Firm i b).in_range.capacity.most))
  narrow Firm i (suc (suc (suc (suc (suc c))))) b h = absurd (omega (arith, h))

  -- the lines of a table
  abbrev lines_of : Table → List ℕ
  lines_of table = rows_text (line_text (line_key table)) (width table) (rows table (words_of t table)) (words_of t table)

  table_within : (table : Table) → length (lines_of table) ≤ limit table * line_size (line_key table) (width table) (digits_in table)
  table_within table =
      le_trans
      (rows_within (line_key table) (width table) (digits_in table) (rows table (words_of t table)) (words_of t table)
      (div-mul-le_self (length (words_of t table)) (width table)) (narrow table))
      (mul-le-mul_right (line_size (line_key table) (width table) (digits_in table)) (good.frame.counted table).few)

  -- the lines of some tables
  each_within : (tables : List Table) → length (tables_text (map kind_of tables) (map (whole_rows t) tables)) ≤ most_lines tables
  unfolding tables_text
  each_within [] = omega arith
  each_within (table ∷ tables) =
      omega (
        arith,
        length-append (lines_of table) (tables_text (map kind_of tables) (map (whole_rows t) tables)),
        table_within table,
        each_within tables,
      )

  -- 16 lines of zones with 19 bytes, 64 of owners with 29, 64 of units with 47, 32 of accounts with 28, 992 of loads with 21, 32 of
  -- reservations with 31, 992 of firm rows with 25
  tables_within : length (tables_text month_form.kinds (all_rows t)) ≤ 52688
  unfolding sum_to
  tables_within = each_within (in_order (λ table. table))

  head_narrow : (place : ℕ) → place < head_count → length (decimal (at (numbers_of head) place)) ≤ at head_digits place
  head_narrow zero h = decimal_below 1 head.month (omega (arith, in_year.last))
  head_narrow (suc zero) h = decimal_below 1 head.days (omega (arith, in_year.short))
  head_narrow (suc (suc zero)) h = decimal_below 8 head.nonzone (omega (arith, range.nonzone.most))
  head_narrow (suc (suc (suc zero))) h = decimal_below 8 head.daily (omega (arith, range.daily.most))
  head_narrow (suc (suc (suc (suc zero)))) h = decimal_below 8 head.weekly (omega (arith, range.weekly.most))
  head_narrow (suc (suc (suc (suc (suc zero))))) h = decimal_below 8 head.monthly (omega (arith, range.monthly.most))
  head_narrow (suc (suc (suc (suc (suc (suc zero)))))) h = decimal_below 0 head.weekday (omega (arith, range.weekday.most))
  head_narrow (suc (suc (suc (suc (suc (suc (suc place))))))) h = absurd (omega (arith, h))

  heads_within : length (heads_text month_form.heads (numbers_of head)) ≤ 96
  heads_within = first_lines month_form.heads (numbers_of head) head_digits head_narrow

  few : (table : Table) → rows table (words_of t table) ≤ limit table
  few table = (good.frame.counted table).few

  -- no more than 2,192 rows in all
  rows_within_limits : rows_in_all (all_rows t) ≤ 2192
  unfolding rows_in_all
  rows_within_limits = omega (arith, few Zones, few Owners, few Units, few Accounts, few Loads, few Reservations, few Firm)

  pub file_short : length (month_text head t) ≤ 52793
  unfolding file_text
  file_short =
      omega (
        arith,
        length-append (heads_text month_form.heads (numbers_of head))
            (tables_text month_form.kinds (all_rows t) ++ line_text (bytes "end") (rows_in_all (all_rows t) ∷ [])),
        length-append (tables_text month_form.kinds (all_rows t)) (line_text (bytes "end") (rows_in_all (all_rows t) ∷ [])),
        heads_within,
        tables_within,
        one_number (bytes "end") 4 (rows_in_all (all_rows t)) (decimal_below 3 (rows_in_all (all_rows t)) (omega (arith, rows_within_limits))),
      )
