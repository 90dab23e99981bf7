-- The second walk: the rows of each table are there as the first walk counted them, and the next table's begin behind them.
-- Assumes nothing.
use mathlib.Core.Path.{◌≡◌, sym, ap, ◌∙◌, subst}
use mathlib.Core.List.{List, ◌∷◌}
use Prim.Native.Nat.{ℕ, suc, ◌+◌, ◌*◌, ◌≤◌}
use native.Mathlib.Nat.{le_trans, mul-le-mul_right}
use native.Mathlib.Omega.{arith}
use lib.ListN.{length, drop}
use lib.Seq.{get_or-drop, drop-drop}
use Rattle.tables.specs.declared.Table.{Table}
use Rattle.tables.specs.Shape.{place_of, width, limit, Tables, words_of}
use Rattle.tables.proofs.Places.{table_placed, place_below}
use Rattle.text.specs.Places.{stored}
use Rattle.fileform.specs.Form.{Kind, kind_of, line_of, month_form}
use Rattle.fileform.specs.Reading.{got, Rows, no_rows, nth, RowsRead, row_lines, table_lines}
use Rattle.fileform.specs.Calls.{RowsTaken}
use Rattle.fileform.proofs.Each.{order_drop, words_by, same_tables}
use Rattle.fileform.proofs.RowLaws.{rows_exact}
use Rattle.fileform.proofs.Forms.{read_of, table_of, FirstKind, first_kind}
use Rattle.fileread.specs.Calls.{filled}
use Rattle.fileread.specs.Steps.{FilledFrom}

-- the tables from the one at a place on stand at an offset
pub record Standing (s : List ℕ) (ts : List Rows) (rest : List ℕ) (place i : ℕ) : Type 0 where
  pub inside : i ≤ length s
  pub read : table_lines (drop place month_form.kinds) (drop i s) ≡ got (drop place ts) rest

-- a table's rows are stored, and the next table stands behind them
pub record Took (table : Table) (s : List ℕ) (ts : List Rows) (rest words : List ℕ) (next : ℕ) (after : List ℕ) : Type 0 where
  pub stands : Standing s ts rest (place_of table + 1) next
  pub taken : after ≡ stored words 0 (nth ts (place_of table)).words

module _ (table : Table) {s : List ℕ} {ts : List Rows} {rest : List ℕ} {i : ℕ} (stands : Standing s ts rest (place_of table) i) (count : ℕ)
    (counted : count ≡ (nth ts (place_of table)).count) where
  abbrev later : List Kind
  later = drop (place_of table + 1) month_form.kinds

  kinds_from : drop (place_of table) month_form.kinds ≡ kind_of table ∷ later
  kinds_from = order_drop kind_of (place_of table) (place_below table) ∙ ap (λ t. kind_of t ∷ later) (table_placed table)

  here : FirstKind (kind_of table) later (drop i s) (drop (place_of table) ts) rest
  here =
      first_kind (kind_of table) later (drop i s) (drop (place_of table) ts) rest
      (ap (λ l. table_lines l (drop i s)) (sym kinds_from) ∙ stands.read)

  table_is : nth ts (place_of table) ≡ table_of (read_of (kind_of table) (drop i s))
  table_is =
      let place : place_of table ≡ place_of table + 0 = omega arith in
      ap (nth ts) place ∙ sym (get_or-drop (place_of table) ts 0 no_rows) ∙ sym (ap (λ l. nth l 0) here.both)

  count_is : count ≡ (read_of (kind_of table) (drop i s)).count
  count_is = counted ∙ ap (λ (t : Rows). t.count) table_is

  same_rows : row_lines (line_of (kind_of table)) count (drop i s) ≡ read_of (kind_of table) (drop i s)
  same_rows =
      ap (λ n. row_lines (line_of (kind_of table)) n (drop i s)) count_is
      ∙ rows_exact (line_of (kind_of table)) (suc (limit table)) (drop i s)

  pub table_there : (words : List ℕ) → limit table * width table ≤ length words
      → (i ≤ length s) × ((row_lines (line_of (kind_of table)) count (drop i s)).count ≡ count) × (count * width table ≤ length words)
  table_there words room = (
    stands.inside,
    ap (λ (r : RowsRead). r.count) same_rows ∙ sym count_is,
    le_trans (mul-le-mul_right (width table) (subst (λ n. n ≤ limit table) (sym count_is) here.few)) room,
  )

  module _ (words : List ℕ) (n : ℕ) (after : List ℕ) (t : RowsTaken s (row_lines (line_of (kind_of table)) count (drop i s)) words n after) where
    next_stands : Standing s ts rest (place_of table + 1) n
    next_stands =
        record {
          inside = t.inside;
          read =
              ap (table_lines later) (sym (sym (ap (λ (r : RowsRead). r.rest) same_rows) ∙ t.behind))
              ∙ here.behind
              ∙ ap (λ l. got (drop 1 l) rest) here.both
              ∙ ap (λ l. got l rest) (drop-drop 1 (place_of table) ts);
        }

    table_taken : after ≡ stored words 0 (nth ts (place_of table)).words
    table_taken =
        t.written ∙ ap (λ (r : RowsRead). stored words 0 r.words) same_rows ∙ ap (λ (t : Rows). stored words 0 t.words) (sym table_is)

    pub table_took : Took table s ts rest words n after
    table_took = record { stands = next_stands; taken = table_taken }

-- every table taken
pub all_taken : (s : List ℕ) (body : ℕ) (lent after : Tables) (ts : List Rows) (rest : List ℕ) → Standing s ts rest 0 body
    → ((table : Table) → words_of after table ≡ stored (words_of lent table) 0 (nth ts (place_of table)).words) → FilledFrom s body lent after
all_taken s body lent after ts rest stands taken =
    record {
      fills = λ us more e.
          let same : got ts rest ≡ got us more = sym stands.read ∙ e in
          let held : ts ≡ us = cc in
          same_tables after (filled lent ts)
          (λ table. taken table ∙ sym (words_by (λ t. stored (words_of lent t) 0 (nth ts (place_of t)).words) table))
          ∙ ap (filled lent) held;
    }
