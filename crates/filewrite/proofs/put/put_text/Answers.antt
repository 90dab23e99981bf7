-- `filewrite::put::put_text` meets its contract: the first lines, the tables and the last line, one behind the other.
-- Assumes nothing.
use mathlib.Core.Path.{◌≡◌, refl}
use Prim.Native.Nat.{ℕ, ◌+◌}
use native.Mathlib.Omega.{arith}
use lib.ListN.{length}
use Rattle.tables.specs.declared.Head.{Head}
use Rattle.tables.specs.Shape.{Tables, tables_now}
use Rattle.fileform.specs.Reading.{rows_in_all}
use Rattle.filewrite.specs.Calls.{all_rows, month_text}
use Rattle.filewrite.proofs.Pieces.{heads_of, tables_of, end_of, file_pieces, three_length, three_put}
use Rattle.filewrite.proofs.put.put_text.Goals as goal

-- the text is as long as its three pieces
pieces : (head : Head) (written : Tables) (rows : ℕ) → rows ≡ rows_in_all (all_rows written)
    → length (month_text head written) ≡ length (heads_of head) + (length (tables_of written) + length (end_of rows))
pieces head written rows q =
    three_length (heads_of head) (tables_of written) (end_of rows) (month_text head written) (file_pieces head written rows q)

pub put_heads-heads-requires : goal.put_heads-heads-requires
put_heads-heads-requires c =
    let written = tables_now c.args.tables in
    omega (arith, pieces c.args.head written (rows_in_all (all_rows written)) refl, c.requires)

pub put_tables-rows-requires : goal.put_tables-rows-requires
put_tables-rows-requires c =
    let written = tables_now c.args.tables in
    let heads = c.put_heads-heads in
    omega (arith, pieces c.args.head written (rows_in_all (all_rows written)) refl, c.requires, heads.ensures.onward, heads.auto.out)

pub put_end-requires : goal.put_end-requires
put_end-requires c =
    let written = tables_now c.args.tables in
    let heads = c.put_heads-heads in
    let tables = c.put_tables-rows in
    let rows = c.rows_in_all in
    omega (arith, pieces c.args.head written rows.result rows.ensures, c.requires, heads.ensures.onward, heads.auto.out, tables.ensures.onward, tables.auto.out)

pub returns : goal.returns
returns c =
    let written : Tables = tables_now c.args.tables in
    let heads = c.put_heads-heads in
    let tables = c.put_tables-rows in
    let rows = c.rows_in_all in
    let last = c.put_end in
    three_put (heads_of c.args.head) (tables_of written) (end_of rows.result) _ (file_pieces c.args.head written rows.result rows.ensures)
    c.args.out.now heads.result tables.result last.result heads.new.out tables.new.out last.new.out heads.ensures tables.ensures last.ensures
