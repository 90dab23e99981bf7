-- `filewrite::put::text_size` meets its contract: the first lines, the tables and the last line, one after the other.
-- Assumes nothing.
use Rattle.tables.specs.Shape.{tables_now}
use Rattle.filewrite.proofs.Pieces.{heads_of, tables_of, end_of, file_pieces, three_sized}
use Rattle.filewrite.proofs.put.text_size.Goals as goal

pub returns : goal.returns
returns c =
    let a = c.args in
    let t = tables_now a.tables in
    let heads = c.heads_size-heads in
    let rows = c.rows_in_all in
    three_sized (heads_of a.head) (tables_of t) (end_of rows.result) _ (file_pieces a.head t rows.result rows.ensures) a.cap heads.result
    c.tables_size-rows.result c.end_size.result heads.ensures c.tables_size-rows.ensures c.end_size.ensures
