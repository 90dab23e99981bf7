-- `filewrite::write` meets its contract: COUNT, then the text measured and ROOM, then the text written.
-- Assumes nothing.
use mathlib.Core.Path.{ap}
use Rattle.std.proofs.lemmas.Result.{err_from_is_err_and}
use Rattle.tables.specs.Shape.{Tables, tables_now}
use Rattle.answer.specs.Results.{refused_answer}
use Rattle.filewrite.proofs.Parts.{write_counts, write_short, write_fine}
use Rattle.filewrite.proofs.write.Goals as goal

pub returns-in_err-count_tables : goal.returns-in_err-count_tables
returns-in_err-count_tables c =
    let written : Tables = tables_now c.args.tables in
    let up = err_from_is_err_and c.from_residual.result c.from_residual.ensures.1 in
    rw (up.1, up.2) (write_counts c.args.head written c.args.out.now _ c.in_err-count_tables.ensures)

pub returns-then-room-size : goal.returns-then-room-size
returns-then-room-size c =
    let written : Tables = tables_now c.args.tables in
    let size = c.text_size-size in
    write_short c.args.head written c.args.out.now c.in_ok-count_tables.ensures size.result size.ensures c.if-room-size.true _
    (ap refused_answer c.at.ensures)

pub returns : goal.returns
returns c =
    let written : Tables = tables_now c.args.tables in
    let size = c.text_size-size in
    write_fine c.args.head written c.args.out.now c.in_ok-count_tables.ensures size.result size.ensures c.if-room-size.false _ _ c.put_text.ensures
