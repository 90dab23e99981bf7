-- `fileform::row::take_rows` meets its contract.
-- Assumes nothing.
use mathlib.Core.Path.{◌∙◌}
use Rattle.fileform.proofs.RowWalks.{rows_there, rows_behind, rows_stored}
use Rattle.fileform.proofs.row.take_rows.Goals as goal

pub loop-k-preserved : goal.loop-k-preserved
loop-k-preserved c =
    let a = c.args in
    let l = c.loop-k in
    let t = c.take_next_line-i in
    let after = t.new.words in
    let h = c.loop-k-test.true in (
      t.ensures.inside,
      rows_there a.key.now a.width a.text.now l.i a.count l.k h l.invariant.1 l.words t.result after t.ensures,
      rows_behind a.key.now a.width a.text.now l.i a.count l.k h l.invariant.1 l.words t.result after t.ensures ∙ l.invariant.2,
      rows_stored a.key.now a.width a.text.now l.i a.count l.k h l.invariant.1 l.words t.result after t.ensures ∙ l.invariant.3,
    )
