-- `fileform::row::count_rows` meets its contract.
-- Assumes nothing.
use native.Mathlib.Omega.{arith}
use Rattle.text.specs.Lines.{line}
use Rattle.fileform.proofs.RowWalks.{rows_missing, rows_next, rows_end}
use Rattle.fileform.proofs.row.count_rows.Goals as goal

pub returns-in-None : goal.returns-in-None
returns-in-None c =
    let a = c.args in
    let l = c.loop-count in
    rows_missing (line a.key.now a.width) a.text.now _ l.i a.most l.count l.invariant.1 c.loop-count-test.true l.invariant.0 c.in-None.ensures

pub loop-count-preserved : goal.loop-count-preserved
loop-count-preserved c =
    let a = c.args in
    let l = c.loop-count in
    let next = c.in-Some.ensures in
    (next.0, rows_next (line a.key.now a.width) a.text.now _ l.i a.most l.count l.invariant.1 c.loop-count-test.true c.in-Some.next next.1.0 next.1.1)

pub returns : goal.returns
returns c =
    let a = c.args in
    let l = c.loop-count in
    rows_end (line a.key.now a.width) a.text.now _ l.i a.most l.count l.invariant.1 l.invariant.0 (omega arith)
