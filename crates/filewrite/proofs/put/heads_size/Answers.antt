-- `filewrite::put::heads_size` meets its contract: what is left from a line on is measured behind the lines before.
-- Assumes nothing.
use mathlib.Core.Path.{subst}
use Rattle.text.specs.Places.{Sized}
use Rattle.filewrite.proofs.Pieces.{measure_next, measure_end, heads_from, head_piece, heads_end}
use Rattle.filewrite.proofs.put.heads_size.Goals as goal

pub loop-k-preserved : goal.loop-k-preserved
loop-k-preserved c =
    measure_next c.loop-k.invariant (head_piece c.from-numbers.result c.loop-k.k c.loop-k-test.true) c.head_size-size.result c.head_size-size.ensures

pub returns : goal.returns
returns c =
    let numbers = c.from-numbers in
    subst (λ ns. Sized 0 (heads_from ns 0) c.args.cap c.loop-k.size) numbers.ensures
    (measure_end c.loop-k.invariant (heads_end numbers.result c.loop-k.k c.loop-k-test.false))
