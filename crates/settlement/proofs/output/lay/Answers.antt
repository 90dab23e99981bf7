-- `settlement::output::lay` meets its contract: the words passed are written.
-- Assumes nothing.
use Rattle.std.proofs.Common.{arith}
use Rattle.lists.proofs.Entries.{put_none, put_suc}
use Rattle.settlement.proofs.Laying.{word_laid}
use Rattle.settlement.proofs.output.lay.Goals as goal

pub loop-k-init : goal.loop-k-init
loop-k-init c = grind (arith, put_none)

pub loop-k-preserved : goal.loop-k-preserved
loop-k-preserved c = let word = word_laid c.requires c.loop-k.k c.loop-k-test.true in grind (arith, put_suc)
