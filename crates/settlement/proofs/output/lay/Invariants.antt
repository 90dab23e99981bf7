-- `settlement::output::lay` meets its contract: the words passed are written.
-- Assumes nothing.
use mathlib.Core.Path.{◌≡◌}
use Rattle.lists.specs.Entries.{put}
use Rattle.settlement.specs.Settled.{laid}
use Rattle.settlement.specs.Steps.{word_in}
use Rattle.settlement.proofs.output.lay.Given as goal

abbrev pub invariant-loop-k : goal.invariant-loop-k
invariant-loop-k l = l.out ≡ put l.k (laid l.width (word_in l.stride l.block)) l.initial.out
