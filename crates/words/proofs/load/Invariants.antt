-- `words::load` meets its contract: the numbers of the words passed are stored.
-- Assumes nothing.
use mathlib.Core.Path.{◌≡◌}
use Rattle.lists.specs.Entries.{put}
use Rattle.words.specs.Steps.{number_in}
use Rattle.words.proofs.load.Given as goal

abbrev pub invariant-loop-i : goal.invariant-loop-i
invariant-loop-i l = l.out ≡ put l.i (number_in l.lent) l.initial.out
