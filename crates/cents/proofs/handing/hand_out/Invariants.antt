-- `cents::handing::hand_out` meets its contract: each word passed has its cent, and the words ahead are as they were.
-- Assumes nothing.
use mathlib.Core.Path.{◌≡◌}
use Rattle.lists.specs.Entries.{put}
use Rattle.cents.specs.Steps.{Between, handed}
use Rattle.cents.proofs.handing.hand_out.Given as goal

abbrev pub invariant-loop-i : goal.invariant-loop-i
invariant-loop-i l =
    (l.out ≡ put l.i (handed l.left l.keys l.initial.out) l.initial.out) × Between l.left l.keys l.bounds.low l.bounds.high
