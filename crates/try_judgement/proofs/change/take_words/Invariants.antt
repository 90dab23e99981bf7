-- `try_judgement::change::take_words` ends: each word leaves less.
-- Assumes nothing.
use Rattle.std.proofs.Common.{length, ◌≤◌}
use Rattle.try_judgement.proofs.change.take_words.Given as goal

abbrev pub invariant-loop-word : goal.invariant-loop-word
invariant-loop-word l = length l.rest ≤ length l.initial.text

abbrev pub decreases-loop-word : goal.decreases-loop-word
decreases-loop-word l = length l.rest
