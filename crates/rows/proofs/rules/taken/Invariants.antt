-- `rows::rules::taken` meets its contract: the loop has passed no account with this one's customer and zone.
-- Assumes nothing.
use mathlib.Core.Path.{◌≡◌}
use mathlib.Core.Bool.{false}
use Rattle.lists.specs.Sums.{any}
use Rattle.rows.specs.Rows.{same_pair}
use Rattle.rows.proofs.rules.taken.Given as goal

abbrev pub invariant-loop-j : goal.invariant-loop-j
invariant-loop-j l = any l.j (λ k. same_pair l.accounts k l.i) ≡ false
