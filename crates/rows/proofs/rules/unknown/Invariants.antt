-- `rows::rules::unknown` meets its contract: the loop has passed no row with x as its first entry.
-- Assumes nothing.
use mathlib.Core.Path.{◌≡◌}
use mathlib.Core.Bool.{false}
use Rattle.lists.specs.Sums.{any}
use Rattle.rows.specs.Rows.{names}
use Rattle.rows.proofs.rules.unknown.Given as goal

abbrev pub invariant-loop-j : goal.invariant-loop-j
invariant-loop-j l = any l.j (names l.table l.words l.x) ≡ false
