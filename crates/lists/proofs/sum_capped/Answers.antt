-- `lists::sum_capped` meets its contract: the sum so far is that of the numbers passed, and at most the cap.
-- Assumes nothing.
use Prim.Native.Nat.{◌+◌}
use native.Mathlib.Omega.{arith}
use lib.ListN.{length}
use borrow.Author.Rules.{rules}
use Rattle.lists.specs.Sums.{at}
use Rattle.lists.proofs.Sums.{sum_suc, sum_within}
use Rattle.lists.proofs.sum_capped.Goals as goal

pub returns-then-cap-sum : goal.returns-then-cap-sum
returns-then-cap-sum c =
    let numbers = c.args.numbers.now in
    let i = c.loop-number.number-index in
    omega (arith, sum_suc i (at numbers), sum_within (at numbers) (i + 1) (length numbers) (search rules))
