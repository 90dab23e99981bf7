-- `try_judgement::change::first` meets its contract: a number has a digit, so less stands behind it.
-- Assumes nothing.
use mathlib.Core.Path.{ap}
use native.Mathlib.Omega.{arith}
use Rattle.std.proofs.Common.{List, ℕ, ◌≡◌, ◌<◌, length, length-append, ◌∙◌}
use Rattle.std.proofs.lemmas.Grind.{common_steps}
use Rattle.text.specs.Numbers.{found, first_number, decimal}
use Rattle.text.proofs.Numbers.{decimal_number, length_decimal}
use Rattle.try_judgement.proofs.change.first.Goals as goal

number_moves : (s rest : List ℕ) (n : ℕ) → first_number s ≡ found n rest → length rest < length s
number_moves s rest n read =
    let bytes = ap length (decimal_number s n rest read).written ∙ length-append (decimal n) rest in
    omega (arith, bytes, (length_decimal n).0)

pub returns : goal.returns
returns c =
    let less = number_moves c.args.text.now _ _ c.in_ok-found.ensures.1 in
    grind (arith, common_steps, less)
