-- `text::number::digits_on` meets its contract.
-- Assumes nothing.
use mathlib.Core.Path.{◌≡◌}
use lib.ListN.{drop}
use Rattle.text.specs.Numbers.{digits_on}
use Rattle.text.proofs.number.digits_on.Given as goal

abbrev pub invariant-loop-i : goal.invariant-loop-i
invariant-loop-i l = digits_on l.first (drop l.at l.text) ≡ digits_on l.value (drop l.i l.text)
