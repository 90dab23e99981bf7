-- The starred figures hold: antt computes each.
-- Assumes nothing.
use mathlib.Core.Path.{refl}
use Rattle.lists.specs.Sums.{sum_to, every, largest_first}
use Rattle.lists.specs.Entries.{listed}
use Rattle.closeness.specs.Closeness.{level}
use Rattle.division.specs.Limits.{size_refusal, divide_refusal}
use Rattle.division.specs.Shares.{quotient, remainder, leftover, comes_before, gets_cent, share, shares, memory}
use Rattle.verdict.specs.Check.{check_refusal, passes, verdict}
use Rattle.month.specs.Quantities.{nearest, charge_at_rate}
use Rattle.month.specs.Months.{through, twelfth}
use Rattle.figures.specs.Starred.{Starred}
use Rattle.figures.proofs.Statements.{case_s_lem}

pub starred : Starred
unfolding sum_to every largest_first listed level size_refusal divide_refusal check_refusal quotient remainder leftover comes_before gets_cent share shares memory passes verdict nearest charge_at_rate through twelfth
starred =
    record {
      D1 = refl;
      D2 = refl;
      D3 = refl;
      D4 = refl;
      D5 = refl;
      D6 = refl;
      D7 = refl;
      D7_baseless = refl;
      C1 = refl;
      C1_other = refl;
      C2 = refl;
      N1 = refl;
      M1 = refl;
      S = case_s_lem;
    }
