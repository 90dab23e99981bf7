-- The division of a pot by weights.
-- Assumes nothing.
use Rattle.std.specs.Prelude.{◌≡◌, ℕ, ◌+◌, ◌-◌, ◌*◌, ◌/◌, ◌%◌, Bool, cond, List, ◌++◌, ltb, eqb, length, drop}
use Rattle.lists.specs.Sums.{sum_to, at, total, bit, rank, largest_first}
use Rattle.lists.specs.Entries.{listed}
use Rattle.division.specs.Limits.{divide_refusal}

-- "Share i is the whole part of P times weight i over W" ..
unfoldable pub quotient : ℕ → List ℕ → ℕ → ℕ
quotient pot weights i = pot * at weights i / total weights

-- .. and what that cuts off, in parts of W
unfoldable pub remainder : ℕ → List ℕ → ℕ → ℕ
remainder pot weights i = pot * at weights i % total weights

-- "The cents left over"
unfoldable pub leftover : ℕ → List ℕ → ℕ
leftover pot weights = pot - sum_to (length weights) (quotient pot weights)

-- ".. the largest remainders, lower position first among equals": position j comes before position i
unfoldable pub comes_before : ℕ → List ℕ → ℕ → ℕ → Bool
comes_before pot weights = largest_first (remainder pot weights)

-- ".. go one each to": position i gets one where fewer positions come before it than there are cents left over
unfoldable pub gets_cent : ℕ → List ℕ → ℕ → Bool
gets_cent pot weights i = ltb (rank (length weights) (comes_before pot weights) i) (leftover pot weights)

-- what position i has: its whole cents, and one more where it gets one
unfoldable pub share : ℕ → List ℕ → ℕ → ℕ
share pot weights i = quotient pot weights i + bit (gets_cent pot weights i)

unfoldable pub shares : ℕ → List ℕ → List ℕ
shares pot weights = listed (length weights) (share pot weights)

-- the lent words afterwards: on refusal as they were, else the shares and behind them the words that were there
unfoldable pub memory : ℕ → List ℕ → List ℕ → List ℕ
memory pot weights out =
    cond (eqb (divide_refusal pot weights (length out)) 0) (shares pot weights ++ drop (length weights) out) out

-- The number that `divide` says, and what it leaves in the lent words.
pub record Divided (pot : ℕ) (weights before after : List ℕ) (r : ℕ) : Type 0 where
  pub number : r ≡ divide_refusal pot weights (length before)
  pub lent : after ≡ memory pot weights before
