-- A pot dealt out in whole cents, by weights that are parts of a whole.
-- Assumes nothing.
use Rattle.std.specs.Prelude.{ℕ, ◌+◌, ◌-◌, ◌*◌, ◌/◌, ◌%◌, ◌^◌, ◌≤◌, ◌<◌, List, ltb, length}
use Rattle.lists.specs.Sums.{sum_to, at, bit, count}

-- how many weights there can be
abbrev pub places : ℕ
places = 64

-- the largest pot, and the largest whole: 64 of them, or one with a place beside it, stay below 2^63
abbrev pub most : ℕ
most = 2 ^ 56

-- a pot, and weights that are parts of a whole
pub record Base (pot : ℕ) (weights : List ℕ) (whole : ℕ) : Type 0 where
  pub pot_fits : pot ≤ most
  pub positive : 0 < whole
  pub whole_fits : whole ≤ most
  pub adds_up : sum_to (length weights) (at weights) ≤ whole

-- a weight's part of the pot, cut down to whole cents
abbrev pub cents_of : ℕ → List ℕ → ℕ → ℕ → ℕ
cents_of pot weights whole i = pot * at weights i / whole

-- what that cuts off, with its place, so that the larger key comes first and no two are equal
abbrev pub key_of : ℕ → List ℕ → ℕ → ℕ → ℕ
key_of pot weights whole i = pot * at weights i % whole * 64 + (63 - i)

-- what position i gets: its whole cents, and one more where fewer keys are larger than there are cents left over
unfoldable pub dealt : ℕ → List ℕ → ℕ → ℕ → ℕ
dealt pot weights whole i =
    cents_of pot weights whole i
    + bit
    (ltb (count (length weights) (λ j. ltb (key_of pot weights whole i) (key_of pot weights whole j)))
    (pot - sum_to (length weights) (cents_of pot weights whole)))
