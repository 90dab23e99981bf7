-- When the sizes of a division are fine, and what a refusal says: each number stands for the first condition that holds.
-- Assumes nothing.
use Rattle.std.specs.Prelude.{◌≡◌, ◌⊎◌, ℕ, ◌≤◌, ◌<◌, List, length}
use Rattle.lists.specs.Sums.{total}
use Rattle.answer.specs.Numbers.{COUNT, ROOM, BIG, BASE}
use Rattle.division.specs.Limits.{most_weights, pot_limit, weight_limit}

-- a pot and a sum of weights that can be divided: "at most 10^11", "at most 10^13", and no pot where the weights add up to zero
pub record FineSize (pot w : ℕ) : Type 0 where
  pub pot_fits : pot ≤ pot_limit
  pub weights_fit : w ≤ weight_limit
  pub has_base : w ≡ 0 → pot ≡ 0

-- "P above 10^11 or W above 10^13", then "P above zero and W zero"
pub data SizeRefused (pot w n : ℕ) : Type 0 where
  by_big : n ≡ BIG → (pot_limit < pot) ⊎ (weight_limit < w) → SizeRefused pot w n
  by_base : n ≡ BASE → pot ≤ pot_limit → 0 < pot → w ≡ 0 → SizeRefused pot w n

-- "The division alone looks at COUNT, ROOM, BIG, BASE"
pub data DivideRefused (pot : ℕ) (weights : List ℕ) (room n : ℕ) : Type 0 where
  by_count : n ≡ COUNT → most_weights < length weights → DivideRefused pot weights room n
  by_room : n ≡ ROOM → length weights ≤ most_weights → room < length weights → DivideRefused pot weights room n
  by_size : length weights ≤ most_weights → length weights ≤ room → SizeRefused pot (total weights) n → DivideRefused pot weights room n
