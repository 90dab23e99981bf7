-- When a check is not refused, and what a refusal says: each number stands for the first condition that holds.
-- Assumes nothing.
use Rattle.std.specs.Prelude.{◌≡◌, ◌≢◌, ℕ, ◌≤◌, ◌<◌, List, length}
use Rattle.lists.specs.Sums.{total}
use Rattle.answer.specs.Numbers.{COUNT}
use Rattle.division.specs.Limits.{most_weights}
use Rattle.division.specs.Refused.{FineSize, SizeRefused}

-- nothing is refused: "at most 64" weights, as many amounts, and a pot and a sum of weights that can be divided
pub record FineCheck (pot : ℕ) (weights amounts : List ℕ) : Type 0 where
  pub few : length weights ≤ most_weights
  pub alike : length weights ≡ length amounts
  pub sizes : FineSize pot (total weights)

-- "the check at COUNT, BIG, BASE"
pub data CheckRefused (pot : ℕ) (weights amounts : List ℕ) (n : ℕ) : Type 0 where
  by_many : n ≡ COUNT → most_weights < length weights → CheckRefused pot weights amounts n
  by_unlike : n ≡ COUNT → length weights ≢ length amounts → CheckRefused pot weights amounts n
  by_sizes : length weights ≤ most_weights → length weights ≡ length amounts → SizeRefused pot (total weights) n
      → CheckRefused pot weights amounts n
