-- The distance of amounts from the exact shares of a pot, over whole numbers, and the closest lists of amounts.
-- Assumes nothing.
use Rattle.std.specs.Prelude.{◌≡◌, Bool, List, ℕ, ◌+◌, ◌-◌, ◌*◌, ◌≤◌, leb, length}
use Rattle.lists.specs.Sums.{sum_to, at, total, every}

-- how far two numbers are apart
unfoldable pub apart : ℕ → ℕ → ℕ
apart x y = (x - y) + (y - x)

-- "an amount's distance is taken W times as large, as the difference between W times the amount and P times its weight"
unfoldable pub distance : ℕ → List ℕ → List ℕ → ℕ → ℕ
distance pot weights amounts i = apart (total weights * at amounts i) (pot * at weights i)

-- "the sum of the squares of these"
unfoldable pub squares : ℕ → List ℕ → List ℕ → ℕ
squares pot weights amounts =
    sum_to (length weights) (λ i. distance pot weights amounts i * distance pot weights amounts i)

-- "no other such list with that sum lies closer to the exact shares": none of all lists of whole numbers of the same length. The check's
-- yes stands for this and for a sum that is the pot
pub record Closest (pot : ℕ) (weights amounts : List ℕ) : Type 0 where
  pub none_closer : (others : List ℕ) → length others ≡ length weights → total others ≡ total amounts
      → squares pot weights amounts ≤ squares pot weights others

-- the test that finds them: no amount stands more than a whole cent higher over its exact share than another
unfoldable pub level : ℕ → List ℕ → List ℕ → Bool
level pot weights amounts =
    every (length weights) (λ i. every (length weights) (λ j.
    leb (total weights * at amounts i + pot * at weights j) (total weights * at amounts j + pot * at weights i + total weights)))
