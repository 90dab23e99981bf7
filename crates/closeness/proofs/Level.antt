-- No list lies closer than a level one: with the slope at the amount lowest above its exact share, each square grows by at least
-- the slope for each cent more, and two lists with the same sum have no cent more. Equal sums keep each amount within a cent too.
-- Assumes nothing.
use mathlib.Core.Path.{◌≡◌, sym, ap, ◌∙◌}
use mathlib.Core.Logic.{⊎_elim}
use mathlib.Core.Bool.{true}
use mathlib.Core.List.{List}
use Prim.Native.Nat.{ℕ, ◌+◌, ◌*◌, ◌≤◌, ◌<◌}
use native.Mathlib.Nat.{mul_comm}
use native.Mathlib.Omega.{arith}
use lib.ListN.{length}
use borrow.Author.Tests.{leb-true}
use Rattle.lists.specs.Sums.{sum_to, at, total}
use Rattle.lists.proofs.Sums.{sum_le, sum_add, sum_mul, sum_tight, every_at}
use Rattle.lists.proofs.Ranks.{lt_or_le}
use Rattle.closeness.specs.Closeness.{distance, squares, Closest, level}
use Rattle.closeness.proofs.Squares.{squared, apart_lt, supported}
use Rattle.closeness.proofs.Positions.{lowest, some_position}

-- what the test says of two positions
level_at : (pot : ℕ) (weights amounts : List ℕ) → level pot weights amounts ≡ true
    → (i j : ℕ) → i < length weights → j < length weights
    → total weights * at amounts i + pot * at weights j ≤ total weights * at amounts j + pot * at weights i + total weights
unfolding level
level_at pot weights amounts e i j h k =
    leb-true _ _ (every_at (length weights) _ (every_at (length weights) _ e i h) j k)

-- where g is more than f by at least the slope c − d times b − a at each position, and a and b have the same sum, g sums to no less
sum_slope : (n c d : ℕ) (f g a b : ℕ → ℕ) → sum_to n a ≡ sum_to n b
    → ((i : ℕ) → i < n → f i + (c * b i + d * a i) ≤ g i + (c * a i + d * b i)) → sum_to n f ≤ sum_to n g
sum_slope n c d f g a b same each =
    let first : c * sum_to n a ≡ c * sum_to n b = ap (λ m. c * m) same in
    let second : d * sum_to n a ≡ d * sum_to n b = ap (λ m. d * m) same in
    let sums : sum_to n f + (c * sum_to n b + d * sum_to n a) ≤ sum_to n g + (c * sum_to n a + d * sum_to n b) =
    simp (sum_add, sum_mul) at (sum_le n (λ i. f i + (c * b i + d * a i)) (λ i. g i + (c * a i + d * b i)) each) in
    omega arith

module _ (pot : ℕ) (weights amounts : List ℕ) (same : length amounts ≡ length weights) (whole : total amounts ≡ pot) where
  -- the amounts and the exact shares, W times as large, have the same sum
  balanced : sum_to (length weights) (λ i. total weights * at amounts i) ≡ sum_to (length weights) (λ i. pot * at weights i)
  balanced =
      sum_mul (length weights) (total weights) (at amounts)
      ∙ ap (λ m. total weights * m) (ap (λ n. sum_to n (at amounts)) (sym same) ∙ whole)
      ∙ mul_comm (total weights) pot
      ∙ sym (sum_mul (length weights) pot (at weights))

  -- so where none stands above its exact share, or none below, each is its exact share
  pub none_above : ((i : ℕ) → i < length weights → total weights * at amounts i ≤ pot * at weights i)
      → (i : ℕ) → i < length weights → total weights * at amounts i ≡ pot * at weights i
  none_above each = sum_tight (length weights) _ _ each balanced

  none_below : ((i : ℕ) → i < length weights → pot * at weights i ≤ total weights * at amounts i)
      → (i : ℕ) → i < length weights → pot * at weights i ≡ total weights * at amounts i
  none_below each = sum_tight (length weights) _ _ each (sym balanced)

module _ (pot : ℕ) (weights amounts : List ℕ) (some : 0 < total weights) (same : length amounts ≡ length weights)
    (whole : total amounts ≡ pot) (e : level pot weights amounts ≡ true) where
  -- an amount a whole cent above its exact share would leave none below, one a whole cent below none above
  pub within_a_cent : (i : ℕ) → i < length weights → distance pot weights amounts i < total weights
  unfolding distance
  within_a_cent i h =
      apart_lt (total weights * at amounts i) (pot * at weights i) (total weights)
      (⊎_elim
      (λ (below : total weights * at amounts i < pot * at weights i + total weights). below)
      (λ (above : pot * at weights i + total weights ≤ total weights * at amounts i).
      let equal : pot * at weights i ≡ total weights * at amounts i =
      none_below pot weights amounts same whole (λ j k. omega (arith, level_at pot weights amounts e i j h k)) i h in
      absurd (omega arith))
      (lt_or_le (total weights * at amounts i) (pot * at weights i + total weights)))
      (⊎_elim
      (λ (above : pot * at weights i < total weights * at amounts i + total weights). above)
      (λ (below : total weights * at amounts i + total weights ≤ pot * at weights i).
      let equal : total weights * at amounts i ≡ pot * at weights i =
      none_above pot weights amounts same whole (λ j k. omega (arith, level_at pot weights amounts e j i k h)) i h in
      absurd (omega arith))
      (lt_or_le (pot * at weights i) (total weights * at amounts i + total weights)))

  -- the slope is that at the lowest amount
  no_closer : (others : List ℕ) → length others ≡ length weights → total others ≡ total amounts
      → squares pot weights amounts ≤ squares pot weights others
  unfolding squares distance
  no_closer others long equal =
      let low = lowest (length weights) (λ i. total weights * at amounts i) (λ i. pot * at weights i)
      (some_position (length weights) (at weights) some) in
      let j : ℕ = low.0 in
      let u : ℕ = total weights * at amounts j in
      let y : ℕ = pot * at weights j in
      sum_slope (length weights) (total weights * (2 * u + total weights)) (total weights * (2 * y))
      (λ i. squared (total weights * at amounts i) (pot * at weights i))
      (λ i. squared (total weights * at others i) (pot * at weights i))
      (at amounts) (at others)
      (ap (λ n. sum_to n (at amounts)) (sym same) ∙ sym equal ∙ ap (λ n. sum_to n (at others)) long)
      (λ i h. supported (total weights) u y (pot * at weights i) (at amounts i) (at others i)
      (low.2 i h) (level_at pot weights amounts e i j h low.1))

  pub closest_if_level : Closest pot weights amounts
  closest_if_level = record { none_closer = no_closer }
